-- The latest starts of all states as a record moves them on, state by state from the last. Assumes nothing.
use Rattle.std.proofs.Common.{◌≡◌, sym, ap, subst, ◌∙◌, Bool, true, List, ℕ, suc, ◌≤◌, ◌<◌, arith, bit_and, get_or}
use Rattle.numbers.specs.Bits.{bit}
use Rattle.numbers.proofs.Cases.{by_order}
use Rattle.numbers.proofs.Bits.{bit-zero}
use Rattle.automaton.proofs.Membership.{clash}
use Rattle.rule.specs.Promises.{most_bindings}
use Rattle.states.specs.States.{link_at, Inside}
use Rattle.sweep.specs.Starts.{row_places, place_of, LateOnes, Cleared, RowCleared}
use Rattle.sweep.specs.Starts.{Led, Spread, StateMoved, Came, Advanced}
use Rattle.sweep.specs.Starts.Cleared.{remains, cleared}
use Rattle.sweep.specs.Starts.Led.{unled, led}
use Rattle.sweep.specs.Starts.StateMoved.{idle, active}
use Rattle.sweep.specs.Starts.Came.{stayed, moved}
use Rattle.sweep.proofs.Starts.{and_right, same_place}

module _ (old leaves links : List ℕ) (count can low : ℕ) (tight : Bool) where
  module _ (mid : List ℕ) (at done : ℕ) (e : done ≡ suc at) (known : at < count)
      (l : Advanced old leaves links count can low tight mid done) where
    -- a state that no variable leaves
    idle-more : bit_and can (get_or leaves at 0) ≡ 0 → Advanced old leaves links count can low tight mid at
    idle-more none =
        record {
          size = l.size;
          before = λ k m a b. l.before k m a (omega arith);
          stays = λ k m a b quiet.
              by_order at m
              (λ d. l.stays k m a (omega arith) quiet)
              (λ d. let same = l.before k m a (omega arith) in omega arith);
          here = λ k m v a b inside late fires.
              by_order at m
              (λ d. l.here k m v a (omega arith) inside late fires)
              (λ d.
              let z : m ≡ at = omega arith in
              clash fires (ap (λ (x : ℕ). bit (bit_and can (get_or leaves x 0)) v) z ∙ ap (λ (x : ℕ). bit x v) none ∙ bit-zero v));
          came = λ k m a b late.
              by_order at m
              (λ d. l.came k m a (omega arith) late)
              (λ d.
              let z : at ≡ m = omega arith in
              stayed (sym (l.before k m a (omega arith)))
              (λ t inside. subst (λ (x : ℕ). bit_and can (get_or leaves x 0) ≡ 0) z none));
        }

    module _ (own cut new : List ℕ) (some : 0 < bit_and can (get_or leaves at 0)) (late-ones : LateOnes mid low at own)
        (clear : RowCleared mid tight at cut row_places)
        (spread : Spread cut links own at (bit_and can (get_or leaves at 0)) new)
        (inside : Inside leaves links count) where
      -- the places of another state are not cleared
      uncut-by :
          (k m : ℕ) → k ≤ most_bindings → (m ≡ at → ⊥) → Cleared mid tight at cut (place_of k m)
          → get_or cut (place_of k m) 0 ≡ get_or mid (place_of k m) 0
      uncut-by k m a other (remains b) = b
      uncut-by k m a other (cleared i b is t empty) = absurd (other (same_place k m i at a b is).0)

      uncut :
          (k m : ℕ) → k ≤ most_bindings → (m ≡ at → ⊥) → get_or cut (place_of k m) 0 ≡ get_or mid (place_of k m) 0
      uncut k m a other = uncut-by k m a other (clear.only (place_of k m))

      onward : (v : ℕ) → bit (bit_and can (get_or leaves at 0)) v ≡ true → at ≤ get_or links (link_at at v) 0
      onward v t = inside.onward at v known (and_right can (get_or leaves at 0) v t)

      before-by :
          (k m : ℕ) → k ≤ most_bindings → m < at → Led cut links own at (bit_and can (get_or leaves at 0)) new (place_of k m)
          → get_or new (place_of k m) 0 ≡ get_or old (place_of k m) 0
      before-by k m a b (unled q) = q ∙ uncut k m a (λ z. omega arith) ∙ l.before k m a (omega arith)
      before-by k m a b (led v i t f is q) =
          let z = (same_place k m (suc i) (get_or links (link_at at v) 0) a (omega arith) is).0 in
          let up = onward v t in
          absurd (omega arith)

      -- the state's own places stay where it is not tight
      own-by :
          (k : ℕ) → k ≤ most_bindings → (tight ≡ true → ⊥) → Cleared mid tight at cut (place_of k at)
          → get_or old (place_of k at) 0 ≤ get_or cut (place_of k at) 0
      own-by k a loose (remains b) = let c = l.before k at a (omega arith) in omega arith
      own-by k a loose (cleared i b is t empty) = absurd (loose t)

      late-own : (k : ℕ) → k ≤ most_bindings → low < get_or old (place_of k at) 0 → get_or own k 0 ≡ get_or old (place_of k at) 0
      late-own k a late =
          let as-old = l.before k at a (omega arith) in
          late-ones.late k a (omega arith) ∙ as-old

      -- a start that is handed on is one of the state's
      handed : (k : ℕ) → k ≤ most_bindings → low < get_or own k 0 → low < get_or old (place_of k at) 0
      handed k a late =
          let as-old = l.before k at a (omega arith) in
          by_order low (get_or mid (place_of k at) 0)
          (λ b. omega arith)
          (λ b. let z = late-ones.out k a b in absurd (omega arith))

      came-cut :
          (k m : ℕ) → k ≤ most_bindings → at ≤ m → low < get_or new (place_of k m) 0
          → get_or new (place_of k m) 0 ≡ get_or cut (place_of k m) 0
          → Cleared mid tight at cut (place_of k m)
          → Came old leaves links count can low tight k m (get_or new (place_of k m) 0)
      came-cut k m a b late q (cleared i c is t empty) = absurd (omega arith)
      came-cut k m a b late q (remains c) =
          by_order at m
          (λ d.
          subst (Came old leaves links count can low tight k m) (sym (q ∙ c))
          (l.came k m a (omega arith) (omega arith)))
          (λ d.
          let z : at ≡ m = omega arith in
          stayed (sym (q ∙ c ∙ l.before k m a (omega arith)))
          (λ t f.
          let gone = subst (λ (x : ℕ). get_or cut (place_of k x) 0 ≡ 0) z (clear.gone t k (omega arith)) in
          absurd (omega arith)))

      came-by :
          (k m : ℕ) → k ≤ most_bindings → at ≤ m → low < get_or new (place_of k m) 0
          → Led cut links own at (bit_and can (get_or leaves at 0)) new (place_of k m)
          → Came old leaves links count can low tight k m (get_or new (place_of k m) 0)
      came-by k m a b late (unled q) = came-cut k m a b late q (clear.only (place_of k m))
      came-by k m a b late (led v i t f is q) =
          let place = same_place k m (suc i) (get_or links (link_at at v) 0) a (omega arith) is in
          let from = handed i (omega arith) (omega arith) in
          moved i at v place.1 known from (sym (q ∙ late-own i (omega arith) from)) t (sym place.0)

      active-more : Advanced old leaves links count can low tight new at
      active-more =
          record {
            size = spread.size ∙ clear.size ∙ l.size;
            before = λ k m a b. before-by k m a b (spread.only (place_of k m));
            stays = λ k m a b quiet.
                let up = spread.above (place_of k m) in
                by_order at m
                (λ d.
                let same = uncut k m a (λ z. omega arith) in
                let h = l.stays k m a (omega arith) quiet in
                omega arith)
                (λ d.
                let z : at ≡ m = omega arith in
                let h = subst (λ (x : ℕ). get_or old (place_of k x) 0 ≤ get_or cut (place_of k x) 0) z (own-by k a (λ t. let none = ap (λ (x : ℕ). bit_and can (get_or leaves x 0)) z ∙ quiet t in omega arith) (clear.only (place_of k at))) in
                omega arith);
            here = λ k m v a b f late fires.
                by_order at m
                (λ d.
                let leave = and_right can (get_or leaves m 0) v fires in
                let on = inside.onward m v f leave in
                let same = uncut (suc k) (get_or links (link_at m v) 0) a (λ z. omega arith) in
                let up = spread.above (place_of (suc k) (get_or links (link_at m v) 0)) in
                let h = l.here k m v a (omega arith) f late fires in
                omega arith)
                (λ d.
                let z : at ≡ m = omega arith in
                subst (λ (x : ℕ). low < get_or old (place_of k x) 0 → bit (bit_and can (get_or leaves x 0)) v ≡ true → get_or old (place_of k x) 0 ≤ get_or new (place_of (suc k) (get_or links (link_at x v) 0)) 0) z
                (λ h t. let is = late-own k (omega arith) h in let up = spread.here v k t a in omega arith)
                late fires);
            came = λ k m a b late. came-by k m a b late (spread.only (place_of k m));
          }

  -- one state more
  pub advanced-more :
      (mid new : List ℕ) (at done : ℕ) → done ≡ suc at → at < count
      → Advanced old leaves links count can low tight mid done
      → Inside leaves links count
      → StateMoved mid leaves links can low tight at new
      → Advanced old leaves links count can low tight new at
  advanced-more mid new at done e known l inside (idle none is) =
      subst (λ (x : List ℕ). Advanced old leaves links count can low tight x at) (sym is) (idle-more mid at done e known l none)
  advanced-more mid new at done e known l inside (active own cut some late clear spread) =
      active-more mid at done e known l own cut new some late clear spread inside
