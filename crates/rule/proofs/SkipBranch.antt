-- The laws by which the start-by-start pass goes: where a start's readings close, skip and branch, the starts in turn,
-- and what their findings come to. Assumes nothing.
use mathlib.Core.Path.{◌≡◌, refl, sym, ap, ◌∙◌}
use mathlib.Core.Bool.{Bool, true, false, not, ◌&&◌}
use mathlib.Core.List.{List, [], ◌∷◌, ◌++◌, append_assoc, Memᴰ}
use Prim.Native.Nat.{ℕ, zero, suc, ◌+◌, ◌-◌, ◌≤◌, ◌<◌, min}
use native.Mathlib.Omega.{arith}
use lib.ListN.{length}
use lib.Dec.{ltb}
use borrow.Author.Tests.{ltb-true, lt-ltb, le-ltb}
use Rattle.numbers.specs.Numbers.{upto, first}
use Rattle.numbers.proofs.Cases.{by-test, by_order, neither, not-not}
use Rattle.numbers.proofs.First.{first-bound, first-at, first-none, first-fails, first_passes}
use Rattle.patterns.specs.declared.Pattern.{Pattern}
use Rattle.automaton.specs.Filtering.{keep, filter, collect}
use Rattle.automaton.specs.Automaton.{variables_of}
use Rattle.automaton.proofs.Membership.{both, clash, upto-mem, mem-filter, filter-mem, mem-collect, collect-mem}
use Rattle.rule.specs.Rule.{Block, Reading, Line, fires, is_full, past_mark, end_mark, gap_mark, pack, pack_bindings}
use Rattle.rule.specs.Rule.{packed}
use Rattle.rule.specs.Promises.{most_bindings}
use Rattle.rule.specs.Computed.{is_event, only}
use Rattle.rule.specs.Starts.Found.{closed, over}
use Rattle.rule.specs.Starts.{Found, is_past, closes_at, until, mark_at, mark_of, any_fires, in_turn, close, skip_found}
use Rattle.rule.specs.Starts.{skip_until, branch_until, NextFire, start_found, found_from, found_all, lines_of}
use Rattle.rule.specs.Starts.{least_over}
use Rattle.rule.proofs.OnlyOrElse.{any-mem, mem-any}
use Rattle.rule.proofs.LiveReadings.{fires-variable, event-yes}
use Rattle.rule.proofs.Report.{event-in}

-- one record less is left
one_more : (a b : ℕ) → b < a → a - b ≡ suc (a - suc b)
one_more a b h = omega arith

-- ## Where a start's readings close

module _ (p : Pattern) (B : Block) (i : ℕ) where
  pub until-bound : until p B i ≤ length B
  unfolding until
  until-bound = first-bound (closes_at p B i) (length B)

  closes-later : (j : ℕ) → closes_at p B i j ≡ true → i < j
  unfolding closes_at
  closes-later j h = ltb-true i j (both {a = ltb i j} h).0

  pub until-after : i < length B → i < until p B i
  unfolding until
  until-after h = by_order (first (closes_at p B i) (length B)) (length B) (λ l. closes-later _ (first_passes (closes_at p B i) (length B) l)) (λ l. omega arith)

  -- a record of the window, before any gap
  pub open-yet : (j : ℕ) → i < j → closes_at p B i j ≡ false → (is_event B j ≡ true) × (is_past p B i j ≡ false)
  unfolding closes_at
  open-yet j h e =
      let q = neither (not (is_event B j)) (is_past p B i j) (rw (lt-ltb i j h) at e) in
      (not-not (is_event B j) q.0, q.1)

  pub before-until : (j : ℕ) → i < j → j < until p B i → (is_event B j ≡ true) × (is_past p B i j ≡ false)
  unfolding until
  before-until j h l = open-yet j h (first-fails (closes_at p B i) (length B) j l)

  pub closes-gap : (j : ℕ) → i < j → is_event B j ≡ false → closes_at p B i j ≡ true
  unfolding closes_at
  closes-gap j h e = rw (lt-ltb i j h, e)

  pub closes-past : (j : ℕ) → i < j → is_event B j ≡ true → is_past p B i j ≡ true → closes_at p B i j ≡ true
  unfolding closes_at
  closes-past j h e q = rw (lt-ltb i j h, e, q)

  pub stays_open : (j : ℕ) → is_event B j ≡ true → is_past p B i j ≡ false → closes_at p B i j ≡ false
  unfolding closes_at
  stays_open j e q = rw (e, q) (go (ltb i j))
    where
      go : (t : Bool) → t && false ≡ false
      go true = refl
      go false = refl

  -- the window is open from record i up to j
  still_open :
      (j : ℕ) → ((k : ℕ) → i < k → k < j → closes_at p B i k ≡ false) → (k : ℕ) → k < j → closes_at p B i k ≡ false
  unfolding closes_at
  still_open j h k l = by_order i k (λ m. h k m l) (λ m. rw (le-ltb i k m))

  pub until-at :
      (j : ℕ) → j < length B → ((k : ℕ) → i < k → k < j → closes_at p B i k ≡ false) → closes_at p B i j ≡ true
      → until p B i ≡ j
  unfolding until
  until-at j l h e = first-at (closes_at p B i) (length B) j l (still_open j h) e

  pub until_end : ((k : ℕ) → i < k → k < length B → closes_at p B i k ≡ false) → until p B i ≡ length B
  unfolding until
  until_end h = first-none (closes_at p B i) (length B) (still_open (length B) h)

  pub at-until : until p B i < length B → closes_at p B i (until p B i) ≡ true
  unfolding until
  at-until l = first_passes (closes_at p B i) (length B) l

-- ## The mark that it gives

module _ (p : Pattern) (B : Block) where
  pub mark-past : (j : ℕ) → is_event B j ≡ true → mark_at p B j ≡ past_mark
  unfolding mark_at
  mark-past j e = rw (e, mark_at)

  pub mark-gap : (j : ℕ) → j < length B → is_event B j ≡ false → mark_at p B j ≡ gap_mark p
  unfolding mark_at
  mark-gap j l e = rw (e, lt-ltb j (length B) l, mark_at)

  pub mark-end : mark_at p B (length B) ≡ end_mark
  unfolding mark_at
  mark-end = by-test (is_event B (length B)) (λ v. absurd (omega (arith, event-in p B (length B) (event-yes p B (length B) v)))) (λ v. rw (v, le-ltb (length B) (length B) (omega arith), mark_at))

-- ## Whether some step fires

module _ (p : Pattern) (B : Block) (r : Reading) (j : ℕ) where
  pub fires-any : (v : ℕ) → fires p B r v j ≡ true → any_fires p B r j ≡ true
  unfolding any_fires
  fires-any v h = any-mem (λ v. fires p B r v j) (upto-mem 0 p.n v (omega arith) (omega (arith, fires-variable p B r v j h))) h

  pub any-fires : any_fires p B r j ≡ true → (v : ℕ) × (fires p B r v j ≡ true)
  unfolding any_fires
  any-fires h = let q = mem-any (λ v. fires p B r v j) (variables_of p) h in (q.0, q.2)

  pub none-fires : ((v : ℕ) → v < p.n → fires p B r v j ≡ false) → any_fires p B r j ≡ false
  none-fires h = by-test (any_fires p B r j) (λ e. let q = any-fires e in clash q.1 (h q.0 (fires-variable p B r q.0 j q.1))) (λ e. e)

  pub fires-none : any_fires p B r j ≡ false → (v : ℕ) → fires p B r v j ≡ false
  fires-none h v = by-test (fires p B r v j) (λ e. clash (fires-any v e) h) (λ e. e)

-- ## Branch: each firing variable in turn

module _ (test : ℕ → Bool) (next : ℕ → List Found) where
  pub turn_end : (n v : ℕ) → n ≤ v → in_turn test next v (n - v) ≡ []
  unfolding in_turn upto filter collect
  turn_end n v h = let z : n - v ≡ 0 = omega arith in rw z

  pub turn-misses :
      (n v : ℕ) → v < n → test v ≡ false → in_turn test next v (n - v) ≡ in_turn test next (suc v) (n - suc v)
  unfolding in_turn upto filter keep
  turn-misses n v h e = rw (one_more n v h, e)

  pub turn-takes :
      (n v : ℕ) → v < n → test v ≡ true → in_turn test next v (n - v) ≡ next v ++ in_turn test next (suc v) (n - suc v)
  unfolding in_turn upto filter keep collect
  turn-takes n v h e = rw (one_more n v h, e)

  turn_by :
      (n d v : ℕ) → v + d ≤ n → ((w : ℕ) → v ≤ w → w < v + d → test w ≡ false)
      → in_turn test next v (n - v) ≡ in_turn test next (v + d) (n - (v + d))
  turn_by n zero v l h = let z : v + 0 ≡ v = omega arith in rw z
  turn_by n (suc d) v l h =
      let z : suc v + d ≡ v + suc d = omega arith in
      turn-misses n v (omega arith) (h v (omega arith) (omega arith)) ∙ turn_by n d (suc v) (omega arith) (λ w a b. h w (omega arith) (omega arith)) ∙ ap (λ (w : ℕ). in_turn test next w (n - w)) z

  -- the variables that do not fire are passed over
  pub turn-to :
      (n v w : ℕ) → v ≤ w → w ≤ n → ((u : ℕ) → v ≤ u → u < w → test u ≡ false)
      → in_turn test next v (n - v) ≡ in_turn test next w (n - w)
  turn-to n v w a b h =
      let z : v + (w - v) ≡ w = omega arith in
      turn_by n (w - v) v (omega arith) (λ u c d. h u c (omega arith)) ∙ ap (λ (u : ℕ). in_turn test next u (n - u)) z

  pub mem-turn :
      (v n : ℕ) {x : Found} → Memᴰ x (in_turn test next v n) → (w : ℕ) × (test w ≡ true) × Memᴰ x (next w)
  unfolding in_turn
  mem-turn v n m = let c = mem-collect next (filter test (upto v n)) m in (c.0, (mem-filter test (upto v n) c.1).0, c.2)

  pub turn-mem :
      (v n w : ℕ) → v ≤ w → w < v + n → test w ≡ true → {x : Found} → Memᴰ x (next w)
      → Memᴰ x (in_turn test next v n)
  unfolding in_turn
  turn-mem v n w a b e m = collect-mem next (filter-mem test (upto-mem v n w a b) e) m

-- ## Where a reading closes

module _ (p : Pattern) (mark : ℕ) (r : Reading) where
  pub close-full : is_full p r ≡ true → close p mark r ≡ closed mark r ∷ []
  unfolding close only
  close-full e = rw e

  pub close-part : is_full p r ≡ false → close p mark r ≡ []
  unfolding close only
  close-part e = rw e

-- ## Skip: to the next record that fires

module _ (p : Pattern) (B : Block) (mark end : ℕ) (r : Reading) where
  pub skip-passes :
      (j : ℕ) → j < end → any_fires p B r j ≡ false → skip_until p B mark end j r ≡ skip_until p B mark end (suc j) r
  unfolding skip_found
  skip-passes j l e = rw (one_more end j l, e, skip_found)

  skip_by :
      (d j : ℕ) → j + d ≤ end → ((i : ℕ) → j ≤ i → i < j + d → any_fires p B r i ≡ false)
      → skip_until p B mark end j r ≡ skip_until p B mark end (j + d) r
  skip_by zero j l h = let z : j + 0 ≡ j = omega arith in rw z
  skip_by (suc d) j l h =
      let z : suc j + d ≡ j + suc d = omega arith in
      skip-passes j (omega arith) (h j (omega arith) (omega arith)) ∙ skip_by d (suc j) (omega arith) (λ i a b. h i (omega arith) (omega arith)) ∙ ap (λ (k : ℕ). skip_until p B mark end k r) z

  -- if no step fires from j up to q, it is as well to begin at q
  pub skip-to :
      (j q : ℕ) → j ≤ q → q ≤ end → ((i : ℕ) → j ≤ i → i < q → any_fires p B r i ≡ false)
      → skip_until p B mark end j r ≡ skip_until p B mark end q r
  skip-to j q a b h =
      let z : j + (q - j) ≡ q = omega arith in
      skip_by (q - j) j (omega arith) (λ i c d. h i c (omega arith)) ∙ ap (λ (k : ℕ). skip_until p B mark end k r) z

  pub skip-closes : (j : ℕ) → end ≤ j → skip_until p B mark end j r ≡ close p mark r
  unfolding skip_found
  skip-closes j l = let z : end - j ≡ 0 = omega arith in rw (z, skip_found)

  -- where a step fires
  pub skip-takes :
      (j : ℕ) → j < end → any_fires p B r j ≡ true → length r < most_bindings
      → skip_until p B mark end j r ≡ branch_until p B mark end j r 0
  unfolding skip_found
  skip-takes j l e s = let z : p.n - 0 ≡ p.n = omega arith in rw (z, one_more end j l, e, lt-ltb (length r) most_bindings s, skip_found)

  pub skip-over :
      (j : ℕ) → j < end → any_fires p B r j ≡ true → most_bindings ≤ length r → skip_until p B mark end j r ≡ over j ∷ []
  unfolding skip_found
  skip-over j l e s = rw (one_more end j l, e, le-ltb (length r) most_bindings s, skip_found)

  module _ (j q : ℕ) (next : NextFire p B r j end q) where
    skip-next : skip_until p B mark end j r ≡ skip_until p B mark end q r
    skip-next = skip-to j q next.from next.up_to next.passed

    pub next-closes : q ≡ end → skip_until p B mark end j r ≡ close p mark r
    next-closes e = skip-next ∙ skip-closes q (omega arith)

    pub next-takes : q < end → length r < most_bindings → skip_until p B mark end j r ≡ branch_until p B mark end q r 0
    next-takes l s = skip-next ∙ skip-takes q l (next.here l) s

    pub next-over : q < end → most_bindings ≤ length r → skip_until p B mark end j r ≡ over q ∷ []
    next-over l s = skip-next ∙ skip-over q l (next.here l) s

-- ## The starts in turn

module _ (p : Pattern) (B : Block) where
  pub start-event :
      (i : ℕ) → is_event B i ≡ true → start_found p B i ≡ branch_until p B (mark_of p B i) (until p B i) i [] 0
  unfolding start_found only
  start-event i e = rw e

  pub start-gap : (i : ℕ) → is_event B i ≡ false → start_found p B i ≡ []
  unfolding start_found only
  start-gap i e = rw e

  pub found-end : (i m : ℕ) → m ≤ i → found_from p B i (m - i) ≡ []
  unfolding found_from upto collect
  found-end i m h = let z : m - i ≡ 0 = omega arith in rw z

  pub found_all_lem : found_from p B 0 (length B - 0) ≡ found_all p B
  unfolding found_all
  found_all_lem = let z : length B - 0 ≡ length B = omega arith in rw z

  -- first the start at record i, then the others
  pub found_first : (i m : ℕ) → i < m → found_from p B i (m - i) ≡ start_found p B i ++ found_from p B (suc i) (m - suc i)
  unfolding found_from upto collect
  found_first i m h = rw (one_more m i h)

-- ## What they come to

pub lines-append : (l m : List Found) → lines_of (l ++ m) ≡ lines_of l ++ lines_of m
unfolding lines_of
lines-append [] m = refl
lines-append (closed mark r ∷ l) m = ap (λ t. record { mark = mark; reading = r } ∷ t) (lines-append l m)
lines-append (over j ∷ l) m = lines-append l m

pub pack-append : (l m : List Line) → pack (l ++ m) ≡ pack l ++ pack m
pack-append [] m = refl
pack-append (x ∷ l) m = ap (λ t. packed x.mark (length x.reading) ∷ t) (ap (λ t. pack_bindings x.reading ++ t) (pack-append l m) ∙ sym (append_assoc (pack_bindings x.reading) (pack l) (pack m)))

-- what stands for none may be looked at first or last
pub least-none : (a b : ℕ) (l : List Found) → least_over (min a b) l ≡ min a (least_over b l)
unfolding least_over
least-none a b [] = refl
least-none a b (closed mark r ∷ l) = least-none a b l
least-none a b (over j ∷ l) = let h = least-none a b l in omega arith

pub least-append : (none : ℕ) (l m : List Found) → least_over none (l ++ m) ≡ least_over (least_over none m) l
unfolding least_over
least-append none [] m = refl
least-append none (closed mark r ∷ l) m = least-append none l m
least-append none (over j ∷ l) m = ap (min j) (least-append none l m)
