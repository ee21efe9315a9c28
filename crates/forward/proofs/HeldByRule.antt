-- One record on the readings that working memory holds is one record by the rule: what the live readings become, which
-- of them close, and which are full. Assumes nothing.
use mathlib.Core.Path.{◌≡◌, refl, sym, ap, ap₂, ◌∙◌}
use mathlib.Core.Bool.{Bool, true, false, not, ◌&&◌}
use mathlib.Core.List.Memᴰ
use mathlib.Core.List.{List, [], ◌∷◌, ◌++◌, map, map-map, Memᴰ}
use Prim.Native.Nat.{ℕ, zero, suc, ◌+◌, ◌-◌, ◌^◌, ◌≤◌, ◌<◌}
use native.Mathlib.Nat.{pow-suc}
use native.Mathlib.Omega.{arith}
use borrow.Author.Tests.{lt-ltb, le-ltb, le-leb, lt-leb}
use lib.Dec.{ltb, leb, eqb}
use Rattle.numbers.specs.Numbers.{upto, every}
use Rattle.numbers.specs.Bits.{mask, within}
use Rattle.numbers.proofs.Cases.{by_order, same_test}
use Rattle.numbers.proofs.Every.{every_of, every_true}
use Rattle.numbers.proofs.Bits.{bit_high, mask_bound, within-mask, within-mask-of}
use Rattle.records.specs.declared.Record.{Record}
use Rattle.records.specs.Records.{record_at, record_count, records_of, event_kind}
use Rattle.records.proofs.Listed.{length-records, record-listed}
use Rattle.patterns.specs.declared.Pattern.{Pattern}
use Rattle.patterns.specs.Patterns.{most_variables}
use Rattle.patterns.specs.Checked.{InOrder}
use Rattle.automaton.specs.Filtering.{filter, collect}
use Rattle.automaton.proofs.Membership.{mem-filter, upto-below}
use Rattle.automaton.proofs.All.{all-upto}
use Rattle.automaton.proofs.Ordered.{Ordered}
use Rattle.rule.specs.Rule.{Block, Binding, Reading, TimesNeverFall, behind_end, record_in, time_at, start_of, last_of}
use Rattle.rule.specs.Rule.{binds, fires, is_full, Before, sooner, smaller}
use Rattle.rule.specs.Growth.{Partial, Live}
use Rattle.rule.specs.Computed.{is_event, in_window, only, or_else, fired, extend, step, live, line, lines}
use Rattle.rule.proofs.OnlyOrElse.{collect-same, collect-map}
use Rattle.rule.proofs.LiveReadings.{live-sound}
use Rattle.rule.proofs.LiveOrder.{live-ordered, start-lt}
use Rattle.rule.proofs.EveryReading.{variable-in, below}
use Rattle.slots.specs.Slots.{Held, holding, grow}
use Rattle.slots.proofs.Holding.{holding-grow, holding-bit}
use Rattle.plans.specs.Plan.{IsPlan}
use Rattle.firing.specs.Firing.{own_holds, can_by, leaves_by, agrees_by, fires_by, ReadBelow}
use Rattle.firing.proofs.FiresBy.{fires-by}
use Rattle.live.specs.Live.{fired_by, extend_by, unbound, step_by, is_event_by}
use Rattle.live.proofs.MapFilter.{filter-upto, filter_same, map-append, map_same, map-filter, map-collect, map-or-else}
use Rattle.live.proofs.MapFilter.{collect-only}
use Rattle.forward.specs.Closing.{is_late, is_full_by, lines_by}

-- ## Full readings

pub pow-some : (k : ℕ) → 1 ≤ 2 ^ k
pow-some zero = omega arith
pow-some (suc k) = omega (arith, pow-suc 2 k, pow-some k)

mask-all : (n : ℕ) → mask (λ v. true) n ≡ 2 ^ n - 1
unfolding mask
mask-all zero = refl
mask-all (suc n) = omega (arith, mask-all n, pow-suc 2 n, pow-some n)

pub full-held : (p : Pattern) → p.n ≤ most_variables → (r : Reading) → is_full_by (2 ^ p.n - 1) (holding r) ≡ is_full p r
unfolding is_full_by is_full
full-held p few r =
    let state : ℕ = (holding r).state in
    ap (λ (full : ℕ). within full state) (sym (mask-all p.n))
    ∙ same_test (within (mask (λ v. true) p.n) state) (every (binds r) p.n)
    (λ e. every_of (binds r) p.n (λ v l. sym (holding-bit r v (omega arith)) ∙ within-mask (λ u. true) state p.n e v l refl))
    (λ e. within-mask-of (λ u. true) state p.n (λ v l t. holding-bit r v (omega arith) ∙ every_true (binds r) p.n e v l))
    ∙ sym (all-upto (binds r) p.n)

pub lines-held :
    (p : Pattern) → p.n ≤ most_variables → (mark : ℕ) (l : List Reading)
    → lines_by (2 ^ p.n - 1) mark (map holding l) ≡ lines p mark l
unfolding lines_by lines holding
lines-held p few mark l =
    ap (map (λ (h : Held). line mark h.bindings))
    (map-filter holding (is_full_by (2 ^ p.n - 1)) l
    ∙ ap (map holding) (filter_same (λ r. is_full_by (2 ^ p.n - 1) (holding r)) (is_full p) l (λ r m. full-held p few r)))
    ∙ map-map (λ (h : Held). line mark h.bindings) holding (filter (is_full p) l)

module _ (p : Pattern) (o : InOrder p) (plan : List ℕ) (is : IsPlan p plan) (bytes : List ℕ)
    (rising : TimesNeverFall (records_of bytes)) where
  abbrev B : Block
  B = records_of bytes

  -- ## What a live reading is known by

  at_most : (r : Reading) → Partial p B r → {b : Binding} → Memᴰ b r → b.at ≤ last_of r
  at_most [] h {b = b} _ = elim h [ ]
  at_most (x ∷ r) h (Memᴰ.head e) = omega (arith, ap (λ (c : Binding). c.at) e)
  at_most (x ∷ r) h (Memᴰ.tail m) = omega (arith, below p B x r h m)

  pub known : (i : ℕ) (r : Reading) → Live p B r i → ReadBelow p i r
  known i r l =
      let later = l.kept.later in
      record {
        variable = λ b m. variable-in p B r l.reads m;
        below = λ b m. omega (arith, at_most r l.reads m);
        latest = λ b m. at_most r l.reads m;
      }

  known-none : (i : ℕ) → ReadBelow p i []
  known-none i =
      record {
        variable = λ b m. absurd (Memᴰ.not-nil m);
        below = λ b m. absurd (Memᴰ.not-nil m);
        latest = λ b m. absurd (Memᴰ.not-nil m);
      }

  holding-none : holding [] ≡ unbound
  unfolding holding unbound mask binds
  holding-none = refl

  module _ (i : ℕ) (h : i < record_count bytes) where
    abbrev can : ℕ
    can = can_by plan p.n p.c bytes i

    -- ## Going on

    -- no variable behind the last has its bit
    fails-behind : (v : ℕ) (h : Held) → p.n ≤ v → fires_by plan bytes i can v h ≡ false
    unfolding fires_by can_by
    fails-behind v h l =
        let own : ℕ → Bool = λ v. every (own_holds plan bytes i v) p.c in
        ap (λ (t : Bool). t && (leaves_by plan h.state v && agrees_by plan bytes i v h))
        (bit_high (mask own p.n) p.n v (mask_bound own p.n) l)

    fired-variables :
        (r : Reading) → ReadBelow p i r
        → filter (λ v. fires_by plan bytes i can v (holding r)) (upto 0 most_variables)
        ≡ filter (λ v. fires p B r v i) (upto 0 p.n)
    fired-variables r k =
        let few = o.few in
        filter-upto (λ v. fires_by plan bytes i can v (holding r)) p.n most_variables few (λ v l. fails-behind v (holding r) l)
        ∙ filter_same (λ v. fires_by plan bytes i can v (holding r)) (λ v. fires p B r v i) (upto 0 p.n)
        (λ v m. fires-by p o plan is bytes rising i h v (omega (arith, upto-below 0 p.n m)) r k)

    fired-held : (r : Reading) → ReadBelow p i r → fired_by plan bytes i can (holding r) ≡ map holding (fired p B i r)
    unfolding fired_by fired
    fired-held r k =
        let few = o.few in
        let grown : ℕ → Reading = λ v. record { variable = v; at = i } ∷ r in
        let chosen : List ℕ = filter (λ v. fires p B r v i) (upto 0 p.n) in
        ap (map (λ v. grow i v (holding r))) (fired-variables r k)
        ∙ map_same (λ v. grow i v (holding r)) (λ v. holding (grown v)) chosen
        (λ v m. holding-grow r i v (omega (arith, upto-below 0 p.n (mem-filter (λ v. fires p B r v i) (upto 0 p.n) m).1)))
        ∙ sym (map-map holding grown chosen)

    extend-held :
        (r : Reading) → ReadBelow p i r → extend_by plan bytes i can (holding r) ≡ map holding (or_else r (fired p B i r))
    unfolding extend_by
    extend-held r k = ap (or_else (holding r)) (fired-held r k) ∙ map-or-else holding r (fired p B i r)

    -- those that are left
    near : List Reading
    near = filter (λ r. in_window p B r i) (live p B i)

    old-held :
        collect (extend_by plan bytes i can) (map holding near) ≡ map holding (collect (extend p B i) (live p B i))
    unfolding near extend
    old-held =
        let goes : Reading → List Reading = λ r. or_else r (fired p B i r) in
        collect-map (extend_by plan bytes i can) holding near
        ∙ collect-same (λ r. extend_by plan bytes i can (holding r)) (λ r. map holding (goes r)) near
        (λ r m. extend-held r (known i r (live-sound p B i (mem-filter (λ r. in_window p B r i) (live p B i) m).1)))
        ∙ map-collect holding goes near
        ∙ ap (map holding) (sym (collect-only (λ r. in_window p B r i) goes (live p B i)))

    new-held : fired_by plan bytes i can unbound ≡ map holding (fired p B i [])
    new-held = ap (fired_by plan bytes i can) (sym holding-none) ∙ fired-held [] (known-none i)

    pub step-held :
        is_event B i ≡ true
        → step_by plan bytes i can (map holding (filter (λ r. in_window p B r i) (live p B i)))
        ≡ map holding (live p B (suc i))
    unfolding step_by live step only near
    step-held e =
        ap₂ ◌++◌ old-held new-held
        ∙ sym (map-append holding (collect (extend p B i) (live p B i)) (fired p B i []))
        ∙ ap (λ (t : Bool). map holding (only t (collect (extend p B i) (live p B i) ++ fired p B i []))) (sym e)

    -- ## Late readings

    listed : (j : ℕ) → j ≤ i → record_in B j ≡ record_at bytes j
    listed j l = record-listed bytes j behind_end (omega arith)

    pub event-held : is_event_by bytes i ≡ is_event B i
    unfolding is_event_by is_event
    event-held = ap (λ (r : Record). eqb r.kind event_kind) (sym (listed i (omega arith)))

    not-leb : (x y : ℕ) → ltb y x ≡ not (leb x y)
    not-leb x y = by_order y x (λ l. lt-ltb y x l ∙ sym (ap not (lt-leb x y l))) (λ l. le-ltb y x l ∙ sym (ap not (le-leb x y l)))

    pub late_is : (r : Reading) → Live p B r i → is_late bytes i p.duration (holding r) ≡ not (in_window p B r i)
    unfolding is_late in_window holding
    late_is r l =
        let a = ap (λ (r : Record). r.time) (listed (start_of r) (omega (arith, start-lt p B i r l))) in
        let b = ap (λ (r : Record). r.time) (listed i (omega arith)) in
        ap₂ (λ (x y : ℕ). ltb (x + p.duration) y) (sym a) (sym b)
        ∙ not-leb (time_at B i) (time_at B (start_of r) + p.duration)

    -- one that is late has only late ones before it
    before-start : (r s : Reading) → Before r s → start_of r ≤ start_of s
    before-start r s (sooner l) = omega arith
    before-start r s (smaller e l) = omega arith

    late-before :
        (r s : Reading) → Live p B s i → Before r s → not (in_window p B s i) ≡ true → not (in_window p B r i) ≡ true
    unfolding in_window
    late-before r s l b e =
        by_order (time_at B (start_of r) + p.duration) (time_at B i)
        (λ m. ap not (lt-leb (time_at B i) (time_at B (start_of r) + p.duration) m))
        (λ m.
        let start = start-lt p B i s l in
        let up = rising (start_of r) (start_of s) (before-start r s b) (omega (arith, length-records bytes)) in
        absurd (let z = sym (ap not (le-leb (time_at B i) (time_at B (start_of s) + p.duration) (omega arith))) ∙ e in let q : ◌≡◌ {A = ℕ} 0 1 = cc in omega arith))

    ordered-late :
        (l : List Reading) → ((r : Reading) → Memᴰ r l → Live p B r i) → Ordered Before l
        → Ordered (λ r s. not (in_window p B s i) ≡ true → not (in_window p B r i) ≡ true) l
    ordered-late [] n q = tt
    ordered-late (r ∷ l) n q =
        (λ s m. late-before r s (n s (Memᴰ.tail m)) (q.0 s m), ordered-late l (λ s m. n s (Memᴰ.tail m)) q.1)

    pub live-late : Ordered (λ r s. not (in_window p B s i) ≡ true → not (in_window p B r i) ≡ true) (live p B i)
    live-late = ordered-late (live p B i) (λ r m. live-sound p B i m) (live-ordered p B i)
