-- The test in parts is the rule's: the step on v fires by the plan, the mask and the held reading exactly where it
-- fires by the pattern, the block and the reading. Assumes nothing.
use Rattle.std.proofs.Common.{◌≡◌, ◌∙◌, refl, sym, ap, ap₂, Bool, true, false, ◌&&◌, ◌||◌, List, [], ◌∷◌, ℕ, ◌≤◌, ◌<◌}
use Rattle.std.proofs.Common.{arith, eqb, ltb}
use mathlib.Core.List.Memᴰ
use borrow.Author.Tests.{lt-ltb, eq-eqb, ltb-true}
use Rattle.numbers.specs.Numbers.{upto, every}
use Rattle.numbers.specs.Bits.{bit, mask, within, disjoint}
use Rattle.numbers.proofs.Cases.{both, same_test}
use Rattle.numbers.proofs.Every.{every_of, every_true, every-same, every-both}
use Rattle.numbers.proofs.Bits.{mask-inside, mask-bit}
use Rattle.records.specs.declared.Record.{Record}
use Rattle.records.specs.Records.{record_at, record_count, records_of}
use Rattle.records.proofs.Listed.{length-records, record-listed}
use Rattle.patterns.specs.declared.Condition.{Condition}
use Rattle.patterns.specs.declared.Pattern.{Pattern}
use Rattle.patterns.specs.Patterns.{most_variables, most_conditions}
use Rattle.patterns.specs.Checked.{condition_at, InOrder}
use Rattle.patterns.specs.Comparison.{holds}
use Rattle.automaton.specs.Filtering.{implies, all}
use Rattle.automaton.specs.Automaton.{leaves, marked, carries}
use Rattle.automaton.proofs.Membership.{all-mem}
use Rattle.automaton.proofs.All.{implies-of, implies_true, all_of, all_same, all_map, all-upto, implies-yes}
use Rattle.rule.specs.Rule.{Binding, Reading, TimesNeverFall, behind_end, record_in, time_at, binds, passes, in_order}
use Rattle.rule.specs.Rule.{allowed, fires}
use Rattle.slots.specs.Slots.{holding}
use Rattle.plans.specs.Plan.{is_own, is_join, join_mask, condition_in, marks_in, joins_in, IsPlan}
use Rattle.plans.proofs.States.{leaves_by_lem, marked_by}
use Rattle.plans.proofs.Plans.{before-in, after-in, marks-in, joins-in}
use Rattle.firing.specs.Firing.{own_holds, can_by, leaves_by, later_than, later_by, pair_holds, join_holds, joins_by}
use Rattle.firing.specs.Firing.{fires_by, ReadBelow}
use Rattle.firing.proofs.Conditions.{pair_of, condition-parts}

-- what decides a reading may be tested in any order
reordered : (a l t j : Bool) → a && (l && (t && j)) ≡ l && (t && (a && j))
reordered true l t j = refl
reordered false true true j = refl
reordered false true false j = refl
reordered false false t j = refl

-- a pair is tested by its two records
pair-look :
    (f g : ℕ → Record) (i v : ℕ) (k : Condition) (b : Binding) → f i ≡ g i → f b.at ≡ g b.at
    → pair_of f i v k b ≡ pair_of g i v k b
pair-look f g i v k b d e =
    ap₂ (λ (x y : Record). elim (eqb k.variable v) [ true ↦ implies (eqb b.variable k.variable2) (holds k x y) | false ↦ implies (eqb b.variable k.variable) (holds k y x) ]) d e

module _ (p : Pattern) (o : InOrder p) (plan : List ℕ) (is : IsPlan p plan) (bytes : List ℕ)
    (rising : TimesNeverFall (records_of bytes)) (i : ℕ) (h : i < record_count bytes) where
  -- the records up to i, in the list and in the bytes
  listed : (j : ℕ) → j ≤ i → record_in (records_of bytes) j ≡ record_at bytes j
  listed j l = record-listed bytes j behind_end (omega arith)

  module _ (v : ℕ) (l : v < p.n) where
    narrow : v < most_variables
    narrow = let few = o.few in omega arith

    -- ## The order mark

    module _ (b : Binding) (bs : Reading) (known : ReadBelow p i (b ∷ bs)) where
      abbrev is_later : Binding → Bool
      is_later a = ltb (time_at (records_of bytes) a.at) (time_at (records_of bytes) i)

      -- what is later than the latest binding is later than all of them
      latest-last : is_later b ≡ all is_later (b ∷ bs)
      latest-last =
          same_test (is_later b) (all is_later (b ∷ bs))
          (λ e. all_of is_later (b ∷ bs) (λ a m.
          let first = known.below b (Memᴰ.head refl) in
          let up = rising a.at b.at (known.latest a m) (omega (arith, length-records bytes)) in
          let down = ltb-true (time_at (records_of bytes) b.at) (time_at (records_of bytes) i) e in
          lt-ltb (time_at (records_of bytes) a.at) (time_at (records_of bytes) i) (omega arith)))
          (λ e. all-mem is_later (Memᴰ.head refl) e)

      later_last : later_than bytes i (b ∷ bs) ≡ all is_later (b ∷ bs)
      unfolding later_than
      later_last =
          let first = known.below b (Memᴰ.head refl) in
          ap₂ (λ (x y : Record). ltb x.time y.time) (sym (listed b.at (omega arith))) (sym (listed i (omega arith))) ∙ latest-last

    head-bound : (b : Binding) (bs : Reading) → binds (b ∷ bs) b.variable ≡ true
    unfolding binds
    head-bound b bs = ap (λ (t : Bool). t || binds bs b.variable) (eq-eqb b.variable b.variable refl)

    later-by : (r : Reading) → ReadBelow p i r → later_by plan bytes i v (holding r) ≡ in_order p (records_of bytes) r v i
    unfolding later_by later_than holding in_order all
    later-by [] known = implies-yes (disjoint (mask (binds []) most_variables) (marks_in plan v)) ∙ sym (implies-yes (marked p (binds []) v))
    later-by (b ∷ bs) known =
        ap₂ implies
        (ap (disjoint (mask (binds (b ∷ bs)) most_variables)) (marks-in p plan is v narrow)
        ∙ marked_by p o.few (binds (b ∷ bs)) v l b.variable (known.variable b (Memᴰ.head refl)) (head-bound b bs))
        (later_last b bs known)

    -- ## Leaving the state

    leaving-by : (r : Reading) → leaves_by plan (holding r).state v ≡ leaves p (binds r) v
    unfolding leaves_by holding
    leaving-by r =
        ap₂ (λ (a b : ℕ). elim (bit (mask (binds r) most_variables) v) [ true ↦ disjoint (mask (binds r) most_variables) a | false ↦ within b (mask (binds r) most_variables) ])
        (after-in p plan is v narrow)
        (before-in p plan is v narrow)
        ∙ leaves_by_lem p o.few (binds r) v l

    -- ## Conditions

    module _ (r : Reading) (known : ReadBelow p i r) where
      abbrev own : ℕ → Bool
      own q = implies (is_own v (condition_at p q)) (holds (condition_at p q) (record_in (records_of bytes) i) (record_in (records_of bytes) i))

      abbrev pairs : ℕ → Bool
      pairs q = all (pair_of (record_in (records_of bytes)) i v (condition_at p q)) r

      abbrev join : ℕ → Bool
      join q = implies (is_join v (condition_at p q)) (pairs q)

      allowed-parts : allowed p (records_of bytes) r v i ≡ every own p.c && every join p.c
      unfolding allowed
      allowed-parts =
          let asks : Condition → Bool = λ k. implies (carries (binds r) v k) (passes (records_of bytes) r v i k) in
          all_map asks (condition_at p) (upto 0 p.c)
          ∙ all-upto (λ q. asks (condition_at p q)) p.c
          ∙ every-same (λ q. asks (condition_at p q)) (λ q. own q && join q) p.c (λ q m. condition-parts (records_of bytes) r v i (condition_at p q))
          ∙ every-both own join p.c

      own-by : bit (can_by plan p.n p.c bytes i) v ≡ every own p.c
      unfolding can_by own_holds
      own-by =
          mask-inside (λ u. every (own_holds plan bytes i u) p.c) p.n v l
          ∙ every-same (own_holds plan bytes i v) own p.c (λ q m.
          ap₂ (λ (k : Condition) (x : Record). implies (is_own v k) (holds k x x)) (is.condition q m) (sym (listed i (omega arith))))

      pairs-by : (q : ℕ) → q < p.c → all (pair_holds bytes i v (condition_in plan q)) r ≡ pairs q
      unfolding pair_holds
      pairs-by q m =
          ap (λ (k : Condition). all (pair_holds bytes i v k) r) (is.condition q m)
          ∙ all_same (pair_holds bytes i v (condition_at p q)) (pair_of (record_in (records_of bytes)) i v (condition_at p q)) r (λ b n.
          let less = known.below b n in
          pair-look (record_at bytes) (record_in (records_of bytes)) i v (condition_at p q) b (sym (listed i (omega arith))) (sym (listed b.at (omega arith))))

      -- which conditions join v
      named_by : (q : ℕ) → bit (joins_in plan v) q ≡ ltb q p.c && is_join v (condition_at p q)
      unfolding join_mask
      named_by q = ap (λ (x : ℕ). bit x q) (joins-in p plan is v narrow) ∙ mask-bit (λ k. is_join v (condition_at p k)) p.c q

      joins-by : joins_by plan bytes i v r ≡ every join p.c
      unfolding joins_by join_holds
      joins-by =
          same_test (every (join_holds plan bytes i v r) most_conditions) (every join p.c)
          (λ e. every_of join p.c (λ q m.
          let few = o.few_conditions in
          implies-of (is_join v (condition_at p q)) (pairs q) (λ t.
          sym (pairs-by q m)
          ∙ implies_true (bit (joins_in plan v) q) (all (pair_holds bytes i v (condition_in plan q)) r) (every_true (join_holds plan bytes i v r) most_conditions e q (omega arith))
          (named_by q ∙ ap₂ (λ (x y : Bool). x && y) (lt-ltb q p.c m) t))))
          (λ e. every_of (join_holds plan bytes i v r) most_conditions (λ q m.
          implies-of (bit (joins_in plan v) q) (all (pair_holds bytes i v (condition_in plan q)) r) (λ t.
          let named = both (ltb q p.c) (is_join v (condition_at p q)) (sym (named_by q) ∙ t) in
          let small = ltb-true q p.c named.0 in
          pairs-by q small ∙ implies_true (is_join v (condition_at p q)) (pairs q) (every_true join p.c e q small) named.1)))

      -- ## The step

      pub fires-by :
          fires_by plan bytes i (can_by plan p.n p.c bytes i) v (holding r) ≡ fires p (records_of bytes) r v i
      unfolding fires_by fires holding
      fires-by =
          ap₂ (λ (a j : Bool). a && (leaves_by plan (holding r).state v && (later_by plan bytes i v (holding r) && j))) own-by joins-by
          ∙ reordered (every own p.c) (leaves_by plan (holding r).state v) (later_by plan bytes i v (holding r)) (every join p.c)
          ∙ ap₂ (λ (x y : Bool). x && y) (leaving-by r) (ap₂ (λ (x y : Bool). x && y) (later-by r known) (sym allowed-parts))
