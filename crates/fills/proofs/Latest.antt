-- The latest binding of the readings that a slot's reading can grow to: the slot's own, the one that completes a set,
-- and that of a loop which is sure to take its record. Assumes nothing.
use mathlib.Core.Path.{◌≡◌, sym, ap, subst, ◌∙◌}
use mathlib.Core.Bool.{Bool, true, false, ◌||◌, or-true}
use mathlib.Core.List.{List}
use Prim.Native.Nat.{ℕ, ◌+◌, ◌^◌, ◌≤◌, ◌<◌}
use native.Mathlib.Omega.{arith}
use borrow.Author.Tests.{eqb-true}
use lib.Bits.{bit_and, bit_or}
use lib.Dec.{eqb}
use Rattle.numbers.specs.Bits.{bit, mask}
use Rattle.numbers.proofs.Cases.{by_order, both}
use Rattle.numbers.proofs.Bits.{bit-and, bit-or, mask_bound, mask-inside}
use Rattle.records.specs.Records.{record_count, records_of}
use Rattle.patterns.specs.declared.Pattern.{Pattern}
use Rattle.patterns.specs.Patterns.{most_variables}
use Rattle.automaton.proofs.Membership.{clash}
use Rattle.rule.specs.Rule.{Reading, binds, fires}
use Rattle.rule.specs.Starts.{with_binding}
use Rattle.slots.specs.Slots.{held_in, holding}
use Rattle.slots.proofs.Holding.{holding-bit}
use Rattle.plans.specs.Plan.{joins_in}
use Rattle.firing.specs.Firing.{can_by, leaves_by, later_than}
use Rattle.reach.specs.declared.Start.{Start}
use Rattle.reach.specs.Readings.{leaving_by, Ready, Of}
use Rattle.reach.specs.Growing.{Grows}
use Rattle.reach.specs.Growing.Grows.{here, waits, takes}
use Rattle.reach.proofs.Growing.{grows-later, grows-below}
use Rattle.reach.proofs.MaskInTurn.{low_bits}
use Rattle.fills.specs.Filling.{Within, Late}
use Rattle.fills.specs.Opening.{unjoined_in, up_to, Early, Sure, LastAt}
use Rattle.fills.proofs.Counting.{some-bit}
use Rattle.reach.proofs.Readings.{read_below}
use Rattle.fills.proofs.Sets.{IsNext, next-below, next-new}
use Rattle.fills.proofs.OrderMark.{up-to-below, early-held, early-taken, loop-fires}

-- the bound variables that leave `reached` and that nothing joins
pub sure-loops :
    (plan : List ℕ) (n reached leave free : ℕ) → leave ≡ leaving_by plan n reached → free ≡ unjoined_in plan n
    → Sure plan n reached (bit_and (bit_and leave reached) free)
unfolding leaving_by unjoined_in
sure-loops plan n reached leave free e z =
    let parts : (v : ℕ) → bit (bit_and (bit_and leave reached) free) v ≡ true → (bit (bit_and leave reached) v ≡ true) × (bit free v ≡ true) =
    λ v t. both (bit (bit_and leave reached) v) (bit free v) (sym (bit-and (bit_and leave reached) free v) ∙ t) in
    let loops : (v : ℕ) → bit (bit_and (bit_and leave reached) free) v ≡ true → (bit leave v ≡ true) × (bit reached v ≡ true) =
    λ v t. both (bit leave v) (bit reached v) (sym (bit-and leave reached v) ∙ (parts v t).0) in
    let below : (v : ℕ) → bit (bit_and (bit_and leave reached) free) v ≡ true → v < n =
    λ v t. low_bits (mask (leaves_by plan reached) n) n v (mask_bound (leaves_by plan reached) n) (ap (λ (x : ℕ). bit x v) (sym e) ∙ (loops v t).0) in
    record {
      below = below;
      bound = λ v t. (loops v t).1;
      leaves = λ v t. sym (mask-inside (leaves_by plan reached) n v (below v t)) ∙ ap (λ (x : ℕ). bit x v) (sym e) ∙ (loops v t).0;
      joins = λ v t.
          eqb-true (joins_in plan v) 0
          (sym (mask-inside (λ u. eqb (joins_in plan u) 0) n v (below v t)) ∙ ap (λ (x : ℕ). bit x v) (sym z) ∙ (parts v t).1);
    }

module _ (plan bytes : List ℕ) (s : Start) (slot : List ℕ) (j : ℕ) (ready : Ready plan bytes s slot j) where
  abbrev r : Reading
  r = (held_in slot).bindings

  -- a binding taken at record k
  taken-held :
      (q o : Reading) (v k last i : ℕ) → q ≡ with_binding o v k → last ≤ k + 1 → k < s.until → Early bytes last i
      → later_than bytes i q ≡ false
  taken-held q o v k last i b m l x =
      let block = ready.block in
      subst (λ (y : Reading). later_than bytes i y ≡ false) (sym b)
      (early-taken bytes ready.usable.climbing o v k last i m (omega arith) x)

  first-held :
      (p : Pattern) (q : Reading) (k : ℕ) → Grows p (records_of bytes) r j q k → k ≤ s.until → (i : ℕ)
      → Early bytes (up_to r) i
      → later_than bytes i q ≡ false
  first-held p q k (here a b) m i x =
      subst (λ (y : Reading). later_than bytes i y ≡ false) (sym a) (early-held bytes i r x)
  first-held p q k (waits d e g idle) m i x = first-held p q d g (omega arith) i x
  first-held p q k (takes d v o e b g f) m i x =
      let below = up-to-below r j ready.reads.below in
      let after = grows-later p (records_of bytes) r j o d g in
      taken-held q o v d (up_to r) i b (omega arith) (omega arith) x

  -- the slot's own
  pub last-first : (reached : ℕ) → LastAt plan bytes s slot j reached (up_to r) j
  last-first reached = record { late = λ p of q k g l m e i x. first-held p q k g m i x }

  -- the one that completes a set
  module _ (reached set from end : ℕ) (some : 0 < set) (small : set < 2 ^ most_variables) (after : j ≤ from)
      (next : IsNext plan s.n reached set) (known : Within plan bytes s slot j reached from)
      (late : Late plan bytes s slot j set end) where
    set-held :
        (p : Pattern) → Of p plan bytes s.n s.c → (q : Reading) (k : ℕ) → Grows p (records_of bytes) r j q k
        → k ≤ s.until → ((v : ℕ) → bit set v ≡ true → binds q v ≡ true) → (i : ℕ) → Early bytes end i
        → later_than bytes i q ≡ false
    set-held p of q k (here a b) m all i x =
        let v = some-bit set most_variables some small in
        clash (all v.0 v.1)
        (known.unbound p of q k (here a b) (omega arith) v.0 (next-below plan s.n reached set next v.0 v.1) (next-new plan s.n reached set next v.0 v.1))
    set-held p of q k (waits d e g idle) m all i x = set-held p of q d g (omega arith) all i x
    set-held p of q k (takes d v o e b g f) m all i x =
        let last = late.from p of q k (takes d v o e b g f) all in
        taken-held q o v d end i b (omega arith) (omega arith) x

    pub last_more : LastAt plan bytes s slot j (bit_or reached set) end end
    last_more =
        record {
          late = λ p of q k g l m e i x.
              set-held p of q k g m
              (λ v t.
              let few = ready.usable.variables in
              let below = next-below plan s.n reached set next v t in
              sym (holding-bit q v (omega arith))
              ∙ ap (λ (y : ℕ). bit y v) e
              ∙ bit-or reached set v
              ∙ ap (λ (b : Bool). bit reached v || b) t
              ∙ or-true (bit reached v))
              i x;
        }

  -- one record more
  module _ (reached i last : ℕ) (after : j ≤ i) (inside : i < s.until) where
    in_block : i < record_count bytes
    in_block = let block = ready.block in omega arith

    -- a loop that is sure takes the record
    module _ (sure : ℕ) (loops : Sure plan s.n reached sure)
        (able : 0 < bit_and (can_by plan s.n s.c bytes i) sure)
        (small : bit_and (can_by plan s.n s.c bytes i) sure < 2 ^ most_variables) where
      not-idle :
          (p : Pattern) → Of p plan bytes s.n s.c → (q : Reading) → Grows p (records_of bytes) r j q i
          → (holding q).state ≡ reached
          → ((v : ℕ) → fires p (records_of bytes) q v i ≡ false)
          → ⊥
      not-idle p of q g e idle =
          let v = some-bit (bit_and (can_by plan s.n s.c bytes i) sure) most_variables able small in
          let parts = both (bit (can_by plan s.n s.c bytes i) v.0) (bit sure v.0) (sym (bit-and (can_by plan s.n s.c bytes i) sure v.0) ∙ v.1) in
          let below = grows-below p (records_of bytes) r j q i g (read_below p plan bytes s.n s.c of j slot ready.reads) in
          clash
          (loop-fires p plan bytes s.n s.c of q i v.0 in_block (loops.below v.0 parts.1) below
          (ap (λ (y : ℕ). bit y v.0) e ∙ loops.bound v.0 parts.1)
          (ap (λ (y : ℕ). leaves_by plan y v.0) e ∙ loops.leaves v.0 parts.1)
          (loops.joins v.0 parts.1)
          parts.0)
          (idle v.0)

      loop-held :
          (p : Pattern) → Of p plan bytes s.n s.c → (q : Reading) (k : ℕ) → Grows p (records_of bytes) r j q k
          → i < k → k ≤ s.until → (holding q).state ≡ reached → (m : ℕ) → Early bytes (i + 1) m
          → later_than bytes m q ≡ false
      loop-held p of q k (here a b) l u e m x = absurd (omega arith)
      loop-held p of q k (waits d z g idle) l u e m x =
          by_order i d
          (λ w. loop-held p of q d g w (omega arith) e m x)
          (λ w.
          let y : d ≡ i = omega arith in
          absurd (not-idle p of q (subst (Grows p (records_of bytes) r j q) y g) e (λ v. subst (λ (t : ℕ). fires p (records_of bytes) q v t ≡ false) y (idle v))))
      loop-held p of q k (takes d v o z b g f) l u e m x =
          taken-held q o v d (i + 1) m b (omega arith) (omega arith) x

      pub last_taken : LastAt plan bytes s slot j reached (i + 1) (i + 1)
      last_taken = record { late = λ p of q k g l m e x y. loop-held p of q k g (omega arith) m e x y }

    pub last-kept : LastAt plan bytes s slot j reached last i → LastAt plan bytes s slot j reached last (i + 1)
    last-kept known = record { late = λ p of q k g l m e x y. known.late p of q k g (omega arith) m e x y }
