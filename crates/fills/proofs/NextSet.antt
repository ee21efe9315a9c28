-- Where the next set can begin: not at a record that is passed. None of its variables can fire there, or the record is
-- not later than the latest binding. Assumes nothing.
use mathlib.Core.Path.{◌≡◌, sym, ap, ap₂, subst, ◌∙◌}
use mathlib.Core.Bool.{Bool, true, false, ◌&&◌, ◌||◌}
use mathlib.Core.List.{List}
use Prim.Native.Nat.{ℕ, ◌+◌, ◌^◌, ◌≤◌, ◌<◌}
use native.Mathlib.Nat.{lt_of_lt_of_le}
use native.Mathlib.Omega.{arith}
use borrow.Author.Tests.{eqb-true}
use lib.Bits.{bit_and}
use lib.Dec.{eqb}
use lib.ListN.{get_or}
use lib.Pow.{pow_mono}
use Rattle.numbers.specs.Bits.{bit, within, disjoint}
use Rattle.numbers.proofs.Cases.{by-test, by_order}
use Rattle.numbers.proofs.Bits.{bit-zero, bit-and, bits-same, mask_bound, within-true}
use Rattle.records.specs.Records.{record_count, records_of}
use Rattle.patterns.specs.declared.Pattern.{Pattern}
use Rattle.patterns.specs.Patterns.{most_variables}
use Rattle.automaton.proofs.All.{implies_true}
use Rattle.automaton.proofs.Membership.{clash}
use Rattle.rule.specs.Rule.{Reading, binds, fires}
use Rattle.rule.proofs.EveryReading.{mem-binds}
use Rattle.slots.specs.Slots.{held_in, holding}
use Rattle.slots.proofs.Holding.{holding-bit}
use Rattle.plans.specs.Plan.{before_in, marks_in}
use Rattle.firing.specs.Firing.{can_by, leaves_by, later_than, later_by}
use Rattle.firing.proofs.Slots.{leaves-open}
use Rattle.reach.specs.declared.Start.{Start}
use Rattle.reach.specs.Readings.{Cans, Ready, Of}
use Rattle.reach.specs.Growing.{Grows}
use Rattle.reach.specs.Growing.Grows.{here, waits, takes}
use Rattle.reach.proofs.Growing.{grows-below, fires-in}
use Rattle.reach.proofs.Masks.{allowed-read}
use Rattle.fills.specs.Filling.{Within}
use Rattle.fills.specs.Opening.{Marked, Idle, Behind, Passes, Begins, Sure, LastAt}
use Rattle.fills.specs.Opening.Idle.{unable, early}
use Rattle.fills.specs.Opening.Behind.{kept, taken}
use Rattle.fills.specs.Opening.Passes.{here as stops, past}
use Rattle.fills.specs.Opening.Begins.{at_once, later}
use Rattle.reach.proofs.Readings.{read_below}
use Rattle.fills.proofs.Lacking.{binds-more}
use Rattle.fills.proofs.Sets.{IsNext, next-below, next-new, set_before, earlier-in}
use Rattle.fills.proofs.OrderMark.{all-marked, before-bound}
use Rattle.fills.proofs.Latest.{last_taken, last-kept}

module _ (plan bytes : List ℕ) (s : Start) (slot : List ℕ) (j : ℕ) (ready : Ready plan bytes s slot j) where
  abbrev r : Reading
  r = (held_in slot).bindings

  -- ## One record more

  module _ (reached i last : ℕ) (after : j ≤ i) (inside : i < s.until) where
    in_block : i < record_count bytes
    in_block = let block = ready.block in omega arith

    -- the set does not begin there
    module _ (set : ℕ) (next : IsNext plan s.n reached set) (w : ℕ) (in-set : bit set w ≡ true)
        (marked : Marked plan w reached) (known : Within plan bytes s slot j reached i)
        (lasts : LastAt plan bytes s slot j reached last i)
        (idle : Idle bytes (bit_and (can_by plan s.n s.c bytes i) set) last i) (p : Pattern)
        (of : Of p plan bytes s.n s.c) (v : ℕ) (small : v < s.n) (free : bit reached v ≡ false) where
      -- where one of its variables leaves, all of `reached` is bound
      state-is :
          (o : Reading) → Grows p (records_of bytes) r j o i → (u : ℕ) → bit set u ≡ true
          → leaves_by plan (holding o).state u ≡ true
          → (holding o).state ≡ reached
      unfolding holding
      state-is o g u e leaves =
          let few = ready.usable.variables in
          let here = all-marked p plan bytes s.n s.c of reached set next w in-set marked u e in
          let below = next-below plan s.n reached set next u e in
          let small : reached < 2 ^ most_variables =
          subst (λ (y : ℕ). y < 2 ^ most_variables) here.exact (lt_of_lt_of_le (before-bound p plan bytes s.n s.c of u below) (pow_mono few)) in
          let read = grows-below p (records_of bytes) r j o i g (read_below p plan bytes s.n s.c of j slot ready.reads) in
          let unbound : bit (holding o).state u ≡ false = holding-bit o u (omega arith) ∙ known.unbound p of o i g (omega arith) u below (next-new plan s.n reached set next u e) in
          let all : within (before_in plan u) (holding o).state ≡ true = sym (leaves-open plan (holding o).state u unbound) ∙ leaves in
          bits-same (holding o).state reached most_variables (mask_bound (binds o) most_variables) small
          (λ x l.
          by-test (bit reached x)
          (λ t. within-true (before_in plan u) (holding o).state all x (ap (λ (y : ℕ). bit y x) here.exact ∙ t) ∙ sym t)
          (λ t.
          holding-bit o x l
          ∙ by-test (binds o x)
          (λ b.
          let m = mem-binds o x b in
          let y = read.variable m.0 m.1 in
          clash b (known.unbound p of o i g (omega arith) x (omega (arith, of.variables, m.2)) t))
          (λ b. b)
          ∙ sym t))

      idle-not :
          Idle bytes (bit_and (can_by plan s.n s.c bytes i) set) last i
          → (o : Reading) → Grows p (records_of bytes) r j o i → bit set v ≡ true
          → fires p (records_of bytes) o v i ≡ true
          → ⊥
      unfolding later_by holding
      idle-not (unable z) o g e f =
          let fired = fires-in p plan bytes s.n s.c of r j (read_below p plan bytes s.n s.c of j slot ready.reads) o i v in_block g f in
          clash
          (bit-and (can_by plan s.n s.c bytes i) set v ∙ ap₂ ◌&&◌ fired.can e)
          (ap (λ (y : ℕ). bit y v) z ∙ bit-zero v)
      idle-not (early x) o g e f =
          let fired = fires-in p plan bytes s.n s.c of r j (read_below p plan bytes s.n s.c of j slot ready.reads) o i v in_block g f in
          let state = state-is o g v e fired.leaves in
          let here = all-marked p plan bytes s.n s.c of reached set next w in-set marked v e in
          clash
          (implies_true (disjoint (holding o).state (marks_in plan v)) (later_than bytes i o) fired.later (ap (λ (y : ℕ). disjoint y (marks_in plan v)) state ∙ here.apart))
          (lasts.late p of o i g (omega arith) (omega arith) state i x)

      -- a later set needs all of this one
      not_beyond :
          (o : Reading) → Grows p (records_of bytes) r j o i → bit set v ≡ false → fires p (records_of bytes) o v i ≡ true
          → ⊥
      not_beyond o g e f =
          let few = ready.usable.variables in
          let fired = fires-in p plan bytes s.n s.c of r j (read_below p plan bytes s.n s.c of j slot ready.reads) o i v in_block g f in
          let below = next-below plan s.n reached set next w in-set in
          let unbound = known.unbound p of o i g (omega arith) v small free in
          clash
          (sym (holding-bit o w (omega arith))
          ∙ earlier-in p plan bytes s.n s.c of (holding o).state v small (holding-bit o v (omega arith) ∙ unbound) fired.leaves w below (set_before p plan bytes s.n s.c of reached set next w in-set v small free e))
          (known.unbound p of o i g (omega arith) w below (next-new plan s.n reached set next w in-set))

      not_taken :
          (o : Reading) → Grows p (records_of bytes) r j o i → fires p (records_of bytes) o v i ≡ true → ⊥
      not_taken o g f = by-test (bit set v) (λ e. idle-not idle o g e f) (λ e. not_beyond o g e f)

      next-free : (q : Reading) (k : ℕ) → Grows p (records_of bytes) r j q k → k ≤ i + 1 → binds q v ≡ false
      next-free q k (here a b) l = known.unbound p of q k (here a b) (omega arith) v small free
      next-free q k (waits d e g idle) l = known.unbound p of q d g (omega arith) v small free
      next-free q k (takes d u o e b g f) l =
          let before = known.unbound p of o d g (omega arith) v small free in
          ap (λ (y : Reading). binds y v) b
          ∙ binds-more o u d v
          ∙ by-test (eqb u v)
          (λ t.
          let f' = subst (λ (y : ℕ). fires p (records_of bytes) o y d ≡ true) (eqb-true u v t) f in
          by_order d i
          (λ m. clash (ap (λ (y : Reading). binds y v) b ∙ binds-more o u d v ∙ ap (λ (y : Bool). y || binds o v) t) (known.unbound p of q k (takes d u o e b g f) (omega arith) v small free))
          (λ m.
          let z : d ≡ i = omega arith in
          absurd (not_taken o (subst (Grows p (records_of bytes) r j o) z g) (subst (λ (y : ℕ). fires p (records_of bytes) o v y ≡ true) z f'))))
          (λ t. ap₂ (λ (x y : Bool). x || y) t before)

    pub within-next :
        (set : ℕ) → IsNext plan s.n reached set → (w : ℕ) → bit set w ≡ true → Marked plan w reached
        → Within plan bytes s slot j reached i
        → LastAt plan bytes s slot j reached last i
        → Idle bytes (bit_and (can_by plan s.n s.c bytes i) set) last i
        → Within plan bytes s slot j reached (i + 1)
    within-next set next w in-set marked known lasts idle =
        record {
          unbound = λ p of q k g l v small free.
              next-free set next w in-set marked known lasts idle p of v small free q k g l;
        }

  -- ## All records that are passed

  module _ (cans : List ℕ) (settled : Cans plan bytes s.n s.c cans) (reached set sure : ℕ)
      (next : IsNext plan s.n reached set) (loops : Sure plan s.n reached sure) (end : ℕ)
      (up_to : end ≤ s.until) where
    passes_up : (last i : ℕ) → Passes bytes cans set sure end last i → i ≤ end
    passes_up last i (stops e) = omega arith
    passes_up last i (past behind idle lasts more) = let l = passes_up behind (i + 1) more in omega arith

    last-behind :
        (last i behind : ℕ) → j ≤ i → i < s.until → Behind (bit_and (get_or cans i 0) sure) last i behind
        → LastAt plan bytes s slot j reached last i
        → LastAt plan bytes s slot j reached behind (i + 1)
    last-behind last i behind after inside (kept e) lasts =
        subst (λ (x : ℕ). LastAt plan bytes s slot j reached x (i + 1)) (sym e) (last-kept plan bytes s slot j ready reached i last after inside lasts)
    last-behind last i behind after inside (taken able e) lasts =
        let block = ready.block in
        let l : i < record_count bytes = omega arith in
        let is = ap (λ (x : ℕ). bit_and x sure) (settled.each i l) in
        subst (λ (x : ℕ). LastAt plan bytes s slot j reached x (i + 1)) (sym e)
        (last_taken plan bytes s slot j ready reached i last after inside sure loops (subst (λ (x : ℕ). 0 < x) is able)
        (subst (λ (x : ℕ). x < 2 ^ most_variables) is (allowed-read plan bytes s.n s.c ready.usable.variables cans settled i l sure)))

    module _ (w : ℕ) (in-set : bit set w ≡ true) (marked : Marked plan w reached) where
      passes-within :
          (last i : ℕ) → Passes bytes cans set sure end last i → j ≤ i
          → Within plan bytes s slot j reached i
          → LastAt plan bytes s slot j reached last i
          → Within plan bytes s slot j reached end
      passes-within last i (stops e) after known lasts =
          subst (λ (x : ℕ). Within plan bytes s slot j reached x) (sym e) known
      passes-within last i (past behind idle b more) after known lasts =
          let up = passes_up behind (i + 1) more in
          let block = ready.block in
          let inside : i < s.until = omega arith in
          let l : i < record_count bytes = omega arith in
          passes-within behind (i + 1) more (omega arith)
          (within-next reached i last after inside set next w in-set marked known lasts
          (subst (λ (x : ℕ). Idle bytes (bit_and x set) last i) (settled.each i l) idle))
          (last-behind last i behind after inside b lasts)

    -- where the next set begins
    pub begins-within :
        (last from : ℕ) → j ≤ from → Within plan bytes s slot j reached from
        → LastAt plan bytes s slot j reached last from
        → Begins plan bytes cans reached set sure last from s.until end
        → Within plan bytes s slot j reached end
    begins-within last from after known lasts (at_once e) =
        subst (λ (x : ℕ). Within plan bytes s slot j reached x) (sym e) known
    begins-within last from after known lasts (later w in-set marked passed) =
        passes-within w in-set marked last from passed.passes after known lasts

pub begins-after :
    (plan bytes cans : List ℕ) (reached set sure last from end r : ℕ)
    → Begins plan bytes cans reached set sure last from end r
    → from ≤ end
    → (from ≤ r) × (r ≤ end)
begins-after plan bytes cans reached set sure last from end r (at_once e) l = (omega arith, omega arith)
begins-after plan bytes cans reached set sure last from end r (later w in-set marked passed) l =
    (passed.after, passed.inside)
