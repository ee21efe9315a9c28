-- Records that variables need: no reading has bound all of some variables before as many records have passed at which
-- one of them can fire. Assumes nothing.
use mathlib.Core.Path.{◌≡◌, refl, sym, ap, subst, ◌∙◌}
use mathlib.Core.Bool.{Bool, true, false, ◌&&◌, ◌||◌}
use mathlib.Core.List.{List}
use Prim.Native.Nat.{ℕ, ◌+◌, ◌-◌, ◌^◌, ◌≤◌, ◌<◌, max}
use native.Mathlib.Omega.{arith}
use lib.Bits.{bit_and}
use lib.Dec.{eqb}
use lib.ListN.{get_or}
use Rattle.numbers.specs.Numbers.{count, one_if}
use Rattle.numbers.specs.Bits.{bit}
use Rattle.numbers.proofs.Cases.{by-test, by_order}
use Rattle.numbers.proofs.Bits.{bit-and}
use Rattle.records.specs.Records.{record_count, records_of}
use Rattle.patterns.specs.declared.Pattern.{Pattern}
use Rattle.patterns.specs.Patterns.{most_variables}
use Rattle.automaton.proofs.Membership.{clash}
use Rattle.rule.specs.Rule.{Reading, binds, fires}
use Rattle.rule.specs.Starts.{with_binding}
use Rattle.slots.specs.Slots.{held_in}
use Rattle.firing.specs.Firing.{can_by}
use Rattle.reach.specs.declared.Start.{Start}
use Rattle.reach.specs.Readings.{Cans, NoneJoins, Ready, Of}
use Rattle.reach.specs.Growing.{Grows}
use Rattle.reach.specs.Growing.Grows.{here, waits, takes}
use Rattle.reach.proofs.Growing.{fires-in}
use Rattle.reach.proofs.Readings.{read_below}
use Rattle.fills.specs.Filling.{size_of, bound_of, Without, Lacks, Late}
use Rattle.fills.proofs.Counting.{count-all, count-nothing, count-more, count_same, some-bit}

-- what a binding more binds
pub binds-more : (o : Reading) (v k u : ℕ) → binds (with_binding o v k) u ≡ eqb v u || binds o u
unfolding binds
binds-more o v k u = refl

bound-more :
    (x : ℕ) (o : Reading) (v k : ℕ)
    → bound_of x (with_binding o v k) ≡ count (λ u. bit x u && (eqb v u || binds o u)) most_variables
unfolding binds
bound-more x o v k = refl

module _ (plan bytes : List ℕ) (s : Start) (slot : List ℕ) (j x : ℕ) where
  abbrev r : Reading
  r = (held_in slot).bindings

  -- none of the variables is bound yet
  pub lacks-all : (from : ℕ) → Without plan bytes s slot j x from → Lacks plan bytes s slot j x from (size_of x)
  lacks-all from w =
      record {
        few = λ p o q g.
            let e = count-nothing (bit x) (binds q) most_variables (w.unbound p o q from g (omega arith)) in
            omega arith;
      }

  pub late-from :
      (from : ℕ) → 0 < x → x < 2 ^ most_variables → Without plan bytes s slot j x from
      → Late plan bytes s slot j x from
  late-from from some small w =
      record {
        from = λ p o q i g all.
            let v = some-bit x most_variables some small in
            by_order i from
            (λ l. clash (all v.0 v.1) (w.unbound p o q i g (omega arith) v.0 v.1))
            (λ l. l);
      }

  -- a record more, where some are unbound before it
  pub late-next :
      (i left : ℕ) → 0 < left → Lacks plan bytes s slot j x i left → Late plan bytes s slot j x i
      → Late plan bytes s slot j x (i + 1)
  late-next i left some lacks late =
      record {
        from = λ p o q k g all.
            let l = late.from p o q k g all in
            by_order i k
            (λ m. omega arith)
            (λ m.
            let e : k ≡ i = omega arith in
            let few = lacks.few p o q (subst (Grows p (records_of bytes) r j q) e g) in
            let whole = count-all (bit x) (binds q) most_variables all in
            absurd (omega arith));
      }

  -- a record binds at most one of them, and none where none can fire there and agrees with what is bound
  module _ (ready : Ready plan bytes s slot j) (i left : ℕ) (after : j ≤ i) (inside : i < s.until) (some : 0 < left)
      (lacks : Lacks plan bytes s slot j x i left) (hit : Bool)
      (none : hit ≡ false → NoneJoins plan bytes i (bit_and (can_by plan s.n s.c bytes i) x) r) where
    taken :
        (p : Pattern) → Of p plan bytes s.n s.c → (o : Reading) (v : ℕ) → Grows p (records_of bytes) r j o i
        → fires p (records_of bytes) o v i ≡ true
        → bound_of x (with_binding o v i) + (left - one_if hit) ≤ size_of x
    taken p of o v g f =
        let few = lacks.few p of o g in
        let is = bound-more x o v i in
        by-test (bit x v)
        (λ t.
        by-test hit
        (λ h.
        let one = ap one_if h in
        let more = count-more (bit x) (binds o) v most_variables in
        omega arith)
        (λ h.
        let end = ready.block in
        let fired = fires-in p plan bytes s.n s.c of r j (read_below p plan bytes s.n s.c of j slot ready.reads) o i v (omega arith) g f in
        clash fired.joins
        ((none h).each v (bit-and (can_by plan s.n s.c bytes i) x v ∙ ap (λ (b : Bool). b && bit x v) fired.can ∙ t))))
        (λ t. let same = count_same (bit x) (binds o) v most_variables t in omega arith)

    grown :
        (p : Pattern) → Of p plan bytes s.n s.c → (q : Reading) (k : ℕ) → k ≡ i + 1
        → Grows p (records_of bytes) r j q k
        → bound_of x q + (left - one_if hit) ≤ size_of x
    grown p of q k e (here a b) = absurd (omega arith)
    grown p of q k e (waits m d g idle) =
        let z : m ≡ i = omega arith in
        let few = lacks.few p of q (subst (Grows p (records_of bytes) r j q) z g) in
        omega arith
    grown p of q k e (takes m v o d b g f) =
        let z : m ≡ i = omega arith in
        subst (λ (y : Reading). bound_of x y + (left - one_if hit) ≤ size_of x) (sym (b ∙ ap (with_binding o v) z))
        (taken p of o v (subst (Grows p (records_of bytes) r j o) z g) (subst (λ (y : ℕ). fires p (records_of bytes) o v y ≡ true) z f))

    pub lacks-next : Lacks plan bytes s slot j x (i + 1) (left - one_if hit)
    lacks-next = record { few = λ p of q g. grown p of q (i + 1) refl g }

  -- the same by what was settled once a call
  pub asked-read :
      (cans : List ℕ) → Cans plan bytes s.n s.c cans → (i : ℕ) → i < record_count bytes
      → NoneJoins plan bytes i (bit_and (get_or cans i 0) x) r
      → NoneJoins plan bytes i (bit_and (can_by plan s.n s.c bytes i) x) r
  asked-read cans settled i l none =
      subst (λ (can : ℕ). NoneJoins plan bytes i (bit_and can x) r) (settled.each i l) none

  -- some of the variables need it, so all of them do
  pub late-wider :
      (y end : ℕ) → ((v : ℕ) → bit y v ≡ true → bit x v ≡ true) → Late plan bytes s slot j y end
      → Late plan bytes s slot j x end
  late-wider y end inside late = record { from = λ p o q i g all. late.from p o q i g (λ v e. all v (inside v e)) }

  -- what two searches found
  pub late-both :
      (a b : ℕ) → Late plan bytes s slot j x a → Late plan bytes s slot j x b → Late plan bytes s slot j x (max a b)
  late-both a b first second =
      record {
        from = λ p o q i g all.
            let k = first.from p o q i g all in
            let l = second.from p o q i g all in
            omega arith;
      }
