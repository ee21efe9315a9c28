-- A slot that holds a reading below record i is one that the tests can look at. Assumes nothing.
use Rattle.std.proofs.Common.{◌≡◌, ◌∙◌, sym, ap, subst, Bool, true, ◌||◌, List, ℕ, ◌+◌, ◌*◌, ◌≤◌, ◌<◌, arith, eqb}
use Rattle.std.proofs.Common.{length}
use mathlib.Core.Bool.{or-true}
use mathlib.Core.List.{Memᴰ}
use borrow.Author.Tests.{eq-eqb}
use Rattle.numbers.specs.Bits.{bit}
use Rattle.numbers.proofs.Bits.{mask-inside}
use Rattle.records.specs.Records.{record_bytes, record_count}
use Rattle.patterns.specs.declared.Pattern.{Pattern}
use Rattle.patterns.specs.Patterns.{most_variables}
use Rattle.patterns.specs.Checked.{InOrder}
use Rattle.rule.specs.Rule.{Binding, Reading, binds}
use Rattle.rule.specs.Promises.{most_bindings}
use Rattle.slots.specs.Slots.{Held, slot_bytes, count_in, held_in, holding}
use Rattle.plans.specs.Plan.{IsPlan}
use Rattle.plans.proofs.Plans.{sound-plan}
use Rattle.firing.specs.Firing.{ReadBelow, Seated, Fit}

-- what is among the bindings is bound
member-bound : {b : Binding} {r : Reading} → Memᴰ b r → binds r b.variable ≡ true
unfolding binds
member-bound {b} (Memᴰ.head {x} {xs} e) = ap (λ (t : Bool). t || binds xs b.variable) (eq-eqb x.variable b.variable (ap (λ (a : Binding). a.variable) (sym e)))
member-bound {b} (Memᴰ.tail {x} m) = ap (λ (t : Bool). eqb x.variable b.variable || t) (member-bound m) ∙ or-true (eqb x.variable b.variable)

module _ (p : Pattern) (o : InOrder p) (bytes slot : List ℕ) (i : ℕ) (h : i < record_count bytes) (r : Reading)
    (known : ReadBelow p i r) where
  here : record_bytes * i + record_bytes ≤ length bytes
  here = omega arith

  pub seated-holding :
      length slot ≡ slot_bytes → count_in slot ≤ most_bindings → held_in slot ≡ holding r → Seated bytes slot
  unfolding held_in holding
  seated-holding size few e =
      let state = ap (λ (x : Held). x.state) e in
      let same = ap (λ (x : Held). x.bindings) e in
      record {
        size = size;
        few = few;
        bound = λ b m.
            let n = subst (Memᴰ b) same m in
            let small = known.variable b n in
            let less = o.few in
            ap (λ (s : ℕ). bit s b.variable) state ∙ mask-inside (binds r) most_variables b.variable (omega arith) ∙ member-bound n;
        in_block = λ b m. let below = known.below b (subst (Memᴰ b) same m) in omega arith;
      }

  pub fit-holding :
      (plan : List ℕ) → IsPlan p plan → length slot ≡ slot_bytes → count_in slot ≤ most_bindings → held_in slot ≡ holding r
      → Fit plan bytes i slot
  fit-holding plan is size few e =
      record { sound = sound-plan p o plan is; here = here; seated = seated-holding size few e }
