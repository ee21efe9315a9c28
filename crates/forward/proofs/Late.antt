-- Whether the reading that a slot holds is late, by the time of its first record. Assumes nothing.
use mathlib.Core.Path.{◌≡◌, refl, sym, ap, ap₂, ◌∙◌}
use mathlib.Core.List.{List}
use Prim.Native.Nat.{ℕ, zero, suc, ◌+◌, ◌-◌, ◌^◌, ◌%◌, ◌≤◌}
use native.Mathlib.Omega.{arith}
use borrow.Author.Tests.{lt-ltb, le-ltb}
use lib.Dec.{ltb}
use Rattle.numbers.specs.Numbers.{number}
use Rattle.numbers.proofs.Cases.{by_order}
use Rattle.records.specs.Records.{record_at}
use Rattle.rule.specs.Rule.{start_of}
use Rattle.slots.specs.Slots.{count_in, held_in, bindings_in}
use Rattle.forward.specs.Closing.{is_late}

start-in : (slot : List ℕ) (n : ℕ) → start_of (bindings_in slot (suc n)) ≡ number slot 4 2 % 2 ^ 12
unfolding bindings_in
start-in slot zero = refl
start-in slot (suc n) = start-in slot n

pub start-held : (slot : List ℕ) → 1 ≤ count_in slot → start_of (held_in slot).bindings ≡ number slot 4 2 % 2 ^ 12
unfolding held_in
start-held slot h =
    let e : count_in slot ≡ suc (count_in slot - 1) = omega arith in
    ap (λ (n : ℕ). start_of (bindings_in slot n)) e ∙ start-in slot (count_in slot - 1)

-- in time, where the record is no later than the first or no more than the duration behind it
module _ (bytes : List ℕ) (i duration : ℕ) (slot : List ℕ) (start : ℕ) (h : 1 ≤ count_in slot)
    (e : start ≡ number slot 4 2 % 2 ^ 12) (a : ℕ) (p : a ≡ (record_at bytes start).time) (b : ℕ)
    (q : b ≡ (record_at bytes i).time) where
  late-times : ltb (a + duration) b ≡ is_late bytes i duration (held_in slot)
  unfolding is_late
  late-times = ap₂ ltb (ap (λ (n : ℕ). n + duration) (p ∙ ap (λ (k : ℕ). (record_at bytes k).time) (e ∙ sym (start-held slot h)))) q

  pub late-held : ltb duration (b - a) ≡ is_late bytes i duration (held_in slot)
  late-held =
      by_order duration (b - a)
      (λ m. lt-ltb duration (b - a) m ∙ sym (lt-ltb (a + duration) b (omega arith)) ∙ late-times)
      (λ m. le-ltb duration (b - a) m ∙ sym (le-ltb (a + duration) b (omega arith)) ∙ late-times)
