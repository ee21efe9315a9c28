-- What a held reading decides, case by case: whether a variable leaves its state, and the order mark. Assumes nothing.
use Rattle.automaton.proofs.All.{implies-yes}
use Rattle.std.proofs.Common.{◌≡◌, ◌∙◌, ap, true, false, List, ℕ, zero, suc, ◌+◌, ◌-◌, ◌*◌, ◌≤◌, ◌<◌, not-suc-le-zero}
use Rattle.std.proofs.Common.{arith, ltb}
use mathlib.Core.List.{Memᴰ}
use Rattle.numbers.specs.Numbers.{number}
use Rattle.numbers.specs.Bits.{bit, within, disjoint}
use Rattle.numbers.proofs.Cases.{by_order}
use Rattle.records.specs.Records.{record_at}
use Rattle.automaton.specs.Filtering.{implies}
use Rattle.rule.specs.Rule.{Binding}
use Rattle.slots.specs.Slots.{binding_of, bindings_in, count_in, state_in, held_in}
use Rattle.plans.specs.Plan.{before_in, after_in, marks_in}
use Rattle.firing.specs.Firing.{leaves_by, later_than, later_by}

module _ (plan : List ℕ) (state v : ℕ) where
  pub leaves_loop : bit state v ≡ true → leaves_by plan state v ≡ disjoint state (after_in plan v)
  unfolding leaves_by
  leaves_loop e = rw (e, leaves_by)

  pub leaves-open : bit state v ≡ false → leaves_by plan state v ≡ within (before_in plan v) state
  unfolding leaves_by
  leaves-open e = rw (e, leaves_by)

-- binding j of a slot, the oldest being 0
abbrev pub binding_at : List ℕ → ℕ → Binding
binding_at slot j = binding_of (number slot (4 + 2 * j) 2)

-- it is one of the first n
pub binding-among : (slot : List ℕ) (n j : ℕ) → j < n → Memᴰ (binding_at slot j) (bindings_in slot n)
unfolding bindings_in
binding-among slot zero j h = absurd (not-suc-le-zero h)
binding-among slot (suc n) j h =
    let rest = binding-among slot n j in
    by_order j n
    (λ l. Memᴰ.tail (rest l))
    (λ l. let e : j ≡ n = omega arith in Memᴰ.head (ap (binding_at slot) e))

latest-of :
    (bytes slot : List ℕ) (i n : ℕ) → 1 ≤ n
    → later_than bytes i (bindings_in slot n)
    ≡ ltb (record_at bytes (binding_at slot (n - 1)).at).time (record_at bytes i).time
unfolding later_than bindings_in
latest-of bytes slot i zero h = absurd (not-suc-le-zero h)
latest-of bytes slot i (suc n) h =
    let e : n ≡ suc n - 1 = omega arith in
    ap (λ (j : ℕ). ltb (record_at bytes (binding_at slot j).at).time (record_at bytes i).time) e

module _ (plan bytes slot : List ℕ) (i v : ℕ) where
  -- the step carries no order mark
  pub later-unmarked : disjoint (state_in slot) (marks_in plan v) ≡ false → later_by plan bytes i v (held_in slot) ≡ true
  unfolding later_by held_in
  later-unmarked e = rw e

  -- nothing is bound
  pub later-empty : count_in slot ≡ 0 → later_by plan bytes i v (held_in slot) ≡ true
  unfolding later_by held_in later_than bindings_in
  later-empty e = ap (λ (n : ℕ). implies (disjoint (state_in slot) (marks_in plan v)) (later_than bytes i (bindings_in slot n))) e ∙ implies-yes (disjoint (state_in slot) (marks_in plan v))

  -- the latest binding decides
  pub later-latest :
      disjoint (state_in slot) (marks_in plan v) ≡ true → 1 ≤ count_in slot
      → later_by plan bytes i v (held_in slot)
      ≡ ltb (record_at bytes (binding_at slot (count_in slot - 1)).at).time (record_at bytes i).time
  unfolding later_by held_in
  later-latest e h = rw e (latest-of bytes slot i (count_in slot) h)
