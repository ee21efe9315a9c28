-- `reach::any_joins` meets its contract. The loop's invariant: of the variables asked, those that are not left do not
-- join. Assumes nothing.
use Rattle.std.proofs.Common.{◌≡◌, ℕ, ◌^◌, ◌<◌, true, false}
use Rattle.numbers.specs.Bits.{bit}
use Rattle.patterns.specs.Patterns.{most_variables}
use Rattle.slots.specs.Slots.{held_in}
use Rattle.firing.specs.Firing.{joins_by}
use Rattle.reach.proofs.any_joins.Given as goal

abbrev pub invariant-loop-left : goal.invariant-loop-left
invariant-loop-left l = (l.left < 2 ^ most_variables) × ((v : ℕ) → bit l.asked v ≡ true → bit l.left v ≡ false → joins_by l.plan l.block l.i v (held_in l.slot).bindings ≡ false)

abbrev pub decreases-loop-left : goal.decreases-loop-left
decreases-loop-left l = l.left
