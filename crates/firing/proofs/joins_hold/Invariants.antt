-- `firing::joins_hold` meets its contract. The outer loop's invariant: the conditions whose bits are left are to be
-- tested, and all others hold. The inner loop's: the condition holds with each binding passed. Assumes nothing.
use Rattle.std.proofs.Common.{◌≡◌, true}
use Rattle.automaton.specs.Filtering.{all}
use Rattle.slots.specs.Slots.{bindings_in, count_in}
use Rattle.plans.specs.Plan.{condition_in}
use Rattle.firing.specs.Firing.{pair_meets}
use Rattle.firing.proofs.Joins.{Left}
use Rattle.firing.proofs.joins_hold.Given as goal

abbrev pub invariant-loop-j : goal.invariant-loop-j
invariant-loop-j l = (l.hold ≡ true) × (all (pair_meets l.block l.x l.v (condition_in l.plan l.at)) (bindings_in l.slot l.j) ≡ true)

abbrev pub invariant-conditions : goal.invariant-conditions
invariant-conditions l = (l.hold ≡ true) × Left l.plan l.block l.i l.v (bindings_in l.slot (count_in l.slot)) l.rest

abbrev pub decreases-conditions : goal.decreases-conditions
decreases-conditions l = l.rest
