-- `states::list_states`: the states before the place are linked. Assumes nothing.
use Rattle.std.proofs.Common.{◌-◌, ◌≤◌}
use Rattle.states.specs.States.{most_states, Listed}
use Rattle.states.proofs.list_states.Given as goal

abbrev pub invariant-loop-at : goal.invariant-loop-at
invariant-loop-at l = (l.at ≤ l.count) × Listed l.plan l.n l.states l.leaves l.links l.count l.at

abbrev pub decreases-loop-at : goal.decreases-loop-at
decreases-loop-at l = most_states - l.at
