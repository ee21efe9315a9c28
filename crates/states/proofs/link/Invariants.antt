-- `states::link`: the variables that are not left are linked. Assumes nothing.
use Rattle.std.proofs.Common.{◌≡◌, get_or}
use Rattle.states.specs.States.{state_of}
use Rattle.states.proofs.States.{Linking}
use Rattle.states.proofs.link.Given as goal

abbrev pub invariant-loop-rest : goal.invariant-loop-rest
invariant-loop-rest l =
    (l.from ≡ state_of (get_or l.initial.states l.at 0))
    × Linking l.plan l.n l.initial.states l.initial.links l.count l.at l.leave l.states l.links l.more l.rest

abbrev pub decreases-loop-rest : goal.decreases-loop-rest
decreases-loop-rest l = l.rest
