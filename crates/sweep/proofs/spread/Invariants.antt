-- `sweep::spread`: the states that the variables not left lead to are raised. Assumes nothing.
use Rattle.sweep.proofs.Starts.{Spreading}
use Rattle.sweep.proofs.spread.Given as goal

abbrev pub invariant-loop-rest : goal.invariant-loop-rest
invariant-loop-rest l = Spreading l.initial.starts l.links l.own l.at l.firing l.starts l.rest

abbrev pub decreases-loop-rest : goal.decreases-loop-rest
decreases-loop-rest l = l.rest
