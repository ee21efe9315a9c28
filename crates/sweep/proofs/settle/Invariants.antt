-- `sweep::settle`: the states passed are settled. Assumes nothing.
use Rattle.sweep.specs.Starts.{Settled}
use Rattle.sweep.proofs.settle.Given as goal

abbrev pub invariant-loop-at : goal.invariant-loop-at
invariant-loop-at l = Settled l.initial.starts l.states l.starts l.at
