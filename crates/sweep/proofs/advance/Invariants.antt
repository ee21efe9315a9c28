-- `sweep::advance`: the states passed have led on. Assumes nothing.
use Rattle.sweep.specs.Starts.{Advanced}
use Rattle.sweep.proofs.advance.Given as goal

abbrev pub invariant-loop-at : goal.invariant-loop-at
invariant-loop-at l = Advanced l.initial.starts l.leaves l.links l.count l.can l.low l.tight l.starts l.at
