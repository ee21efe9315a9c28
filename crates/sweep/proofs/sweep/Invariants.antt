-- `sweep::sweep`: the starts are those of all that readings could have come to before record j, with those of the last
-- cycle fresh, and the windows of the records before `low` are past. Assumes nothing.
use Rattle.sweep.proofs.Going.{Going}
use Rattle.sweep.proofs.sweep.Given as goal

abbrev pub invariant-loop-j : goal.invariant-loop-j
invariant-loop-j l =
    Going l.plan l.block l.n l.c l.duration l.tight l.states l.leaves l.links l.known l.starts l.cycle l.low l.j
