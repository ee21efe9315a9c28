-- `sweep::late_ones`: the places passed are copied. Assumes nothing.
use Rattle.sweep.proofs.Starts.{Copied}
use Rattle.sweep.proofs.late_ones.Given as goal

abbrev pub invariant-loop-k : goal.invariant-loop-k
invariant-loop-k l = Copied l.starts l.low l.at l.own l.k
