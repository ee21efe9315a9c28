-- `sweep::fold_row`: the counts of bindings passed are folded. Assumes nothing.
use Rattle.sweep.specs.Starts.{RowFolded}
use Rattle.sweep.proofs.fold_row.Given as goal

abbrev pub invariant-loop-k : goal.invariant-loop-k
invariant-loop-k l = RowFolded l.initial.starts l.b l.starts l.k
