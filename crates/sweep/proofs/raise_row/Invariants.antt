-- `sweep::raise_row`: the counts of bindings passed are raised. Assumes nothing.
use Rattle.sweep.specs.Starts.{RowRaised}
use Rattle.sweep.proofs.raise_row.Given as goal

abbrev pub invariant-loop-k : goal.invariant-loop-k
invariant-loop-k l = RowRaised l.initial.starts l.own l.to l.starts l.k
