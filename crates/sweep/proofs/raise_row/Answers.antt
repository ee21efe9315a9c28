-- `sweep::raise_row`: one count of bindings after another. Assumes nothing.
use Rattle.std.proofs.Common.{arith}
use Rattle.sweep.proofs.Starts.{row_more}
use Rattle.sweep.proofs.raise_row.Goals as goal

pub loop-k-preserved : goal.loop-k-preserved
loop-k-preserved c = let size = c.loop-k.invariant.size in
    row_more _ _ _ _ _ _ _ c.loop-k.invariant c.loop-k-test.true (omega arith) (omega arith) c.max.ensures
