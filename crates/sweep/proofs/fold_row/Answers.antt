-- `sweep::fold_row`: one count of bindings after another. Assumes nothing.
use Rattle.std.proofs.Common.{arith}
use Rattle.sweep.proofs.Settling.{folded_more}
use Rattle.sweep.proofs.fold_row.Goals as goal

pub loop-k-preserved : goal.loop-k-preserved
loop-k-preserved c = let size = c.loop-k.invariant.size in
    folded_more _ _ _ _ _ _ _ c.loop-k.invariant c.loop-k-test.true (omega arith) (omega arith) (omega arith) c.max.ensures
