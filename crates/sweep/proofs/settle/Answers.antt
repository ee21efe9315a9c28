-- `sweep::settle`: one state after another. Assumes nothing.
use Rattle.std.proofs.Common.{arith}
use Rattle.sweep.proofs.Settling.{settled-more}
use Rattle.sweep.proofs.settle.Goals as goal

pub loop-at-preserved : goal.loop-at-preserved
loop-at-preserved c =
    settled-more _ _ _ _ _ (omega arith) c.loop-at.invariant _ c.fold_fresh.ensures
