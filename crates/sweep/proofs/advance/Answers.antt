-- `sweep::advance`: one state after another, the last first. Assumes nothing.
use Rattle.std.proofs.Common.{arith}
use Rattle.sweep.proofs.Advancing.{advanced-more}
use Rattle.sweep.proofs.advance.Goals as goal

pub loop-at-preserved : goal.loop-at-preserved
loop-at-preserved c = let h = c.loop-at in
    let some = c.loop-at-test.true in
    advanced-more _ _ _ _ _ _ _ h.starts c.move_state.new.starts _ h.at (omega arith) (omega arith) h.invariant c.requires.0 c.move_state.ensures
