-- `live::move_on` meets its contract: the readings stand in the other half, or stay where no variable can fire.
-- Assumes nothing.
use Rattle.live.proofs.Halves.{moved-idle, moved-over}
use Rattle.live.proofs.move_on.Goals as goal

pub returns-then-can-eq0 : goal.returns-then-can-eq0
returns-then-can-eq0 c = let s = c.requires.stands in
    moved-idle c.args.plan.now c.args.block.now c.args.i c.if-can-eq0.true s.0 s.1 s.2

pub returns : goal.returns
returns c = moved-over c.requires.stands.0 c.advance-out.ensures
