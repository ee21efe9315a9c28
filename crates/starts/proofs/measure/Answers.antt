-- `starts::measure`, from the bytes. Assumes nothing.
use Rattle.std.proofs.Common.{◌∙◌}
use Rattle.rule.specs.Calls.{MeasureCall}
use Rattle.starts.proofs.Ends.{pattern-good, block-good, measure-answered}
use Rattle.starts.proofs.measure.Goals as goal

pub pass-requires : goal.pass-requires
pass-requires c = (pattern-good _ _ _ c.in-Ok.ensures, block-good _ _ _ c.in-Ok.ensures)

pub returns-in-Ok : goal.returns-in-Ok
returns-in-Ok c = measure-answered _ _ _ c.in-Ok.ensures _ _ _ c.pass.ensures _ c.measured.ensures

pub returns-in-Err : goal.returns-in-Err
returns-in-Err c = MeasureCall.refused_input c.in-Err.ensures.0 (c.from.ensures ∙ c.in-Err.ensures.1)
