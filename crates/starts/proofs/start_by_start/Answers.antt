-- `starts::start_by_start`, from the bytes. Assumes nothing.
use Rattle.std.proofs.Common.{arith, ◌∙◌}
use Rattle.rule.specs.Calls.{StartByStartCall}
use Rattle.starts.proofs.Ends.{pattern-good, block-good, call-answered}
use Rattle.starts.proofs.start_by_start.Goals as goal

pub pass-counts-requires : goal.pass-counts-requires
pass-counts-requires c = (pattern-good _ _ _ c.in-Ok.ensures, block-good _ _ _ c.in-Ok.ensures)

pub returns-in-Ok : goal.returns-in-Ok
returns-in-Ok c = let last = c.finish.ensures in
    call-answered _ _ _ c.in-Ok.ensures _ _ _ c.pass-counts.ensures (omega arith) _ _ last.0 last.1

pub returns-in-Err : goal.returns-in-Err
returns-in-Err c = let e = c.in-Err.ensures in
    let refuse = c.refuse.ensures in
    StartByStartCall.refused_input e.0 (refuse.0 ∙ e.1) refuse.1
