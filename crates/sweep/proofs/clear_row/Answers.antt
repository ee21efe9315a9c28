-- `sweep::clear_row`. Assumes nothing.
use Rattle.std.proofs.Common.{arith, ◌≡◌, replicate}
use Rattle.std.proofs.lemmas.Grind.{common_steps}
use Rattle.sweep.specs.Starts.{row_places}
use Rattle.sweep.proofs.Starts.{cleared_row}
use Rattle.sweep.proofs.clear_row.Goals as goal

pub returns-then-tight : goal.returns-then-tight
returns-then-tight c =
    let zeros : c.fill.new.self ≡ replicate row_places 0 = grind (arith, common_steps) in
    cleared_row _ _ _ _ _ c.if-tight.true (omega arith) zeros (omega arith)
