-- `search::search` meets its contract: lent memory is clear but for what the pass reports. Assumes nothing.
use Rattle.std.proofs.Common.{◌∙◌, length}
use Rattle.search.proofs.search.Goals as goal

pub returns-in-Ok-true : goal.returns-in-Ok-true
returns-in-Ok-true c = let e = c.cleared.ensures in
    let judged = rw c.in-Ok-true.field-0-test at c.in-Ok-true.ensures in
    rw (e.0 ∙ c.from.ensures) (judged (length c.args.res.now) _ _ e.1 e.2)

pub returns-in-Ok-false : goal.returns-in-Ok-false
returns-in-Ok-false c = let judged = rw c.in-Ok-false.field-0-test at c.in-Ok-false.ensures in
    judged (length c.args.res.now) _ _ _ c.forward.ensures

pub returns-in-Err : goal.returns-in-Err
returns-in-Err c = let e = c.cleared-in-Err.ensures in
    rw (e.0 ∙ c.from-in-Err.ensures) (c.in-Err.ensures (length c.args.res.now) _ _ e.1 e.2)
