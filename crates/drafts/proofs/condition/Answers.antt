-- `drafts::condition` meets its contract. Assumes nothing.
use Rattle.drafts.proofs.Conditions.{side-small, condition-uncut, condition-other, condition-of}
use Rattle.drafts.proofs.condition.Goals as goal

pub returns-in_err-end : goal.returns-in_err-end
returns-in_err-end c = rw c.from_residual.ensures (condition-uncut _ _ c.in_err-end.ensures)

pub returns-in_err-left : goal.returns-in_err-left
returns-in_err-left c =
    rw c.from_residual-in_err-left.ensures (condition-other _ _ _ c.in_ok-end.ensures c.in_err-left.ensures)

pub comparison-requires : goal.comparison-requires
comparison-requires c = (c.requires, side-small c.args.places.now _ _ c.requires c.in_ok-left.ensures)

pub returns : goal.returns
returns c = condition-of _ _ _ c.in_ok-end.ensures _ _ c.in_ok-left.ensures c.comparison.ensures
