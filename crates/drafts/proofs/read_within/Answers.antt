-- `drafts::read_within` meets its contract. Assumes nothing.
use Rattle.drafts.proofs.Behind.{within-early, within-unread, within-read}
use Rattle.drafts.proofs.read_within.Goals as goal

pub returns-then-not-is_named-clause-line : goal.returns-then-not-is_named-clause-line
returns-then-not-is_named-clause-line c =
    λ l v h. within-early l c.args.line.now c.args.d h _ c.is_named.ensures c.if-not-is_named.true

pub returns-in_err-d-clause-line : goal.returns-in_err-d-clause-line
returns-in_err-d-clause-line c =
    rw c.from_residual.ensures (λ l v h. within-unread l c.args.line.now c.in_err-d.ensures)

pub returns-clause-line : goal.returns-clause-line
returns-clause-line c =
    λ l v h.
    within-read l c.args.line.now c.args.d h _ c.is_named.ensures _ v c.if-not-is_named.false c.in_ok-d.ensures
