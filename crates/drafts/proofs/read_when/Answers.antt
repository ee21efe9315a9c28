-- `drafts::read_when` meets its contract. Assumes nothing.
use Rattle.drafts.proofs.Behind.{when-early, when-unread, when-read}
use Rattle.drafts.proofs.read_when.Goals as goal

pub returns-then-not-is_named-clause-line : goal.returns-then-not-is_named-clause-line
returns-then-not-is_named-clause-line c =
    λ l v h. when-early l c.args.line.now c.args.d h _ c.is_named.ensures c.if-not-is_named.true

pub returns-in_err-word-clause-line : goal.returns-in_err-word-clause-line
returns-in_err-word-clause-line c =
    rw c.from_residual.ensures (λ l v h. when-unread l c.args.line.now c.args.d h v c.in_err-word.ensures)

pub returns-clause-line : goal.returns-clause-line
returns-clause-line c =
    rw c.with_condition.ensures
    (λ l v h.
    when-read l c.args.line.now c.args.d h _ c.is_named.ensures _ c.requires c.if-not-is_named.false c.in_ok-word.ensures)
