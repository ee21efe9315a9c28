-- `text::read` meets its contract. Assumes nothing.
use Rattle.std.proofs.Common.{refl, ap}
use Rattle.records.specs.Blocks.{refused}
use Rattle.form.specs.Promises.{ReadPromise}
use Rattle.text.proofs.DraftBytes.{draft-fits}
use Rattle.text.proofs.ReadAnswers.{answer-judged}
use Rattle.text.proofs.read.Goals as goal

pub returns-then-is_too_large : goal.returns-then-is_too_large
returns-then-is_too_large c =
    let g = rw c.in-Ok.is at c.read_lines.ensures in
    ReadPromise.too_large g.making g.form (λ f. c.if-is_too_large.ensures (draft-fits g.making _ g.draft f)) refl refl

pub returns-else-is_too_large : goal.returns-else-is_too_large
returns-else-is_too_large c =
    let g = rw c.in-Ok.is at c.read_lines.ensures in
    answer-judged _ _ _ _ c.in-Ok.draft g c.if-is_too_large.ensures c.give_draft.ensures

pub returns-in-Err : goal.returns-in-Err
returns-in-Err c =
    ReadPromise.outside c.in-Err.line (rw c.in-Err.is at c.read_lines.ensures) (ap (refused 14) c.place.ensures) refl
