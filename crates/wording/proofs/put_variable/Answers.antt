-- `wording::put_variable` meets its contract. Assumes nothing.
use Rattle.std.proofs.Common.{sym, ◌∙◌}
use Rattle.numbers.proofs.Put.{put_then}
use Rattle.wording.proofs.Pieces.{begins-text, joins-text}
use Rattle.wording.proofs.put_variable.Goals as goal

pub returns-then-begins_set : goal.returns-then-begins_set
returns-then-begins_set c =
    rw (begins-text _ _ (sym c.begins_set.ensures ∙ c.if-begins_set.true))
    (put_then c.put_set-middle.ensures.0 c.put_member.ensures)

pub returns-else-begins_set : goal.returns-else-begins_set
returns-else-begins_set c =
    rw (joins-text _ _ (sym c.begins_set.ensures ∙ c.if-begins_set.false)) c.put_member-else-begins_set.ensures
