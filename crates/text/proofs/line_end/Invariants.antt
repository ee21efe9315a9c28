-- `text::line_end` meets its contract. The loop's invariant: no line feed stands among the bytes passed. Assumes
-- nothing.
use Rattle.text.specs.LineEnds.{Clear}
use Rattle.text.proofs.line_end.Given as goal

abbrev pub invariant-loop-at : goal.invariant-loop-at
invariant-loop-at l = Clear l.text l.from l.at
