-- `text::read_lines` meets its contract. The loop's invariant: the lines before a place are read. Assumes nothing.
use Rattle.std.proofs.Common.{◌-◌, length}
use Rattle.text.proofs.Progress.{Progress}
use Rattle.text.proofs.read_lines.Given as goal

abbrev pub invariant-loop-at : goal.invariant-loop-at
invariant-loop-at l = Progress l.text l.draft l.line l.at

abbrev pub decreases-loop-at : goal.decreases-loop-at
decreases-loop-at l = length l.text - l.at
