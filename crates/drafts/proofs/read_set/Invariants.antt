-- `drafts::read_set` meets its contract. The loop's invariant: the names up to the place have been read.
-- Assumes nothing.
use Rattle.std.proofs.Common.{List, ◌-◌, ◌≤◌, length}
use Rattle.form.specs.Items.{Item, start, Valid}
use Rattle.drafts.specs.Drafts.{Small, DraftOf}
use Rattle.drafts.proofs.Setting.{Progress}
use Rattle.drafts.proofs.read_set.Given as goal

abbrev pub invariant-loop-at : goal.invariant-loop-at
invariant-loop-at l =
    (l.at ≤ length l.line) × Small l.d
    × ((items : List Item) → Valid start items → DraftOf items l.fn.d → Progress items l.line l.at l.d)

abbrev pub decreases-loop-at : goal.decreases-loop-at
decreases-loop-at l = length l.line - l.at
