-- `fills::opening` meets its contract. The loop's invariant: what passes from record i on passes from the first on.
-- Assumes nothing.
use Rattle.std.proofs.Common.{ℕ, ◌≤◌}
use Rattle.fills.specs.Opening.{Passes}
use Rattle.fills.proofs.opening.Given as goal

abbrev pub invariant-loop-i : goal.invariant-loop-i
invariant-loop-i l = (l.latest ≤ l.i) × ((r : ℕ) → Passes l.block l.cans l.set l.sure r l.latest l.i → Passes l.block l.cans l.set l.sure r l.last l.from)
