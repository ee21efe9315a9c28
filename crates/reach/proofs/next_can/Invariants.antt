-- `reach::next_can` meets its contract: at no record before the one that it gives can one of the variables fire.
-- Assumes nothing.
use Rattle.std.proofs.Common.{◌≡◌, ℕ, ◌≤◌, ◌<◌, get_or}
use Rattle.std.specs.Int.Bits.{bit_and}
use Rattle.reach.proofs.next_can.Given as goal

abbrev pub invariant-loop-i : goal.invariant-loop-i
invariant-loop-i l = (k : ℕ) → l.from ≤ k → k < l.i → bit_and (get_or l.cans k 0) l.variables ≡ 0
