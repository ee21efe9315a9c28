-- `reach::all_can` meets its contract. The loop's invariant: the records passed are settled. Assumes nothing.
use Rattle.std.proofs.Common.{◌≡◌, ℕ, ◌<◌, length, get_or}
use Rattle.records.specs.Blocks.{most_records}
use Rattle.firing.specs.Firing.{can_by}
use Rattle.reach.proofs.all_can.Given as goal

abbrev pub invariant-loop-i : goal.invariant-loop-i
invariant-loop-i l = (length l.cans ≡ most_records) × ((k : ℕ) → k < l.i → get_or l.cans k 0 ≡ can_by l.plan l.n l.c l.block k)
