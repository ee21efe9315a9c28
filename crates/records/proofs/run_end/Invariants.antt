-- The records from i on that the loop has passed are in order, and what an event behind them has to be is known.
use Rattle.std.proofs.Common.{◌≡◌, ℕ, ◌-◌, ◌≤◌, ◌<◌}
use Rattle.records.specs.Blocks.{record_refusal}
use Rattle.records.specs.Runs.{Ready}
use Rattle.records.proofs.run_end.Given as goal

abbrev pub invariant-loop-at : goal.invariant-loop-at
invariant-loop-at l =
    (l.i < l.at) × (l.at ≤ l.count)
    × ((j : ℕ) → l.i ≤ j → j < l.at → record_refusal l.block j ≡ 0) × Ready l.block l.at l.high l.least

abbrev pub decreases-loop-at : goal.decreases-loop-at
decreases-loop-at l = l.count - l.at
