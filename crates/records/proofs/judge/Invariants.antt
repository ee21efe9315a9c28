-- The records before i are in order.
use Rattle.std.proofs.Common.{◌≡◌, ℕ, ◌-◌, ◌≤◌, ◌<◌}
use Rattle.records.specs.Records.{record_count}
use Rattle.records.specs.Blocks.{record_refusal}
use Rattle.records.proofs.judge.Given as goal

abbrev pub invariant-loop-i : goal.invariant-loop-i
invariant-loop-i l = (l.i ≤ record_count l.block) × ((j : ℕ) → j < l.i → record_refusal l.block j ≡ 0)

abbrev pub decreases-loop-i : goal.decreases-loop-i
decreases-loop-i l = l.count - l.i
