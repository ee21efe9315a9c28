-- `index::cannot_match` meets its contract. Assumes nothing.
use Rattle.std.proofs.Common.{◌≡◌, false, ℕ, ◌<◌}
use Rattle.patterns.specs.Checked.{condition_at}
use Rattle.index.specs.Index.{rules_out}
use Rattle.index.proofs.cannot_match.Given as goal

abbrev pub invariant-loop-i : goal.invariant-loop-i
invariant-loop-i l = (j : ℕ) → j < l.i → rules_out l.index (condition_at l.p j) ≡ false
