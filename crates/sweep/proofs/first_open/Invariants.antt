-- `sweep::first_open`: the windows of the records passed have not record j. Assumes nothing.
use Rattle.std.proofs.Common.{ℕ, ◌<◌}
use Rattle.sweep.specs.Floors.{Past}
use Rattle.sweep.proofs.first_open.Given as goal

abbrev pub invariant-loop-i : goal.invariant-loop-i
invariant-loop-i l = (k : ℕ) → k < l.i → Past l.block l.duration k l.j
