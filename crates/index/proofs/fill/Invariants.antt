-- `index::fill` meets its contract: records are judged and counted in one way through the block. Assumes nothing.
use Rattle.std.proofs.Common.{◌-◌}
use Rattle.index.specs.Upto.{Counted}
use Rattle.index.proofs.fill.Given as goal

abbrev pub invariant-loop-i : goal.invariant-loop-i
invariant-loop-i l = Counted l.block l.i l.types l.seen

abbrev pub decreases-loop-i : goal.decreases-loop-i
decreases-loop-i l = l.count - l.i
