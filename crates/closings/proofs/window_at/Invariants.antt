-- `closings::window_at` meets its contract: the first gap, the first record past the window, or the end. Assumes nothing.
use Rattle.std.proofs.Common.{◌<◌}
use Rattle.closings.specs.Closings.{OpenTo}
use Rattle.closings.proofs.window_at.Given as goal

abbrev pub invariant-loop-k : goal.invariant-loop-k
invariant-loop-k l = (l.i < l.k) × OpenTo l.block l.duration l.i l.k
