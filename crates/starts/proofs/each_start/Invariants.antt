-- `starts::each_start`: the starts before record i are done, and no window that closed since has record i. Assumes
-- nothing.
use Rattle.std.proofs.Common.{◌≤◌, ◌<◌}
use Rattle.starts.specs.Sinks.{sink_of, none_yet}
use Rattle.closings.specs.Closings.{OpenTo}
use Rattle.starts.specs.Skips.{give_up}
use Rattle.starts.proofs.Starts.{Left}
use Rattle.starts.proofs.each_start.Given as goal

abbrev pub invariant-loop-i : goal.invariant-loop-i
invariant-loop-i l =
    Left l.plan l.block l.n l.c l.duration l.most l.i (sink_of l.initial.res none_yet) (sink_of l.res l.counts)
    × (l.counts.steps < give_up)
    × (l.opened ≤ l.count)
    × OpenTo l.block l.duration l.i l.opened
