-- `live::begin` meets its contract: the readings that begin variable by variable, the lowest of those left first.
-- Assumes nothing.
use Prim.Native.Nat.{◌^◌, ◌<◌}
use Rattle.patterns.specs.Patterns.{most_variables}
use Rattle.live.specs.Live.{begun_by}
use Rattle.live.proofs.Adding.{Partly}
use Rattle.live.proofs.begin.Given as goal

abbrev pub invariant-loop-rest : goal.invariant-loop-rest
invariant-loop-rest l = (l.rest < 2 ^ most_variables)
    × Partly l.initial.work l.work l.dst l.limit l.initial.more.total l.initial.more.over l.more.total l.more.over
    (begun_by l.plan l.i l.can)
    (begun_by l.plan l.i l.rest)

abbrev pub decreases-loop-rest : goal.decreases-loop-rest
decreases-loop-rest l = l.rest
