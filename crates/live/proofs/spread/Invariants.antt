-- `live::spread` meets its contract: the extensions variable by variable, the lowest of those left first.
-- Assumes nothing.
use Prim.Native.Nat.{◌^◌, ◌<◌}
use Rattle.patterns.specs.Patterns.{most_variables}
use Rattle.slots.specs.Slots.{held_in, slot_at}
use Rattle.live.specs.Live.{fired_by}
use Rattle.live.proofs.Adding.{Partly}
use Rattle.live.proofs.spread.Given as goal

abbrev pub invariant-loop-rest : goal.invariant-loop-rest
invariant-loop-rest l = (l.rest < 2 ^ most_variables)
    × Partly l.initial.work l.work l.dst l.limit l.initial.more.total l.initial.more.over l.more.total l.more.over
    (fired_by l.plan l.block l.i l.can (held_in (slot_at l.initial.work l.from)))
    (fired_by l.plan l.block l.i l.rest (held_in (slot_at l.initial.work l.from)))

abbrev pub decreases-loop-rest : goal.decreases-loop-rest
decreases-loop-rest l = l.rest
