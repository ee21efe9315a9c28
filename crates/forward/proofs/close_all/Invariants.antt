-- `forward::close_all` meets its contract: the lines of the full ones, slot by slot. Assumes nothing.
use Rattle.std.proofs.Common.{false}
use Rattle.slots.specs.Slots.{slots_at}
use Rattle.slots.specs.Results.{mark_number}
use Rattle.forward.specs.Closing.{lines_by}
use Rattle.forward.specs.Lines.{Wrote}
use Rattle.forward.proofs.close_all.Given as goal

abbrev pub invariant-loop-k : goal.invariant-loop-k
invariant-loop-k l = Wrote l.initial.res l.res l.initial.told.used l.initial.told.readings false l.told.used l.told.readings false (lines_by l.full (mark_number l.mark) (slots_at l.work l.src l.k))
