-- `live::advance` meets its contract: what the live readings become, slot by slot, then those that begin. Assumes
-- nothing.
use mathlib.Core.Bool.{false}
use Prim.Native.Nat.{◌*◌, ◌≤◌}
use Rattle.patterns.specs.Patterns.{most_variables}
use Rattle.automaton.specs.Filtering.{collect}
use Rattle.slots.specs.Slots.{slots_at}
use Rattle.live.specs.Live.{extend_by}
use Rattle.live.specs.Memory.{Added}
use Rattle.live.proofs.advance.Given as goal

abbrev pub invariant-loop-k : goal.invariant-loop-k
invariant-loop-k l = (l.out.total ≤ most_variables * l.k)
    × Added l.initial.work l.work l.dst l.limit 0 false l.out.total l.out.over (collect (extend_by l.plan l.block l.i l.can) (slots_at l.initial.work l.src l.k))
