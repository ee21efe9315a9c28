-- `reach::firing_of` meets its contract. The loop's invariant: what is found so far and what the variables left will
-- give make the whole. Assumes nothing.
use Rattle.std.proofs.Common.{◌≡◌, ◌+◌, ◌^◌, ◌<◌}
use Rattle.patterns.specs.Patterns.{most_variables}
use Rattle.slots.specs.Slots.{held_in}
use Rattle.reach.specs.Readings.{agreeing_by}
use Rattle.reach.proofs.firing_of.Given as goal

abbrev pub invariant-loop-rest : goal.invariant-loop-rest
invariant-loop-rest l = (l.rest < 2 ^ most_variables) × (l.firing + agreeing_by l.plan l.block l.i l.rest (held_in l.slot) ≡ agreeing_by l.plan l.block l.i l.asked (held_in l.slot))

abbrev pub decreases-loop-rest : goal.decreases-loop-rest
decreases-loop-rest l = l.rest
