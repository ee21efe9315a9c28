-- `live::try_one` meets its contract: one extension where the variable leaves the state and the reading agrees, none
-- otherwise. Assumes nothing.
use Rattle.std.proofs.Common.{refl}
use Rattle.slots.specs.Slots.{held_in, slot_at}
use Rattle.live.proofs.Adding.{leaves-held, agrees-held, added-one, added-stays, added-fails}
use Rattle.live.proofs.try_one.Goals as goal
use Rattle.live.proofs.try_one.Goals.{else-leaves-via-then-leaves+else-agrees, else-leaves-via-else-leaves}

pub returns-then-agrees : goal.returns-then-agrees
returns-then-agrees c = let a = c.args in
    added-one a.plan.now a.block.now a.i a.v (held_in (slot_at a.work.now a.from))
    (leaves-held a.plan.now a.v a.work.now a.from c.state_of.ensures c.leaves.ensures c.if-leaves.true)
    (agrees-held a.plan.now a.block.now a.i a.v a.work.now a.from c.if-agrees.ensures refl) c.emit_grown.ensures

pub returns-else-leaves : goal.returns-else-leaves
returns-else-leaves c = let a = c.args in elim c.else-leaves.branch [
  | else-leaves-via-then-leaves+else-agrees w ↦ added-fails a.plan.now a.block.now a.i a.v (held_in (slot_at a.work.now a.from))
      (leaves-held a.plan.now a.v a.work.now a.from c.state_of.ensures c.leaves.ensures w.if-leaves.true)
      (agrees-held a.plan.now a.block.now a.i a.v a.work.now a.from w.if-agrees.ensures refl)
  | else-leaves-via-else-leaves w ↦ added-stays a.plan.now a.block.now a.i a.v (held_in (slot_at a.work.now a.from))
      (leaves-held a.plan.now a.v a.work.now a.from c.state_of.ensures c.leaves.ensures w.if-leaves.false)
]
