-- `live::emit` meets its contract: one reading more in the next slot, or only counted. Assumes nothing.
use Rattle.std.proofs.Common.{arith}
use Rattle.live.proofs.Memory.{added-over, added-put}
use Rattle.live.proofs.emit.Goals as goal
use Rattle.live.proofs.emit.Goals.{then-out-limit, else-out-limit}

pub returns : goal.returns
returns c = elim c.if-out-limit.branch [
  | then-out-limit w ↦ rw (w.work-is, w.store.ensures) (added-put c.args.slot.now (omega arith) c.requires.0 (omega arith) c.requires.1)
  | else-out-limit w ↦ rw w.work-is (added-over (omega arith) c.requires.1)
]
