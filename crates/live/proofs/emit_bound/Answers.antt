-- `live::emit_bound` meets its contract: one reading more in the next slot, bound there, or only counted.
-- Assumes nothing.
use Rattle.std.proofs.Common.{arith}
use Rattle.live.proofs.TooLong.{grow-short}
use Rattle.live.proofs.Memory.{added-over, added-bound}
use Rattle.live.proofs.emit_bound.Goals as goal
use Rattle.live.proofs.emit_bound.Goals.{then-out-limit, else-out-limit}

pub returns : goal.returns
returns c = let a = c.args in elim c.if-out-limit.branch [
  | then-out-limit w ↦ rw w.work-is (added-bound a.i a.v w.bind.new.slot (omega arith) c.requires.0 (omega arith) c.requires.1 w.store.ensures w.bind.ensures.0 w.bind.ensures.1)
  | else-out-limit w ↦ rw w.work-is (added-over (omega arith) (grow-short a.slot.now a.i a.v c.requires.1))
]
