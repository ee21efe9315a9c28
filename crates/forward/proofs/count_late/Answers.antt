-- `forward::count_late` meets its contract: the first reading that is not late. Assumes nothing.
use Rattle.std.proofs.Common.{not, ◌+◌, ◌*◌, rules}
use Rattle.slots.specs.Slots.{slot_bytes}
use Rattle.live.proofs.Parts.{part-slot}
use Rattle.forward.specs.Closing.{first_in_time}
use Rattle.forward.proofs.ClosingCount.{late_at}
use Rattle.forward.proofs.count_late.Goals as goal

pub returns : goal.returns
unfolding first_in_time
returns c = let a = c.args in
    c.first_that.ensures (λ k. not (late_at a.block.now a.i a.duration a.work.now a.src a.count k))
    (λ v r h k. rw (← part-slot a.work.now (a.src + slot_bytes * v)) (search rules))
