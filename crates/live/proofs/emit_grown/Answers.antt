-- `live::emit_grown` meets its contract: the grown reading, or a binding too many noted. Assumes nothing.
use Rattle.std.proofs.Common.{◌∙◌, ap, arith}
use Rattle.slots.specs.Slots.{count_in, slot_at}
use Rattle.live.proofs.Parts.{part-slot}
use Rattle.live.proofs.TooLong.{grow-long}
use Rattle.live.proofs.Memory.{added-long}
use Rattle.live.proofs.emit_grown.Goals as goal

pub returns-else-count_of-lt-MOST_BINDINGS : goal.returns-else-count_of-lt-MOST_BINDINGS
returns-else-count_of-lt-MOST_BINDINGS c = let a = c.args in
    let count = c.count_of.ensures ∙ ap count_in (part-slot a.work.now a.from) in
    added-long (grow-long (slot_at a.work.now a.from) a.i a.v (omega arith))
