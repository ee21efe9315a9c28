-- `live::extend_one` meets its contract: the extensions, or the reading itself. Assumes nothing.
use Rattle.std.proofs.Common.{◌∙◌, arith}
use Rattle.slots.specs.Slots.{held_in, slot_at}
use Rattle.live.proofs.TooLong.{slot-short}
use Rattle.live.proofs.Memory.{part-kept}
use Rattle.live.proofs.Steps.{length-fired}
use Rattle.live.proofs.Adding.{added-extended, added-kept}
use Rattle.live.proofs.extend_one.Goals as goal

pub returns-then-out-more : goal.returns-then-out-more
returns-then-out-more c = let a = c.args in
    added-extended a.plan.now a.block.now a.i a.can (held_in (slot_at a.work.now a.from)) c.if-out-more.true c.spread-more.ensures

pub emit-requires : goal.emit-requires
emit-requires c = let a = c.args in
    let x = c.spread-more in
    let size = x.ensures.size in
    let kept = part-kept c.requires.2 a.work.now x.new.work a.from (omega arith) (omega arith) x.ensures.outside in
    let few = length-fired a.plan.now a.block.now a.i (held_in (slot_at a.work.now a.from)) a.can in
    (omega arith, rw (c.load-slot.ensures ∙ kept) (slot-short (slot_at a.work.now a.from) c.requires.6.seated.few), omega (arith, x.ensures.total))

pub returns : goal.returns
returns c = let a = c.args in
    let x = c.spread-more in
    let kept = part-kept c.requires.2 a.work.now x.new.work a.from (omega arith) (omega arith) x.ensures.outside in
    added-kept a.plan.now a.block.now a.i a.can (held_in (slot_at a.work.now a.from)) c.if-out-more.false x.ensures
    (rw (c.load-slot.ensures ∙ kept) at c.emit.ensures)
