-- `forward::close_all` meets its contract: the lines of the full ones, slot by slot. Assumes nothing.
use Rattle.std.proofs.Common.{◌+◌, ◌*◌, arith}
use Rattle.std.proofs.lemmas.Result.{err_from_is_err_and}
use Rattle.slots.specs.Slots.{slot_bytes, slot_at}
use Rattle.slots.specs.Results.{mark_number}
use Rattle.live.proofs.Parts.{part-slot, length-slot_at}
use Rattle.live.proofs.TooLong.{slots-short, short-count}
use Rattle.forward.proofs.Lines.{wrote-start, wrote-turn, wrote-cut}
use Rattle.forward.proofs.close_all.Goals as goal

pub loop-k-init : goal.loop-k-init
loop-k-init c = let a = c.args in
    wrote-start a.res.now a.work.now a.tell.used a.tell.readings a.full (mark_number a.mark) a.src c.requires.2 c.requires.3

pub close_one-requires : goal.close_one-requires
close_one-requires c = let a = c.args in
    let at = a.src + slot_bytes * c.loop-k.k in
    let e = part-slot a.work.now at in (
      rw e (length-slot_at a.work.now at (omega arith)),
      rw e (short-count (slot_at a.work.now at) (slots-short a.work.now a.src a.count c.loop-k.k c.requires.1 (omega arith))),
      c.loop-k.invariant.room,
      c.loop-k.invariant.few,
    )

pub loop-k-preserved : goal.loop-k-preserved
loop-k-preserved c = let a = c.args in
    wrote-turn a.work.now a.full (mark_number a.mark) a.src c.loop-k.k (part-slot a.work.now (a.src + slot_bytes * c.loop-k.k)) c.loop-k.invariant c.in_ok-told.ensures

pub returns-in_err-told : goal.returns-in_err-told
returns-in_err-told c = let a = c.args in
    let same = err_from_is_err_and c.from_residual.result c.from_residual.ensures.1 in
    let told = c.in_err-told.ensures in
    rw (same.1, same.2)
    (told.0, wrote-cut a.work.now a.full (mark_number a.mark) a.src a.count c.loop-k.k (part-slot a.work.now (a.src + slot_bytes * c.loop-k.k)) c.loop-k-test.true c.loop-k.invariant told.1)
