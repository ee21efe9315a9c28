-- `live::advance` meets its contract: what the live readings become, slot by slot, then those that begin. Assumes
-- nothing.
use Rattle.std.proofs.Common.{◌≡◌, ℕ, ◌+◌, ◌*◌, arith}
use Rattle.slots.specs.Slots.{slot_bytes, held_in, slot_at, slots_at}
use Rattle.live.proofs.Memory.{apart-part}
use Rattle.live.proofs.Steps.{length-extend}
use Rattle.live.proofs.Adding.{all_start, all-turn, added-step}
use Rattle.live.proofs.Fits.{fit-kept}
use Rattle.live.proofs.advance.Goals as goal

pub loop-k-init : goal.loop-k-init
loop-k-init c = let a = c.args in
    (omega arith, all_start a.plan.now a.block.now a.i a.can a.work.now a.dst a.limit a.src)

pub extend_one-out-requires : goal.extend_one-out-requires
extend_one-out-requires c = let a = c.args in
    let added = c.loop-k.invariant.1 in
    let size = added.size in
    let apart = c.requires.room.2 in
    let at : ℕ = a.src + slot_bytes * c.loop-k.k in (
      omega arith,
      omega arith,
      apart-part apart at (at + slot_bytes) (omega arith) (omega arith),
      omega arith,
      c.requires.ready.1,
      c.requires.ready.2,
      fit-kept apart added.outside at (omega arith) (omega arith) (c.requires.ready.4.fit c.loop-k.k (omega arith)),
    )

pub loop-k-preserved : goal.loop-k-preserved
loop-k-preserved c = let a = c.args in
    let x = c.extend_one-out.ensures in
    let at : ℕ = a.src + slot_bytes * c.loop-k.k in
    let few = length-extend a.plan.now a.block.now a.i (held_in (slot_at c.loop-k.work at)) a.can in
    (omega (arith, x.total), all-turn a.plan.now a.block.now a.i a.can a.src a.count c.loop-k.k c.requires.room.2 (omega arith) c.loop-k.invariant.1 x)

pub returns : goal.returns
returns c = let a = c.args in
    let q : c.loop-k.k ≡ a.count = omega arith in
    added-step a.plan.now a.block.now a.i a.can (slots_at a.work.now a.src a.count) (rw q at c.loop-k.invariant.1) c.begin.ensures
