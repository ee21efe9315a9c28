-- `slots::bind` meets its contract: count, state and the new binding's bytes, one write after the other.
-- Assumes nothing.
use Rattle.std.proofs.Common.{arith, ◌∙◌, ◌<◌}
use Rattle.numbers.proofs.Bits.{or-weight-bound}
use Rattle.slots.proofs.Growing.{held_grown}
use Rattle.slots.proofs.bind.Goals as goal

pub overflow_cast-state : goal.overflow_cast-state
overflow_cast-state c =
    let fits : c.with_bit-state.result < 65536 = rw c.with_bit-state.ensures (or-weight-bound c.number2.result 16 c.args.v (omega arith) (omega arith)) in
    omega arith

pub returns : goal.returns
returns c = let a = c.args in
    let fits : c.with_bit-state.result < 65536 = rw c.with_bit-state.ensures (or-weight-bound c.number2.result 16 a.v (omega arith) (omega arith)) in
    held_grown a.slot.now _ _ a.i a.v _ _ c.requires.0 c.count_of-count.ensures (omega arith) c.requires.3 c.requires.2 (cc) fits
    (c.copy_from_slice.ensures.after ∙ c.to_be_bytes.ensures) (c.copy_from_slice-2.ensures.after ∙ c.to_be_bytes-2.ensures)
