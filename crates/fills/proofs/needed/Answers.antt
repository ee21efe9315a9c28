-- `fills::needed` meets its contract: what some variables of the set need, the set needs. Assumes nothing.
use Rattle.std.proofs.Common.{arith, sym, ◌∙◌, ◌-◌}
use lib.Bits.{and_le_l}
use Rattle.numbers.specs.Bits.{bit}
use Rattle.numbers.proofs.Bits.{bit-and}
use Rattle.numbers.proofs.Cases.{both}
use Rattle.fills.proofs.Lacking.{late-from, late-both, late-wider}
use Rattle.fills.proofs.needed.Goals as goal

pub loop-x-init : goal.loop-x-init
loop-x-init c =
    let a = c.args in
    let asks = c.requires in
    record {
      small = asks.variables;
      part = λ v e. e;
      after = omega arith;
      inside = asks.inside;
      late = late-from a.plan.now a.block.now a.s a.slot.now a.j a.set a.from asks.some asks.variables asks.without;
    }

pub loop-x-preserved : goal.loop-x-preserved
loop-x-preserved c =
    let a = c.args in
    let h = c.loop-x in
    let end = c.in_ok-end.end in
    let found = c.in_ok-end.ensures in
    let less = and_le_l (h.x - 1) a.set in
    record {
      small = omega arith;
      part = λ v e. (both (bit (h.x - 1) v) (bit a.set v) (sym (bit-and (h.x - 1) a.set v) ∙ e)).1;
      after = omega arith;
      inside = omega arith;
      late = rw c.max-most.ensures
          (late-both a.plan.now a.block.now a.s a.slot.now a.j a.set h.most end h.invariant.late
          (late-wider a.plan.now a.block.now a.s a.slot.now a.j a.set h.x end h.invariant.part found.0.late));
    }
