-- `fills::can_fill` meets its contract. Assumes nothing.
use Rattle.std.proofs.Common.{arith, ◌+◌, ℕ, ◌-◌, sym, subst}
use native.Mathlib.Nat.{lt_of_lt_of_le}
use lib.Bits.{bit_and}
use lib.Pow.{pow_mono}
use Rattle.slots.specs.Slots.{held_in}
use Rattle.reach.proofs.Masks.{read-bound}
use Rattle.fills.specs.Filling.{Within}
use Rattle.fills.specs.Opening.{LastAt}
use Rattle.fills.proofs.Sets.{next-is, within-state, without-next, within_more, never-full}
use Rattle.fills.proofs.OrderMark.{up-to-below}
use Rattle.fills.proofs.Latest.{sure-loops, last-first, last_more}
use Rattle.fills.proofs.NextSet.{begins-after, begins-within}
use Rattle.fills.proofs.can_fill.Goals as goal

pub loop-init : goal.loop-init
loop-init c = let a = c.args in
    let ready = c.requires.0 in
    let last = c.last_of-last.ensures in
    record {
      after = omega arith;
      inside = ready.within;
      within = subst (λ (x : ℕ). Within a.plan.now a.block.now a.s a.slot.now a.j x a.j) (sym c.state_of-reached.ensures)
          (within-state a.plan.now a.block.now a.s a.slot.now a.j ready);
      behind = rw last (up-to-below (held_in a.slot.now).bindings a.j ready.reads.below);
      latest = subst (λ (x : ℕ). LastAt a.plan.now a.block.now a.s a.slot.now a.j c.state_of-reached.result x a.j) (sym last)
          (last-first a.plan.now a.block.now a.s a.slot.now a.j ready c.state_of-reached.result);
    }

pub beginning-first-requires : goal.beginning-first-requires
beginning-first-requires c = let a = c.args in
    let ready = c.requires.0 in
    let usable = ready.usable in
    let end = ready.block in
    let h = c.loop in
    let leave = c.leaving-leave.result in
    let next = next-is a.plan.now a.s.n h.reached leave c.leaving-leave.ensures in (
      omega arith,
      lt_of_lt_of_le next.bound (pow_mono usable.variables),
      record {
        size = c.requires.1.size;
        small = λ i l. read-bound a.plan.now a.block.now a.s.n a.s.c usable.variables a.cans.now c.requires.1 i (omega arith);
        behind = h.invariant.behind;
        inside = h.invariant.inside;
        block = end;
        records = usable.records;
      },
    )

pub needed-requires : goal.needed-requires
needed-requires c = let a = c.args in
    let ready = c.requires.0 in
    let h = c.loop in
    let leave = c.leaving-leave.result in
    let set : ℕ = leave - bit_and leave h.reached in
    let next = next-is a.plan.now a.s.n h.reached leave c.leaving-leave.ensures in
    let sure = sure-loops a.plan.now a.s.n h.reached leave c.unjoined-free.result c.leaving-leave.ensures c.unjoined-free.ensures in
    let first = c.beginning-first in
    let near = begins-after a.plan.now a.block.now a.cans.now h.reached set (bit_and (bit_and leave h.reached) c.unjoined-free.result) h.last h.from a.s.until first.result first.ensures h.invariant.inside in
    record {
      ready = ready;
      settled = c.requires.1;
      some = omega arith;
      variables = lt_of_lt_of_le next.bound (pow_mono ready.usable.variables);
      after = omega (arith, near.0);
      inside = near.1;
      without = without-next a.plan.now a.block.now a.s a.slot.now a.j ready h.reached set next first.result
          (begins-within a.plan.now a.block.now a.s a.slot.now a.j ready a.cans.now c.requires.1 h.reached set (bit_and (bit_and leave h.reached) c.unjoined-free.result) next sure first.result near.1 h.last h.from h.invariant.after h.invariant.within h.invariant.latest first.ensures)
          set (λ v e. e);
    }

pub returns-in_default : goal.returns-in_default
returns-in_default c =
    let a = c.args in
    let h = c.loop in
    let leave = c.leaving-leave.result in
    let next = next-is a.plan.now a.s.n h.reached leave c.leaving-leave.ensures in
    λ e. never-full a.plan.now a.block.now a.s a.slot.now a.j c.requires.0 h.reached (leave - bit_and leave h.reached) next (a.s.until + 1) c.in_default.ensures (omega arith)

pub loop-preserved : goal.loop-preserved
loop-preserved c = let a = c.args in
    let ready = c.requires.0 in
    let h = c.loop in
    let leave = c.leaving-leave.result in
    let set : ℕ = leave - bit_and leave h.reached in
    let next = next-is a.plan.now a.s.n h.reached leave c.leaving-leave.ensures in
    let first = c.beginning-first in
    let near = begins-after a.plan.now a.block.now a.cans.now h.reached set (bit_and (bit_and leave h.reached) c.unjoined-free.result) h.last h.from a.s.until first.result first.ensures h.invariant.inside in
    let found = c.in-Some.ensures in
    record {
      after = omega (arith, near.0, found.0.after);
      inside = omega arith;
      within = within_more a.plan.now a.block.now a.s a.slot.now a.j ready h.reached set next h.from h.invariant.within h.invariant.after c.in-Some.end (omega arith) found.0.late;
      behind = omega arith;
      latest = last_more a.plan.now a.block.now a.s a.slot.now a.j ready h.reached set h.from c.in-Some.end (omega arith) (lt_of_lt_of_le next.bound (pow_mono ready.usable.variables)) h.invariant.after next h.invariant.within found.0.late;
    }
