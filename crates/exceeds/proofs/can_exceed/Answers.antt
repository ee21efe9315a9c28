-- `exceeds::can_exceed` meets its contract. Assumes nothing.
use Rattle.std.proofs.Common.{arith, ◌<◌, ℕ, subst}
use Rattle.records.specs.Records.{record_count}
use Rattle.slots.specs.Slots.{held_in, count_in}
use Rattle.slots.proofs.Slots.{length-held_in}
use Rattle.reach.proofs.Readings.{fit}
use Rattle.reach.proofs.Masks.{read-bound}
use Rattle.exceeds.specs.Open.{IsOpen}
use Rattle.exceeds.proofs.Bounds.{Fixed, few-first, few-turn, few-over}
use Rattle.exceeds.proofs.can_exceed.Goals as goal

pub returns-then-end-j : goal.returns-then-end-j
returns-then-end-j c = λ _.
    let a = c.args in
    let most = c.requires.0.reads.few in
    let held = length-held_in a.slot.now in
    few-over a.plan.now a.block.now a.s a.slot.now a.j a.j a.end (record { many = count_in a.slot.now; single = 0 })
    (few-first a.plan.now a.block.now a.s.n a.s.c (held_in a.slot.now).bindings a.j _ (omega arith))
    (omega arith) (omega arith)

pub loop-i-init : goal.loop-i-init
loop-i-init c =
    let a = c.args in
    let most = c.requires.0.reads.few in
    let held = length-held_in a.slot.now in
    (omega arith, few-first a.plan.now a.block.now a.s.n a.s.c (held_in a.slot.now).bindings a.j _ (omega arith))

pub returns-then-end-i : goal.returns-then-end-i
returns-then-end-i c = λ _.
    let a = c.args in
    let h = c.loop-i in
    few-over a.plan.now a.block.now a.s a.slot.now a.j h.i a.end h.t h.invariant.1 h.auto.i (omega arith)

pub count_record-t-requires : goal.count_record-t-requires
count_record-t-requires c =
    let a = c.args in
    let ready = c.requires.0 in
    let inside : c.loop-i.i < record_count a.block.now = omega (arith, ready.block) in (
      read-bound a.plan.now a.block.now a.s.n a.s.c ready.usable.variables a.cans.now c.requires.1 c.loop-i.i inside,
      fit a.plan.now a.block.now a.s.n a.s.c a.j a.slot.now ready.usable ready.reads c.loop-i.i c.loop-i.auto.i inside,
      c.loop-i.invariant.0,
    )

pub loop-i-preserved : goal.loop-i-preserved
loop-i-preserved c =
    let a = c.args in
    let h = c.loop-i in
    let ready = c.requires.0 in
    let known = c.open_of-variables in
    let fixed : Fixed a.plan.now a.block.now a.cans.now a.slot.now a.s.n a.s.c a.j known.result =
    record {
      few = ready.usable.variables;
      reads = ready.reads;
      settled = c.requires.1;
      known = subst (λ (x : ℕ). IsOpen a.plan.now a.s.n x known.result) c.state_of.ensures known.ensures;
    } in (
      omega arith,
      few-turn a.plan.now a.block.now a.cans.now a.slot.now a.s.n a.s.c a.j known.result fixed h.i h.auto.i (omega (arith, ready.block))
          h.t _ c.count_record-t.ensures h.invariant.1,
    )

pub returns : goal.returns
returns c = λ _.
    let a = c.args in
    let h = c.loop-i in
    few-over a.plan.now a.block.now a.s a.slot.now a.j h.i a.end h.t h.invariant.1 h.auto.i (omega arith)
