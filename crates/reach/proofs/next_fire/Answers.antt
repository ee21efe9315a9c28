-- `reach::next_fire` meets its contract: no record before the one that it gives fires a step. Assumes nothing.
use Rattle.std.proofs.Common.{arith, ◌≡◌, ◌∙◌, List, ℕ, ◌+◌, ◌≤◌, ◌<◌, sym, ap, get_or}
use lib.Bits.{bit_and, and_le_r}
use Rattle.slots.specs.Slots.{held_in}
use Rattle.numbers.proofs.Cases.{by_order}
use Rattle.reach.specs.declared.Start.{Start}
use Rattle.reach.specs.Readings.{firing_by, leaving_by, agreeing_by, Cans, Ready, NextCan}
use Rattle.reach.proofs.Readings.{fit}
use Rattle.reach.proofs.Masks.{allowed-read, firing-read, none_read, passed-more}
use Rattle.reach.proofs.next_fire.Goals as goal

module _ (plan bytes : List ℕ) (s : Start) (slot : List ℕ) (j : ℕ) (ready : Ready plan bytes s slot j) (cans : List ℕ)
    (settled : Cans plan bytes s.n s.c cans) (leave : ℕ) (is : leave ≡ leaving_by plan s.n (held_in slot).state) where
  -- the records that a search for the next one passes fire nothing
  more-passed :
      (from r : ℕ) → NextCan cans leave from s.until r
      → ((k : ℕ) → j ≤ k → k < from → firing_by plan bytes s.n s.c k (held_in slot) ≡ 0)
      → (k : ℕ) → j ≤ k → k < r → firing_by plan bytes s.n s.c k (held_in slot) ≡ 0
  more-passed from r next before k a b =
      let end = ready.block in
      let up_to = next.up_to in
      by_order k from (before k a)
      (λ l. none_read plan bytes s.n s.c ready.usable.variables cans settled k (omega arith) (held_in slot) leave is (next.passed k l b))

  -- what fires where some of them can
  firing-is :
      (i : ℕ) → i < s.until
      → agreeing_by plan bytes i (bit_and (get_or cans i 0) leave) (held_in slot)
      ≡ firing_by plan bytes s.n s.c i (held_in slot)
  firing-is i l =
      let end = ready.block in
      firing-read plan bytes s.n s.c ready.usable.variables cans settled i (omega arith) (held_in slot) leave is

pub returns-then-leave-eq0 : goal.returns-then-leave-eq0
unfolding held_in
returns-then-leave-eq0 c =
    let a = c.args in
    let ready = c.requires.0 in
    let end = ready.block in
    let is = c.leaving-leave.ensures ∙ ap (leaving_by a.plan.now a.s.n) c.state_of.ensures in
    record {
      from = ready.within;
      up_to = omega arith;
      passed = λ k x y.
          let less = and_le_r (get_or a.cans.now k 0) c.leaving-leave.result in
          none_read a.plan.now a.block.now a.s.n a.s.c ready.usable.variables a.cans.now c.requires.1 k (omega arith) (held_in a.slot.now) _ is (omega (arith, less, c.if-leave-eq0.true));
      here = λ l. absurd (omega arith);
      some = λ l. absurd (omega arith);
    }

pub loop-i-init : goal.loop-i-init
unfolding held_in
loop-i-init c =
    let a = c.args in
    let is = c.leaving-leave.ensures ∙ ap (leaving_by a.plan.now a.s.n) c.state_of.ensures in
    let next = c.next_can-i.ensures in (
      next.from,
      next.up_to,
      is,
      more-passed a.plan.now a.block.now a.s a.slot.now a.j c.requires.0 a.cans.now c.requires.1 _ is a.j _ next (λ k x y. absurd (omega arith)),
    )

pub firing_of-firing-requires : goal.firing_of-firing-requires
firing_of-firing-requires c =
    let a = c.args in
    let ready = c.requires.0 in
    let end = ready.block in
    let here = c.loop-i-test.true in (
      allowed-read a.plan.now a.block.now a.s.n a.s.c ready.usable.variables a.cans.now c.requires.1 c.loop-i.i (omega arith) c.leaving-leave.result,
      fit a.plan.now a.block.now a.s.n a.s.c a.j a.slot.now ready.usable ready.reads c.loop-i.i c.loop-i.invariant.0 (omega arith),
    )

pub returns-then-firing-ne0 : goal.returns-then-firing-ne0
returns-then-firing-ne0 c =
    let a = c.args in
    let h = c.loop-i in
    record {
      from = h.invariant.0;
      up_to = h.invariant.1;
      passed = h.invariant.3;
      here = λ l.
          c.firing_of-firing.ensures
          ∙ firing-is a.plan.now a.block.now a.s a.slot.now a.j c.requires.0 a.cans.now c.requires.1 _ h.invariant.2 h.i l;
      some = λ l. omega arith;
    }

pub loop-i-preserved : goal.loop-i-preserved
loop-i-preserved c =
    let a = c.args in
    let h = c.loop-i in
    let next = c.next_can-i-in-loop-i.ensures in
    let from = next.from in
    let read = firing-is a.plan.now a.block.now a.s a.slot.now a.j c.requires.0 a.cans.now c.requires.1 _ h.invariant.2 h.i c.loop-i-test.true in
    let none = sym read ∙ sym c.firing_of-firing.ensures ∙ c.if-firing-ne0.false in (
      omega arith,
      next.up_to,
      h.invariant.2,
      more-passed a.plan.now a.block.now a.s a.slot.now a.j c.requires.0 a.cans.now c.requires.1 _ h.invariant.2 (h.i + 1) _ next
          (passed-more (λ k. firing_by a.plan.now a.block.now a.s.n a.s.c k (held_in a.slot.now)) a.j h.i none h.invariant.3),
    )
