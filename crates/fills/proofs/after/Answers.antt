-- `fills::after` meets its contract. Assumes nothing.
use Rattle.std.proofs.Common.{arith, ◌≡◌, ◌+◌, ◌<◌, ◌≤◌, sym, subst}
use Rattle.numbers.specs.Bits.{bit}
use Rattle.numbers.proofs.Count.{count-but}
use Rattle.patterns.specs.Patterns.{most_variables}
use Rattle.records.specs.Records.{record_count}
use Rattle.reach.proofs.MaskInTurn.{low_bits}
use Rattle.reach.proofs.Readings.{fit}
use Rattle.reach.proofs.Masks.{allowed-read}
use Rattle.reach.proofs.Ones.{ones-bits}
use Rattle.fills.specs.Filling.{Lacks, Late}
use Rattle.fills.proofs.Counting.{some-bit}
use Rattle.fills.proofs.Lacking.{lacks-all, lacks-next, late-from, late-next, asked-read}
use Rattle.fills.proofs.after.Goals as goal

pub loop-i-init : goal.loop-i-init
loop-i-init c =
    let a = c.args in
    let asks = c.requires in
    let size = ones-bits a.x most_variables asks.variables in
    let v = some-bit a.x most_variables asks.some asks.variables in
    let some = count-but (bit a.x) v.0 most_variables (low_bits a.x most_variables v.0 asks.variables v.1) v.1 in (
      omega arith,
      subst (Lacks a.plan.now a.block.now a.s a.slot.now a.j a.x a.from) (sym size)
          (lacks-all a.plan.now a.block.now a.s a.slot.now a.j a.x a.from asks.without),
      late-from a.plan.now a.block.now a.s a.slot.now a.j a.x a.from asks.some asks.variables asks.without,
    )

pub any_joins-requires : goal.any_joins-requires
any_joins-requires c =
    let a = c.args in
    let asks = c.requires in
    let ready = asks.ready in
    let inside : c.loop-i.i < record_count a.block.now = omega (arith, ready.block) in
    let after : a.j ≤ c.loop-i.i = omega (arith, asks.after) in (
      allowed-read a.plan.now a.block.now a.s.n a.s.c ready.usable.variables a.cans.now asks.settled c.loop-i.i inside a.x,
      fit a.plan.now a.block.now a.s.n a.s.c a.j a.slot.now ready.usable ready.reads c.loop-i.i after inside,
    )

pub returns-then-left-eq0 : goal.returns-then-left-eq0
returns-then-left-eq0 c =
    let a = c.args in
    let h = c.loop-i in (
      record {
        after = omega arith;
        late = late-next a.plan.now a.block.now a.s a.slot.now a.j a.x h.i h.left h.invariant.0 h.invariant.1 h.invariant.2;
      },
      omega arith,
    )

pub loop-i-preserved : goal.loop-i-preserved
loop-i-preserved c =
    let a = c.args in
    let h = c.loop-i in
    let asks = c.requires in
    let inside : h.i < record_count a.block.now = omega (arith, asks.ready.block) in
    let after : a.j ≤ h.i = omega (arith, asks.after) in (
      omega arith,
      rw c.one_if-left.ensures
          (lacks-next a.plan.now a.block.now a.s a.slot.now a.j a.x asks.ready h.i h.left after (omega arith) h.invariant.0 h.invariant.1 c.any_joins.result
          (λ e. asked-read a.plan.now a.block.now a.s a.slot.now a.j a.x a.cans.now asks.settled h.i inside (c.any_joins.ensures e))),
      late-next a.plan.now a.block.now a.s a.slot.now a.j a.x h.i h.left h.invariant.0 h.invariant.1 h.invariant.2,
    )

pub returns : goal.returns
returns c =
    let a = c.args in
    let h = c.loop-i in
    let end : h.i + 1 ≡ a.s.until + 1 = omega (arith, c.requires.inside) in
    subst (Late a.plan.now a.block.now a.s a.slot.now a.j a.x) end
    (late-next a.plan.now a.block.now a.s a.slot.now a.j a.x h.i h.left h.invariant.0 h.invariant.1 h.invariant.2)
