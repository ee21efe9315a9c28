-- `live::spread` meets its contract: the extensions variable by variable, the lowest of those left first.
-- Assumes nothing.
use Rattle.std.proofs.Common.{ℕ, ap, ◌∙◌, arith}
use Rattle.patterns.specs.Patterns.{most_variables}
use Rattle.slots.specs.Slots.{Held, held_in, slot_at}
use Rattle.live.specs.Live.{fired_by}
use Rattle.live.proofs.Memory.{slot_kept}
use Rattle.live.proofs.MaskInTurn.{bit_below}
use Rattle.live.proofs.Steps.{fired-none, fired-lowest, length-fired}
use Rattle.live.proofs.Adding.{partly-turn, partly-all, partly-total}
use Rattle.live.proofs.Fits.{fit-kept}
use Rattle.live.proofs.spread.Goals as goal

pub try_one-more-requires : goal.try_one-more-requires
try_one-more-requires c = let a = c.args in
    let p = c.loop-rest.invariant.1 in
    let size = p.added.size in
    let few = length-fired a.plan.now a.block.now a.i (held_in (slot_at a.work.now a.from)) a.can in (
      omega arith,
      omega arith,
      omega (arith, partly-total p),
      bit_below c.loop-rest.rest most_variables c.lowest_bit-v.result c.loop-rest.invariant.0 c.lowest_bit-v.ensures.here,
      c.requires.5,
      fit-kept c.requires.2 p.added.outside a.from (omega arith) (omega arith) c.requires.6,
    )

pub loop-rest-preserved : goal.loop-rest-preserved
loop-rest-preserved c = let a = c.args in
    let p = c.loop-rest.invariant.1 in
    let h : Held = held_in (slot_at a.work.now a.from) in
    let kept = slot_kept c.requires.2 a.work.now c.loop-rest.work a.from (omega arith) (omega arith) p.added.outside in
    let turn = fired-lowest a.plan.now a.block.now a.i h c.loop-rest.rest c.lowest_bit-v.result 64 c.loop-rest.invariant.0 c.lowest_bit-v.ensures in
    let w = c.without_lowest-rest.ensures _ c.lowest_bit-v.ensures in
    (omega (arith, c.loop-rest.invariant.0), rw w (partly-turn p turn (rw kept at c.try_one-more.ensures)))

pub returns : goal.returns
returns c = let a = c.args in
    let h : Held = held_in (slot_at a.work.now a.from) in
    partly-all c.loop-rest.invariant.1
    (ap (λ (rest : ℕ). fired_by a.plan.now a.block.now a.i rest h) c.loop-rest-test.false ∙ fired-none a.plan.now a.block.now a.i h)
