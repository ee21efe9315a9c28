-- `live::begin` meets its contract: the readings that begin variable by variable, the lowest of those left first.
-- Assumes nothing.
use Rattle.std.proofs.Common.{ap, ◌∙◌, arith}
use Rattle.patterns.specs.Patterns.{most_variables}
use Rattle.live.specs.Live.{begun_by}
use Rattle.live.proofs.MaskInTurn.{bit_below}
use Rattle.live.proofs.Steps.{begun-none, begun-lowest, length-begun}
use Rattle.live.proofs.Adding.{partly-turn, partly-all, partly-total}
use Rattle.live.proofs.begin.Goals as goal

pub begin_one-more-requires : goal.begin_one-more-requires
begin_one-more-requires c = let a = c.args in
    let p = c.loop-rest.invariant.1 in
    let size = p.added.size in
    let few = length-begun a.plan.now a.i a.can in (
      omega arith,
      omega (arith, partly-total p),
      bit_below c.loop-rest.rest most_variables c.lowest_bit-v.result c.loop-rest.invariant.0 c.lowest_bit-v.ensures.here,
      c.requires.3,
      c.requires.4,
    )

pub loop-rest-preserved : goal.loop-rest-preserved
loop-rest-preserved c = let a = c.args in
    let turn = begun-lowest a.plan.now a.i c.loop-rest.rest c.lowest_bit-v.result 64 c.loop-rest.invariant.0 c.lowest_bit-v.ensures in
    let w = c.without_lowest-rest.ensures _ c.lowest_bit-v.ensures in
    (omega (arith, c.loop-rest.invariant.0), rw w (partly-turn c.loop-rest.invariant.1 turn c.begin_one-more.ensures))

pub returns : goal.returns
returns c = let a = c.args in
    partly-all c.loop-rest.invariant.1 (ap (begun_by a.plan.now a.i) c.loop-rest-test.false ∙ begun-none a.plan.now a.i)
