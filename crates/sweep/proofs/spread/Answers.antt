-- `sweep::spread`: one variable after another. Assumes nothing.
use Rattle.std.proofs.Common.{arith}
use Rattle.sweep.proofs.Starts.{spreading-more, spread-variable}
use Rattle.sweep.proofs.spread.Goals as goal

pub bounds-links-at : goal.bounds-links-at
bounds-links-at c =
    let v = spread-variable _ _ _ _ _ _ _ _ c.loop-rest.invariant c.lowest_bit-v.ensures in
    omega (arith, c.requires.0)

pub loop-rest-preserved : goal.loop-rest-preserved
loop-rest-preserved c =
    spreading-more _ _ _ _ _ _ _ _ c.loop-rest.invariant c.lowest_bit-v.ensures _ _ c.without_bit-rest.ensures
    c.raise_row.ensures
