-- `reach::any_joins` meets its contract. Assumes nothing.
use Rattle.std.proofs.Common.{arith, ◌∙◌, sym}
use Rattle.patterns.specs.Patterns.{most_variables}
use Rattle.slots.specs.Slots.{held_in}
use Rattle.reach.proofs.MaskInTurn.{low_bits}
use Rattle.reach.proofs.Masks.{tested-more}
use Rattle.reach.proofs.any_joins.Goals as goal

pub joins_hold-requires : goal.joins_hold-requires
joins_hold-requires c =
    let low = c.lowest_bit-v in
    (c.requires.1, low_bits c.loop-left.left most_variables low.result c.loop-left.invariant.0 low.ensures.here)

pub loop-left-preserved : goal.loop-left-preserved
unfolding held_in
loop-left-preserved c =
    let none = sym c.joins_hold.ensures ∙ c.if-joins_hold.false in
    let known = tested-more _ _ _ most_variables _ c.loop-left.invariant.0 c.loop-left.invariant.1 none in
    rw c.without_bit-left.ensures (omega arith, known)
