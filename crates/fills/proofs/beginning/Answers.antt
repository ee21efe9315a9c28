-- `fills::beginning` meets its contract: one variable of the set tells whether it has the order mark. Assumes nothing.
use Rattle.patterns.specs.Patterns.{most_variables}
use Rattle.reach.proofs.MaskInTurn.{low_bits}
use Rattle.fills.specs.Opening.Begins.{later}
use Rattle.fills.proofs.beginning.Goals as goal

pub is_marked-requires : goal.is_marked-requires
is_marked-requires c =
    let low = c.lowest_bit in low_bits c.args.set most_variables low.result c.requires.1 low.ensures.here

pub returns-then-is_marked : goal.returns-then-is_marked
returns-then-is_marked c =
    let low = c.lowest_bit in later low.result low.ensures.here (c.is_marked.ensures c.if-is_marked.true) c.opening.ensures
