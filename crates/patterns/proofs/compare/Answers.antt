-- `patterns::compare` tests whether the order of two naturals meets an operator. Assumes nothing.
use Rattle.patterns.proofs.Comparison.{order-bound}
use Rattle.patterns.proofs.compare.Goals as goal

pub order_meets-requires : goal.order_meets-requires
order_meets-requires c = (c.requires, rw c.order.ensures (order-bound _ _))
