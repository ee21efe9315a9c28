-- `patterns::order` gives the order of two naturals. Assumes nothing.
use Rattle.patterns.proofs.Comparison.{order-counted}
use Rattle.patterns.proofs.order.Goals as goal

pub returns : goal.returns
returns c = cc (order-counted c.args.x c.args.y)
