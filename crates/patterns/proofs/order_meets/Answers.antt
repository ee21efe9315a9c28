-- `patterns::order_meets` reads in the table whether an order meets an operator: its rule is proved over the whole
-- table. Assumes nothing.
use Rattle.patterns.proofs.Comparison.{operators-rule}
use Rattle.patterns.proofs.order_meets.Goals as goal

pub returns : goal.returns
returns c = operators-rule c.args.operator c.args.order c.requires.0 c.requires.1
