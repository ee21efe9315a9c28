-- `plans::plan_of` meets its contract. The loop's invariant: the places passed are filled. Assumes nothing.
use Rattle.std.proofs.Common.{arith}
use Rattle.plans.proofs.Plans.{plan-made}
use Rattle.plans.proofs.plan_of.Goals as goal

pub returns : goal.returns
returns c = plan-made c.args.p c.requires.few_conditions c.loop-at.number-items (omega arith) (λ i h. c.loop-at.invariant.1 i (omega arith))
