-- `firing::settle_order` meets its contract: the weight of the variable where the order fails, taken out.
-- Assumes nothing.
use Rattle.std.proofs.Common.{arith, ◌∙◌, Bool, ◌*◌, ◌^◌, ap, ap₂}
use Rattle.numbers.specs.Numbers.{one_if}
use Rattle.patterns.specs.declared.Condition.{Condition}
use Rattle.patterns.specs.Patterns.{condition_of}
use Rattle.plans.proofs.Plans.{condition-variable}
use Rattle.firing.proofs.Settling.{taken_out}
use Rattle.firing.proofs.settle_order.Goals as goal

pub weight_if-lost-requires : goal.weight_if-lost-requires
weight_if-lost-requires c = omega (arith, ap (λ (k : Condition). k.variable) c.unpack_condition-variable.ensures, condition-variable c.args.word)

pub returns : goal.returns
returns c = let a = c.args in
    taken_out a.can (condition_of a.word) a.x a.y c.weight_if-lost.result
    (c.weight_if-lost.ensures
    ∙ ap₂ (λ (t : Bool) (k : Condition). one_if t * 2 ^ k.variable) c.fails.ensures c.unpack_condition-variable.ensures)
