-- `patterns::set_conditions` meets its contract. Assumes nothing.
use Rattle.std.proofs.Common.{arith, ◌∙◌, ap}
use Rattle.patterns.specs.Patterns.{condition_of}
use Rattle.patterns.proofs.Reading.{condition-read}
use Rattle.patterns.proofs.set_conditions.Goals as goal

pub loop-i-preserved : goal.loop-i-preserved
loop-i-preserved c =
    condition-read _ _ _ _ _ _ (omega arith) c.set_condition.ensures c.loop-i.invariant
    (c.unpack_condition.ensures ∙ ap condition_of c.condition_word.ensures)
