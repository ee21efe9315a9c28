-- `patterns::set_variables` meets its contract. Assumes nothing.
use Rattle.std.proofs.Common.{arith}
use Rattle.patterns.proofs.Reading.{variable-read}
use Rattle.patterns.proofs.set_variables.Goals as goal

pub loop-v-preserved : goal.loop-v-preserved
loop-v-preserved c = variable-read _ _ _ _ _ (omega arith) c.loop-v.invariant c.set_number.ensures c.group_flag.ensures
