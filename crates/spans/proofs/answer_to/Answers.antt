-- `spans::answer_to` meets its contract: it hands the pattern and the block that the input has to the pass.
-- Assumes nothing.
use Rattle.std.proofs.Common.{arith}
use Rattle.spans.proofs.Program.{pass-called}
use Rattle.spans.proofs.answer_to.Goals as goal

pub returns : goal.returns
returns c =
    pass-called c.args.input.now _ c.forward.new.res c.forward.result c.number2.result _ _ c.number2.ensures c.if-input-end.false (omega arith) (omega arith) c.forward.ensures
