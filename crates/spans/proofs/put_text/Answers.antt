-- `spans::put_text` meets its contract: the lines that the result stands for are those of the report. Assumes nothing.
use Rattle.std.proofs.Common.{arith}
use Rattle.spans.proofs.Program.{answered-place, program-written}
use Rattle.spans.proofs.put_text.Goals as goal

pub put_answer-requires : goal.put_answer-requires
put_answer-requires c =
    let a = c.answer_to-answer in
    (answered-place c.args.input.now a.new.res a.result a.ensures, omega arith)

pub returns : goal.returns
returns c =
    let a = c.answer_to-answer in
    (program-written c.args.input.now a.new.res _ a.result a.ensures c.put_answer.ensures.0, c.put_answer.ensures.1)
