-- `lines::put_answer` meets its contract: one line of a refusal, else the lines and the last one. Assumes nothing.
use Rattle.std.proofs.Common.{arith}
use Rattle.lines.specs.Results.{lines_in}
use Rattle.lines.proofs.Answers.{refused-put, ok-put}
use Rattle.lines.proofs.put_answer.Goals as goal

pub returns-then-answer-ne0 : goal.returns-then-answer-ne0
returns-then-answer-ne0 c =
    let a = c.args in
    let e = c.put_refused in (
      refused-put a.text.now e.new.text e.result a.answer (lines_in a.res.now a.answer.readings) c.if-answer-ne0.true e.ensures.0,
      omega (arith, e.auto.text),
    )

pub returns : goal.returns
returns c =
    let a = c.args in
    let e = c.put_lines-end in
    let f = c.put_ok in
    let z = c.if-answer-ne0.false in
    let h = c.requires.0 z in (
      ok-put a.text.now e.new.text f.new.text e.result f.result a.answer (lines_in a.res.now a.answer.readings) z e.ensures.0 f.ensures.0,
      omega (arith, e.ensures.0.kept, f.ensures.0.kept, c.requires.1),
    )
