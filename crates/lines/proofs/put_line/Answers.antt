-- `lines::put_line` meets its contract: mark, bindings, line feed. Assumes nothing.
use Rattle.std.proofs.Common.{arith}
use Rattle.numbers.proofs.Put.{put_byte}
use Rattle.lines.proofs.Lines.{line-put}
use Rattle.lines.proofs.put_line.Goals as goal

pub returns : goal.returns
returns c =
    let a = c.args in
    let n = c.number2-head in
    let m = c.put_number-middle in
    let e = c.put_bindings-end in (
      line-put a.text.now m.new.text e.new.text _ a.res.now a.at a.from m.result e.result _ n.result n.ensures m.ensures.0
          e.ensures.0 (put_byte e.new.text e.result 10 (omega arith)),
      omega arith,
    )
