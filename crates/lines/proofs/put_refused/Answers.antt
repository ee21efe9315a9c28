-- `lines::put_refused` meets its contract: the word, two numbers, line feed. Assumes nothing.
use Rattle.std.proofs.Common.{arith}
use Rattle.lines.specs.Text.{refused_text}
use Rattle.numbers.proofs.Put.{put_byte, put_then}
use Rattle.lines.proofs.put_refused.Goals as goal

pub returns : goal.returns
unfolding refused_text
returns c =
    let p = c.put_after-place in
    let n = c.put_after-code in
    let w = c.put_word-word in (
      put_then (put_then (put_then w.ensures n.ensures.0) p.ensures.0) (put_byte p.new.text p.result 10 (omega arith)),
      omega arith,
    )
