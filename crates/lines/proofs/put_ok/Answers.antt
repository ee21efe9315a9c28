-- `lines::put_ok` meets its contract: the word, three numbers, line feed. Assumes nothing.
use Rattle.std.proofs.Common.{arith}
use Rattle.lines.specs.Text.{ok_text}
use Rattle.numbers.proofs.Put.{put_byte, put_then}
use Rattle.lines.proofs.put_ok.Goals as goal

pub returns : goal.returns
unfolding ok_text
returns c =
    let p = c.put_after-peak in
    let u = c.put_after-used in
    let r = c.put_after-readings in
    let w = c.put_word-word in (
      put_then (put_then (put_then (put_then w.ensures r.ensures.0) u.ensures.0) p.ensures.0)
          (put_byte p.new.text p.result 10 (omega (arith, c.requires))),
      omega arith,
    )
