-- `wording::put_within` meets its contract: the word, the digits, line feed. Assumes nothing.
use Rattle.std.proofs.Common.{arith}
use Rattle.numbers.proofs.Put.{put_byte, put_then}
use Rattle.wording.proofs.Pieces.{within_text}
use Rattle.wording.proofs.put_within.Goals as goal

pub returns : goal.returns
returns c =
    let w = c.put_word-word in
    let n = c.put_number-end in
    (rw (within_text _) (put_then (put_then w.ensures n.ensures.0) (put_byte n.new.text n.result 10 (omega arith))), omega arith)
