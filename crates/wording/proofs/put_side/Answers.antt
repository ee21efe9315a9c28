-- `wording::put_side` meets its contract: the letter, a dot, and the attribute's word. Assumes nothing.
use Rattle.std.proofs.Common.{◌+◌, arith}
use Rattle.numbers.proofs.Put.{put_then}
use Rattle.form.specs.Form.{side_word}
use Rattle.wording.specs.Parts.{side_text}
use Rattle.wording.proofs.Pieces.{put_two}
use Rattle.wording.proofs.put_side.Goals as goal

pub returns : goal.returns
unfolding side_text side_word
returns c =
    let a = c.args in
    let e = c.put_attribute in
    (put_then (put_two a.text.now a.at (97 + a.variable) 46 (omega arith)) e.ensures.0, omega arith)
