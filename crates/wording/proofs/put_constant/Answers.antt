-- `wording::put_constant` meets its contract: the digits, behind a minus where the constant is below 0. Assumes
-- nothing.
use Rattle.std.proofs.Common.{arith}
use Rattle.numbers.proofs.Put.{put_byte, put_then}
use Rattle.wording.proofs.Pieces.{unsigned, not-below, below}
use Rattle.wording.proofs.put_constant.Goals as goal
use Rattle.wording.proofs.put_constant.Goals.{then-attribute-ne-AMOUNT-via-then-attribute-ne-AMOUNT, then-attribute-ne-AMOUNT-via-else-attribute-ne-AMOUNT+then-constant-lt2147483648}

pub returns-then-attribute-ne-AMOUNT : goal.returns-then-attribute-ne-AMOUNT
returns-then-attribute-ne-AMOUNT c =
    let a = c.args in
    let e = c.put_number.ensures in
    elim c.then-attribute-ne-AMOUNT.branch [
      | then-attribute-ne-AMOUNT-via-then-attribute-ne-AMOUNT w ↦
          (rw (unsigned a.attribute a.constant w.if-attribute-ne-AMOUNT.true) e.0, omega arith)
      | then-attribute-ne-AMOUNT-via-else-attribute-ne-AMOUNT+then-constant-lt2147483648 w ↦
          (rw (not-below a.attribute a.constant w.if-attribute-ne-AMOUNT.false w.if-constant-lt2147483648.true) e.0, omega arith)
    ]

pub returns : goal.returns
returns c =
    let a = c.args in
    let e = c.put_number-2 in (
      rw (below a.attribute a.constant c.if-attribute-ne-AMOUNT.false (omega arith) (omega arith)) (put_then (put_byte a.text.now a.at 45 (omega arith)) e.ensures.0),
      omega arith,
    )
