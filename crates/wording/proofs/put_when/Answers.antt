-- `wording::put_when` meets its contract: the word, a side, the operator, what stands behind it, line feed. Assumes
-- nothing.
use Rattle.std.proofs.Common.{arith}
use Rattle.numbers.proofs.Put.{put_byte, put_then}
use Rattle.patterns.specs.Checked.{condition_at}
use Rattle.wording.proofs.Pieces.{when-text}
use Rattle.wording.proofs.put_when.Goals as goal

pub put_side-left-requires : goal.put_side-left-requires
unfolding condition_at
put_side-left-requires c =
    let order = c.requires.0 in
    let inside = c.requires.1 in
    (omega (arith, order.variable c.args.i inside, order.few), order.attribute c.args.i inside, omega arith)

pub put_operator-operator-requires : goal.put_operator-operator-requires
unfolding condition_at
put_operator-operator-requires c = (c.requires.0.operator c.args.i c.requires.1, omega arith)

pub returns : goal.returns
unfolding condition_at
returns c =
    let a = c.args in
    let w = c.put_word-word in
    let l = c.put_side-left in
    let o = c.put_operator-operator in
    let e = c.put_operand-end in (
      rw (when-text (condition_at a.p a.i))
          (put_then (put_then (put_then (put_then w.ensures l.ensures.0) o.ensures.0) e.ensures.0)
          (put_byte e.new.text e.result 10 (omega (arith, c.requires.2, w.ensures.ends, w.ensures.kept, l.ensures.0.kept, o.ensures.0.kept, e.ensures.0.kept)))),
      omega arith,
    )
