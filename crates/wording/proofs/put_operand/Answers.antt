-- `wording::put_operand` meets its contract: the constant, or the other side. Assumes nothing.
use Rattle.std.proofs.Common.{arith}
use Rattle.patterns.specs.Checked.{condition_at}
use Rattle.wording.proofs.Pieces.{constant-operand, other-operand}
use Rattle.wording.proofs.put_operand.Goals as goal

pub put_side-requires : goal.put_side-requires
unfolding condition_at
put_side-requires c =
    let order = c.requires.0 in
    let inside = c.requires.1 in
    (omega (arith, order.variable2 c.args.i inside, order.few), order.attribute2 c.args.i inside, omega arith)

pub returns-then-p-i-eq-WITH_CONSTANT : goal.returns-then-p-i-eq-WITH_CONSTANT
unfolding condition_at
returns-then-p-i-eq-WITH_CONSTANT c =
    let a = c.args in
    (rw (constant-operand (condition_at a.p a.i) c.if-p-i-eq-WITH_CONSTANT.true) c.put_constant.ensures.0, omega arith)

pub returns-else-p-i-eq-WITH_CONSTANT : goal.returns-else-p-i-eq-WITH_CONSTANT
unfolding condition_at
returns-else-p-i-eq-WITH_CONSTANT c =
    let a = c.args in
    (rw (other-operand (condition_at a.p a.i) c.if-p-i-eq-WITH_CONSTANT.false) c.put_side.ensures.0, omega arith)
