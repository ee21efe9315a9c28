-- `drafts::comparison` meets its contract. Assumes nothing.
use Rattle.std.proofs.Common.{arith}
use Rattle.form.specs.Form.{operator_words}
use Rattle.drafts.proofs.Conditions.{comparison-uncut, comparison-other, comparison-of}
use Rattle.drafts.proofs.comparison.Goals as goal

pub returns-in_err-end : goal.returns-in_err-end
returns-in_err-end c = rw c.from_residual.ensures (comparison-uncut c.args.places.now c.args.left _ c.in_err-end.ensures)

pub returns-in_err-operator : goal.returns-in_err-operator
returns-in_err-operator c =
    rw c.from_residual-in_err-operator.ensures
    (comparison-other c.args.places.now c.args.left _ _ c.in_ok-end.ensures c.in_err-operator.ensures)

pub operand-requires : goal.operand-requires
unfolding operator_words
operand-requires c = (c.requires.0, c.requires.1, omega (arith, c.in_ok-operator.ensures.0))

pub returns : goal.returns
returns c =
    comparison-of _ _ _ _ c.in_ok-end.ensures _ _ c.in_ok-operator.ensures.0 c.in_ok-operator.ensures.1 c.operand.ensures
