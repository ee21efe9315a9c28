-- `drafts::operand` meets its contract. Assumes nothing.
use Rattle.drafts.proofs.Conditions.{side-small, operand-side, operand-constant, no_operand}
use Rattle.drafts.proofs.operand.Goals as goal

pub join_bits-requires : goal.join_bits-requires
join_bits-requires c =
    (c.requires.1, c.requires.2, side-small c.args.places.now c.args.word.now _ c.requires.0 c.in-Some.ensures)

pub returns-in-Some : goal.returns-in-Some
returns-in-Some c = operand-side c.args.places.now c.args.left c.args.operator _ _ _ c.in-Some.ensures c.join_bits.ensures

pub returns-in_err-constant-in-None : goal.returns-in_err-constant-in-None
returns-in_err-constant-in-None c =
    rw c.from_residual.ensures (no_operand c.args.places.now c.args.left c.args.operator _ c.in-None.ensures c.in_err-constant-in-None.ensures)

pub returns-in_ok-constant-in-None : goal.returns-in_ok-constant-in-None
returns-in_ok-constant-in-None c =
    operand-constant c.args.places.now c.args.left c.args.operator _ _ _ c.in_ok-constant-in-None.ensures c.constant_bits.ensures
