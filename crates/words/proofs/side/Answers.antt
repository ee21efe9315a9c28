-- `words::side` meets its contract. Assumes nothing.
use Rattle.std.proofs.Common.{arith}
use Rattle.words.proofs.Sides.{side-short, side-no-dot, side-no-place, side-no-attribute, side-found}
use Rattle.words.proofs.side.Goals as goal

pub returns-in_err-place_of-in-46 : goal.returns-in_err-place_of-in-46
returns-in_err-place_of-in-46 c = rw c.from_residual.ensures (side-no-place _ _ c.in_err-place_of-in-46.ensures)

pub returns-in_err-attribute_of-in-46 : goal.returns-in_err-attribute_of-in-46
returns-in_err-attribute_of-in-46 c =
    rw c.from_residual-in_err-attribute_of-in-46.ensures (side-no-attribute _ _ c.in_err-attribute_of-in-46.ensures)

pub returns-in_ok-attribute_of-in-46 : goal.returns-in_ok-attribute_of-in-46
returns-in_ok-attribute_of-in-46 c =
    side-found _ _ _ _ (omega arith) (omega arith) c.in_ok-place_of-in-46.ensures c.in_ok-attribute_of-in-46.ensures

pub returns-in_default : goal.returns-in_default
returns-in_default c = side-short _ _ (omega arith)

pub returns-in_default-2 : goal.returns-in_default-2
returns-in_default-2 c = side-no-dot _ _ (λ e. omega arith)
