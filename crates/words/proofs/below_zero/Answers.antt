-- `words::below_zero` meets its contract. Assumes nothing.
use Rattle.std.proofs.Common.{arith}
use Rattle.words.proofs.Constants.{below_other, below-far, below-found}
use Rattle.words.proofs.below_zero.Goals as goal

pub returns-then-attribute-ne-AMOUNT : goal.returns-then-attribute-ne-AMOUNT
returns-then-attribute-ne-AMOUNT c = below_other _ _ c.if-attribute-ne-AMOUNT.true

pub returns-in-1-to-2147483648 : goal.returns-in-1-to-2147483648
returns-in-1-to-2147483648 c =
    below-found _ _ _ c.if-attribute-ne-AMOUNT.false c.in_ok-value.ensures (omega arith) (omega arith)

pub returns-in_default : goal.returns-in_default
returns-in_default c = below-far _ _ _ c.in_ok-value.ensures (λ h. omega arith)

pub returns-in_default-2 : goal.returns-in_default-2
returns-in_default-2 c = below-far _ _ _ c.in_ok-value.ensures (λ h. omega arith)
