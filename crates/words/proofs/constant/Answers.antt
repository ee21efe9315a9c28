-- `words::constant` meets its contract. Assumes nothing.
use Rattle.std.proofs.Common.{arith}
use Rattle.words.proofs.Constants.{constant-part, constant-no-number, constant-large, constant-found}
use Rattle.words.proofs.constant.Goals as goal
use Rattle.words.proofs.constant.Goals.{then-attribute-eq-AMOUNT, else-attribute-eq-AMOUNT}

pub returns-in-45 : goal.returns-in-45
returns-in-45 c = constant-part _ _ _ (omega arith) (omega arith) c.below_zero.ensures

pub returns-in_err-value : goal.returns-in_err-value
returns-in_err-value c = rw c.from_residual.ensures (constant-no-number _ _ (λ h e. grind arith) c.in_err-value.ensures)

pub returns-then-most-value : goal.returns-then-most-value
returns-then-most-value c =
    elim c.if-attribute-eq-AMOUNT.branch [
      | then-attribute-eq-AMOUNT w ↦ constant-large _ _ _ (λ h e. grind arith) c.in_ok-value.ensures (λ h. (omega arith, omega arith))
      | else-attribute-eq-AMOUNT w ↦ constant-large _ _ _ (λ h e. grind arith) c.in_ok-value.ensures (λ h. omega arith)
    ]

pub returns : goal.returns
returns c =
    elim c.if-attribute-eq-AMOUNT.branch [
      | then-attribute-eq-AMOUNT w ↦ constant-found _ _ _ c.in_ok-value.ensures (omega arith) (λ e. omega arith)
      | else-attribute-eq-AMOUNT w ↦ constant-found _ _ _ c.in_ok-value.ensures (omega arith) (λ e. omega arith)
    ]
