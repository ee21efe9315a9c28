-- What operator 5, !=, asks: a condition with it holds exactly where the two whole numbers are different, and so
-- exactly where the same condition with operator 0, =, does not, for one and the same pair of events. It is the last
-- operator that the check lets through. Assumes nothing.
use Rattle.std.proofs.Common.{◌≡◌, ◌∙◌, refl, sym, ap, true, false, not, List, [], ◌∷◌, ℕ, ◌*◌, ◌/◌, ◌%◌, ℤ}
use Rattle.patterns.specs.declared.Condition.{Condition}
use Rattle.numbers.specs.Numbers.{number, first, first_from, count}
use Rattle.patterns.specs.Patterns.{header, header_broken, set_number, variable_zero, least_set, greatest_set}
use Rattle.patterns.specs.Patterns.{variable_broken, condition_of, condition_zero, condition_word, form_broken}
use Rattle.patterns.specs.Patterns.{condition_broken}
use Rattle.patterns.specs.Checked.{first_bad_variable, first_bad_condition, pattern_answer, refused}
use Rattle.patterns.specs.Comparison.{value, order_of, meets, compared_with, holds}
use Rattle.patterns.proofs.Comparison.{less-order, equal-order, greater-order, by-comparison}
use Rattle.records.specs.declared.Record.{Record}

-- the operators = and !=
abbrev pub is_equal : ℕ
is_equal = 0

abbrev pub is_not_equal : ℕ
is_not_equal = 5

-- a condition with an operator in place of its own
abbrev pub with_operator : ℕ → Condition → Condition
with_operator operator k =
    record {
      variable = k.variable;
      attribute = k.attribute;
      operator = operator;
      form = k.form;
      variable2 = k.variable2;
      attribute2 = k.attribute2;
      constant = k.constant;
    }

module _ (k : Condition) (first second : Record) where
  abbrev left : ℤ
  left = value k.attribute first

  abbrev right : ℤ
  right = compared_with k second

  -- with any operator the two numbers are the same
  with-operator : (operator : ℕ) → holds (with_operator operator k) first second ≡ meets operator (order_of left right)
  unfolding holds compared_with
  with-operator operator = refl

  -- != holds exactly where = does not
  pub differs :
      holds (with_operator is_not_equal k) first second ≡ not (holds (with_operator is_equal k) first second)
  differs =
      by-comparison left right
      (λ l. by-order-is (less-order left right l) refl)
      (λ e. by-order-is (equal-order left right e) refl)
      (λ g. by-order-is (greater-order left right g) refl)
    where
      by-order-is :
          {o : ℕ} → order_of left right ≡ o → meets is_not_equal o ≡ not (meets is_equal o)
          → holds (with_operator is_not_equal k) first second ≡ not (holds (with_operator is_equal k) first second)
      by-order-is e s =
          with-operator is_not_equal ∙ ap (meets is_not_equal) e ∙ s
          ∙ ap (λ (o : ℕ). not (meets is_equal o)) (sym e) ∙ ap not (sym (with-operator is_equal))

  -- != holds of no equal numbers
  pub equal-fails : left ≡ right → holds (with_operator is_not_equal k) first second ≡ false
  equal-fails e = with-operator is_not_equal ∙ ap (meets is_not_equal) (equal-order left right e)

  -- and of all others
  pub other-holds : ¬ (left ≡ right) → holds (with_operator is_not_equal k) first second ≡ true
  other-holds d =
      by-comparison left right
      (λ l. with-operator is_not_equal ∙ ap (meets is_not_equal) (less-order left right l))
      (λ e. absurd (d e))
      (λ g. with-operator is_not_equal ∙ ap (meets is_not_equal) (greater-order left right g))

-- ## The check

-- 0.core against the constant 1 by an operator
abbrev by_operator : ℕ → List ℕ
by_operator operator =
    0x11 ∷ 0x01 ∷ 0x00 ∷ 0x00 ∷ 0x00 ∷ 0x00 ∷ 0x00 ∷ 0x00 ∷ 0x10
    ∷ (operator / 4) ∷ (operator % 4 * 64) ∷ 0x00 ∷ 0x00 ∷ 0x00 ∷ 0x00 ∷ 0x00 ∷ 0x01 ∷ []

-- refusal 4 begins at operator 6: a check that refuses !=, or takes what comes behind it, is shut out
pub four-from-six :
    ((pattern_answer (by_operator is_not_equal)).code ≡ 0)
    × (pattern_answer (by_operator 6) ≡ refused 4 0)
    × (pattern_answer (by_operator 7) ≡ refused 4 0)
unfolding pattern_answer header_broken header number first_bad_variable first first_from variable_broken set_number least_set
    greatest_set variable_zero count first_bad_condition condition_broken condition_word condition_of condition_zero form_broken
four-from-six = (refl, refl, refl)
