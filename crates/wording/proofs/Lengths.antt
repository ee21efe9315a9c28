-- How long the lines of a text are, and the whole text of a checked pattern. Assumes nothing.
use mathlib.Core.Path.{ap}
use mathlib.Core.List.{[], ◌∷◌, flat_map}
use Prim.Native.Nat.{ℕ, zero, suc, ◌-◌, ◌*◌, ◌^◌, ◌≤◌, ◌<◌}
use native.Mathlib.Omega.{arith}
use borrow.Author.Tests.{eqb-true, eqb-false}
use lib.Dec.{eqb}
use lib.ListN.{length, length-append}
use Rattle.numbers.specs.Numbers.{upto}
use Rattle.numbers.proofs.Cases.{by-test}
use Rattle.numbers.proofs.Value.{decimal-length}
use Rattle.patterns.specs.declared.Pattern.{Pattern}
use Rattle.patterns.specs.declared.Condition.{Condition}
use Rattle.patterns.specs.Checked.{InOrder, condition_at}
use Rattle.patterns.specs.Comparison.{constant_value}
use Rattle.form.specs.Form.{line_feed}
use Rattle.form.specs.Form.{side_word, integer, operand_word, set_line, when_line, within_line, text_of}
use Rattle.form.specs.Promises.{most_text}
use Rattle.wording.specs.Wording.{sets_up_to, when_of, making_of}
use Rattle.wording.specs.Parts.{side_text, open_lines}
use Rattle.wording.proofs.Pieces.{attribute-length, operator-length, constant-operand, other-operand, when-text, within_text}
use Rattle.wording.proofs.Sets.{open-short, closed-sets}
use Rattle.wording.proofs.Whens.{whens_of, whens-snoc, flat-snoc}
use Rattle.wording.proofs.Conditions.{by_sign}

-- ## Words

side-length : (variable attribute : ℕ) → length (side_text variable attribute) ≤ 8
unfolding side_text side_word
side-length variable attribute = omega (arith, attribute-length attribute)

constant-length : (a w : ℕ) → w < 2 ^ 32 → length (integer (constant_value a w)) ≤ 11
unfolding integer
constant-length a w h =
    by_sign a w
    (λ e l v. omega (arith, ap (λ z. length (integer z)) v, decimal-length 10 w (omega arith) (omega arith)))
    (λ e l v. omega (arith, ap (λ z. length (integer z)) v, decimal-length 10 (suc (2 ^ 32 - 1 - w)) (omega arith) (omega arith)))
    (λ e v. omega (arith, ap (λ z. length (integer z)) v, decimal-length 10 w (omega arith) (omega arith)))

operand-length : (k : Condition) → k.constant < 2 ^ 32 → length (operand_word (when_of k).right) ≤ 11
operand-length k h =
    by-test (eqb k.form 0)
    (λ e. omega (arith, ap length (constant-operand k (eqb-true k.form 0 e)), constant-length k.attribute k.constant h))
    (λ e. omega (arith, ap length (other-operand k (eqb-false k.form 0 e)), side-length k.variable2 k.attribute2))

-- ## Lines

when-length : (k : Condition) → k.constant < 2 ^ 32 → length (when_line (when_of k)) ≤ 29
when-length k h =
    let right = operand-length k h in
    let left = side-length k.variable k.attribute in
    let operator = operator-length k.operator in
    rw (when-text k) (simp length-append (omega arith))

within-length : (duration : ℕ) → duration < 2 ^ 40 → length (within_line duration) ≤ 21
within-length duration h =
    let d = decimal-length 13 duration (omega arith) (omega arith) in
    rw (within_text duration) (simp length-append (omega arith))

module _ (p : Pattern) where
  sets-length : InOrder p → length (flat_map set_line (sets_up_to p p.n)) ≤ 68
  sets-length o =
      omega
      (arith, ap length (closed-sets p o), length-append (open_lines (sets_up_to p p.n)) (line_feed ∷ []), open-short p o p.n (omega arith))

  whens-length :
      (i : ℕ) → ((j : ℕ) → j < i → (condition_at p j).constant < 2 ^ 32)
      → length (flat_map when_line (whens_of p i)) ≤ 29 * i
  unfolding flat_map upto
  whens-length zero h = omega arith
  whens-length (suc i) h =
      let before = whens-length i (λ j l. h j (omega arith)) in
      let one = when-length (condition_at p i) (h i (omega arith)) in
      omega
      (arith, ap (λ l. length (flat_map when_line l)) (whens-snoc p i), ap length (flat-snoc when_line (whens_of p i) (when_of (condition_at p i))), length-append (flat_map when_line (whens_of p i)) (when_line (when_of (condition_at p i))))

  pub text-length :
      InOrder p → p.duration < 2 ^ 40 → ((j : ℕ) → j < p.c → (condition_at p j).constant < 2 ^ 32)
      → length (text_of (making_of p)) ≤ most_text
  unfolding text_of making_of
  text-length o d h =
      let sets = sets-length o in
      let whens = whens-length p.c h in
      let last = within-length p.duration d in
      simp length-append (omega (arith, o.few_conditions))
