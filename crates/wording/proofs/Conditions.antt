-- The when line of a condition is in order, and stands for the condition again. Assumes nothing.
use mathlib.Core.Path.{◌≡◌, sym, ap, subst, ◌∙◌}
use mathlib.Core.Bool.{true, false, not}
use mathlib.Core.List.{List}
use Prim.Native.Nat.{ℕ, ◌-◌, ◌^◌, ◌≤◌, ◌<◌}
use native.Mathlib.Omega.{arith}
use borrow.Author.Tests.{lt-ltb, le-ltb, eqb-true, eqb-false, eq-eqb}
use lib.Dec.{eqb}
use lib.IntN.{pos, negsuc}
use Rattle.numbers.specs.Numbers.{upto}
use Rattle.numbers.proofs.Cases.{by-test, by_order, neither, not-not}
use Rattle.patterns.specs.declared.Condition.{Condition}
use Rattle.patterns.specs.Patterns.{last_attribute, last_operator, form_broken}
use Rattle.patterns.specs.Comparison.{signed, constant_value}
use Rattle.form.specs.Form.{first_letter, in_range, OperandInOrder, WhenInOrder}
use Rattle.form.specs.Packed.{bits_of, condition_in, condition_bits, when_bits}
use Rattle.wording.specs.Wording.{letter_of, when_of}
use Rattle.wording.proofs.Pieces.{right-constant, right-other}
use Rattle.wording.proofs.Named.{upto-mem, letter-place}

-- ## Constants

pub by_sign :
    {P : Type 0} (a w : ℕ)
    → (eqb a 4 ≡ true → w < 2 ^ 31 → constant_value a w ≡ pos w → P)
    → (eqb a 4 ≡ true → 2 ^ 31 ≤ w → constant_value a w ≡ negsuc (2 ^ 32 - 1 - w) → P)
    → (eqb a 4 ≡ false → constant_value a w ≡ pos w → P)
    → P
unfolding constant_value signed
by_sign a w f g h =
    by-test (eqb a 4)
    (λ e. by_order w (2 ^ 31)
    (λ l. f e l (rw (e, constant_value, lt-ltb w (2 ^ 31) l, signed)))
    (λ l. g e l (rw (e, constant_value, le-ltb w (2 ^ 31) l, signed))))
    (λ e. h e (rw (e, constant_value)))

range-low : (a w : ℕ) → eqb a 4 ≡ true → w < 2 ^ 31 → in_range a (pos w) ≡ true
unfolding in_range
range-low a w e h = rw (e, in_range) (lt-ltb w (2 ^ 31) h)

range-high : (a w : ℕ) → eqb a 4 ≡ false → w < 2 ^ 32 → in_range a (pos w) ≡ true
unfolding in_range
range-high a w e h = rw (e, in_range) (lt-ltb w (2 ^ 32) h)

range-below : (a w : ℕ) → eqb a 4 ≡ true → w < 2 ^ 31 → in_range a (negsuc w) ≡ true
unfolding in_range
range-below a w e h = rw (e, in_range) (lt-ltb w (2 ^ 31) h)

pub value-in-range : (a w : ℕ) → w < 2 ^ 32 → in_range a (constant_value a w) ≡ true
value-in-range a w h =
    by_sign a w
    (λ e l v. ap (in_range a) v ∙ range-low a w e l)
    (λ e l v. ap (in_range a) v ∙ range-below a (2 ^ 32 - 1 - w) e (omega arith))
    (λ e v. ap (in_range a) v ∙ range-high a w e h)

pub value-back : (a w : ℕ) → w < 2 ^ 32 → bits_of (constant_value a w) ≡ w
unfolding bits_of
value-back a w h =
    by_sign a w
    (λ e l v. ap bits_of v)
    (λ e l v. let z : 2 ^ 32 - 1 - (2 ^ 32 - 1 - w) ≡ w = omega arith in ap bits_of v ∙ z)
    (λ e v. ap bits_of v)

-- ## Conditions

-- what the check has found of a condition
pub record Kept (n : ℕ) (k : Condition) : Type 0 where
  pub variable : k.variable < n
  pub attribute : k.attribute ≤ last_attribute
  pub operator : k.operator ≤ last_operator
  pub form : k.form ≤ 1
  pub variable2 : k.variable2 < n
  pub attribute2 : k.attribute2 ≤ last_attribute
  pub constant : k.constant < 2 ^ 32
  pub unused : k.form ≡ 0 → (k.variable2 ≡ 0) × (k.attribute2 ≡ 0)
  pub unused-constant : ¬ (k.form ≡ 0) → k.constant ≡ 0

pub form-unused :
    (n : ℕ) (k : Condition) → form_broken n k ≡ false → k.form ≡ 0
    → (k.variable2 ≡ 0) × (k.attribute2 ≡ 0)
unfolding form_broken
form-unused n k h e =
    let both = neither (not (eqb k.variable2 0)) (not (eqb k.attribute2 0)) (rw (eq-eqb k.form 0 e, form_broken) at h) in
    (eqb-true k.variable2 0 (not-not _ both.0), eqb-true k.attribute2 0 (not-not _ both.1))

pub form-unused-constant : (n : ℕ) (k : Condition) → form_broken n k ≡ false → ¬ (k.form ≡ 0) → k.constant ≡ 0
unfolding form_broken
form-unused-constant n k h d =
    by-test (eqb k.form 0)
    (λ e. absurd (d (eqb-true k.form 0 e)))
    (λ e. let both = neither (not (eqb k.constant 0)) _ (rw (e, form_broken) at h) in
    eqb-true k.constant 0 (not-not _ both.0))

module _ (n : ℕ) (k : Condition) (kept : Kept n k) where
  abbrev known : List ℕ
  known = upto first_letter n

  right-in-order : OperandInOrder known k.attribute (when_of k).right
  unfolding OperandInOrder
  right-in-order =
      by-test (eqb k.form 0)
      (λ e. subst (OperandInOrder known k.attribute) (sym (right-constant k (eqb-true k.form 0 e)))
      (value-in-range k.attribute k.constant kept.constant))
      (λ e. subst (OperandInOrder known k.attribute) (sym (right-other k (eqb-false k.form 0 e)))
      (record {
        named = upto-mem first_letter n (letter_of k.variable2) (omega arith) (omega (arith, kept.variable2));
        small = kept.attribute2;
      }))

  pub when-in-order : WhenInOrder known (when_of k)
  unfolding when_of
  when-in-order =
      record {
        left =
            record {
              named = upto-mem first_letter n (letter_of k.variable) (omega arith) (omega (arith, kept.variable));
              small = kept.attribute;
            };
        operator = kept.operator;
        right = right-in-order;
      }

  condition-same : condition_in known (when_of k).left (when_of k).operator (when_of k).right ≡ k
  unfolding condition_in when_of
  condition-same =
      let first = letter-place n k.variable kept.variable in
      by-test (eqb k.form 0)
      (λ e. let f = eqb-true k.form 0 e in
      let u = kept.unused f in
      let z = value-back k.attribute k.constant kept.constant in
      ap (condition_in known (when_of k).left (when_of k).operator) (right-constant k f)
      ∙ (λ i.
      record {
        variable = first i;
        attribute = k.attribute;
        operator = k.operator;
        form = sym f i;
        variable2 = sym u.0 i;
        attribute2 = sym u.1 i;
        constant = z i;
      }))
      (λ e. let d = eqb-false k.form 0 e in
      let second = letter-place n k.variable2 kept.variable2 in
      let f : k.form ≡ 1 = omega (arith, kept.form) in
      ap (condition_in known (when_of k).left (when_of k).operator) (right-other k d)
      ∙ (λ i.
      record {
        variable = first i;
        attribute = k.attribute;
        operator = k.operator;
        form = sym f i;
        variable2 = second i;
        attribute2 = k.attribute2;
        constant = sym (kept.unused-constant d) i;
      }))

  pub when-bits : when_bits known (when_of k) ≡ condition_bits k
  unfolding when_bits
  when-bits = ap condition_bits condition-same
