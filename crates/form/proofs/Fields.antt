-- The fields of a condition's and of a header's 64 bits, and the bits of such fields. Assumes nothing.
use mathlib.Core.Path.{◌≡◌, ◌∙◌, sym}
use Prim.Native.Nat.{ℕ, ◌+◌, ◌*◌, ◌/◌, ◌^◌, ◌<◌}
use native.Mathlib.Nat.{div-one}
use native.Mathlib.Omega.{arith}
use Rattle.numbers.specs.Numbers.{field}
use Rattle.numbers.proofs.Parts.{part, joined}
use Rattle.patterns.specs.declared.Condition.{Condition}
use Rattle.patterns.specs.Patterns.{condition_of, condition_zero}
use Rattle.form.specs.Packed.{condition_bits, header_bits}

-- ## A condition

pub record WithinBits (k : Condition) : Type 0 where
  pub variable : k.variable < 2 ^ 4
  pub attribute : k.attribute < 2 ^ 3
  pub operator : k.operator < 2 ^ 3
  pub form : k.form < 2
  pub variable2 : k.variable2 < 2 ^ 4
  pub attribute2 : k.attribute2 < 2 ^ 3
  pub constant : k.constant < 2 ^ 32

module _ (k : Condition) (w : WithinBits k) where
  pub condition-bound : condition_bits k < 2 ^ 64
  unfolding condition_bits
  condition-bound = omega arith

  variable-back : field 4 60 (condition_bits k) ≡ k.variable
  unfolding condition_bits
  variable-back =
      part (condition_bits k) (2 ^ 4) (2 ^ 60) 0 k.variable
      (k.attribute * 2 ^ 57 + k.operator * 2 ^ 54 + k.form * 2 ^ 53 + k.variable2 * 2 ^ 49 + k.attribute2 * 2 ^ 46 + k.constant) (omega arith) w.variable (omega arith)

  attribute-back : field 3 57 (condition_bits k) ≡ k.attribute
  unfolding condition_bits
  attribute-back =
      part (condition_bits k) (2 ^ 3) (2 ^ 57) k.variable k.attribute
      (k.operator * 2 ^ 54 + k.form * 2 ^ 53 + k.variable2 * 2 ^ 49 + k.attribute2 * 2 ^ 46 + k.constant) (omega arith) w.attribute (omega arith)

  operator-back : field 3 54 (condition_bits k) ≡ k.operator
  unfolding condition_bits
  operator-back =
      part (condition_bits k) (2 ^ 3) (2 ^ 54) (k.variable * 2 ^ 3 + k.attribute) k.operator
      (k.form * 2 ^ 53 + k.variable2 * 2 ^ 49 + k.attribute2 * 2 ^ 46 + k.constant) (omega arith) w.operator (omega arith)

  form-back : field 1 53 (condition_bits k) ≡ k.form
  unfolding condition_bits
  form-back =
      part (condition_bits k) 2 (2 ^ 53) (k.variable * 2 ^ 6 + k.attribute * 2 ^ 3 + k.operator) k.form
      (k.variable2 * 2 ^ 49 + k.attribute2 * 2 ^ 46 + k.constant) (omega arith) w.form (omega arith)

  variable2-back : field 4 49 (condition_bits k) ≡ k.variable2
  unfolding condition_bits
  variable2-back =
      part (condition_bits k) (2 ^ 4) (2 ^ 49) (k.variable * 2 ^ 7 + k.attribute * 2 ^ 4 + k.operator * 2 + k.form) k.variable2
      (k.attribute2 * 2 ^ 46 + k.constant) (omega arith) w.variable2 (omega arith)

  attribute2-back : field 3 46 (condition_bits k) ≡ k.attribute2
  unfolding condition_bits
  attribute2-back =
      part (condition_bits k) (2 ^ 3) (2 ^ 46) (k.variable * 2 ^ 11 + k.attribute * 2 ^ 8 + k.operator * 2 ^ 5 + k.form * 2 ^ 4 + k.variable2) k.attribute2
      k.constant (omega arith) w.attribute2 (omega arith)

  constant-back : field 32 0 (condition_bits k) ≡ k.constant
  unfolding condition_bits
  constant-back =
      part (condition_bits k) (2 ^ 32) 1
      (k.variable * 2 ^ 28 + k.attribute * 2 ^ 25 + k.operator * 2 ^ 22 + k.form * 2 ^ 21 + k.variable2 * 2 ^ 17 + k.attribute2 * 2 ^ 14)
      k.constant 0 (omega arith) w.constant (omega arith)

  pub condition-zero : condition_zero (condition_bits k) ≡ 0
  unfolding condition_bits condition_zero
  condition-zero =
      part (condition_bits k) (2 ^ 14) (2 ^ 32)
      (k.variable * 2 ^ 14 + k.attribute * 2 ^ 11 + k.operator * 2 ^ 8 + k.form * 2 ^ 7 + k.variable2 * 2 ^ 3 + k.attribute2)
      0 k.constant (omega arith) (omega arith) w.constant

  pub condition-fields : condition_of (condition_bits k) ≡ k
  unfolding condition_of
  condition-fields = λ i.
      record {
        variable = variable-back i;
        attribute = attribute-back i;
        operator = operator-back i;
        form = form-back i;
        variable2 = variable2-back i;
        attribute2 = attribute2-back i;
        constant = constant-back i;
      }

-- the parts in a row, and each with its weight
weighed :
    (a b o f v g z c : ℕ) → z ≡ 0
    → ((((((a * 2 ^ 3 + b) * 2 ^ 3 + o) * 2 + f) * 2 ^ 4 + v) * 2 ^ 3 + g) * 2 ^ 14 + z) * 2 ^ 32 + c
    ≡ a * 2 ^ 60 + b * 2 ^ 57 + o * 2 ^ 54 + f * 2 ^ 53 + v * 2 ^ 49 + g * 2 ^ 46 + c
weighed a b o f v g z c e = omega arith

pub condition-back : (word : ℕ) → word < 2 ^ 64 → condition_zero word ≡ 0 → condition_bits (condition_of word) ≡ word
unfolding condition_bits condition_of condition_zero
condition-back word h z =
    let top : field 4 60 word ≡ word / 2 ^ 60 = omega arith in
    sym (weighed (field 4 60 word) (field 3 57 word) (field 3 54 word) (field 1 53 word) (field 4 49 word) (field 3 46 word) (field 14 32 word) (field 32 0 word) z)
    ∙ joined word (2 ^ 32) 1 _
    (joined word (2 ^ 14) (2 ^ 32) _
    (joined word (2 ^ 3) (2 ^ 46) _
    (joined word (2 ^ 4) (2 ^ 49) _
    (joined word 2 (2 ^ 53) _ (joined word (2 ^ 3) (2 ^ 54) _ (joined word (2 ^ 3) (2 ^ 57) _ top))))))
    ∙ div-one word

-- the fields of any 64 bits are within theirs
pub condition-within : (word : ℕ) → WithinBits (condition_of word)
unfolding condition_of
condition-within word =
    record {
      variable = omega arith;
      attribute = omega arith;
      operator = omega arith;
      form = omega arith;
      variable2 = omega arith;
      attribute2 = omega arith;
      constant = omega arith;
    }

-- ## A header

module _ (n c d : ℕ) (ln : n < 2 ^ 4) (lc : c < 2 ^ 8) (ld : d < 2 ^ 40) where
  pub header-bound : header_bits n c d < 2 ^ 64
  unfolding header_bits
  header-bound = omega arith

  pub header-edition : field 4 60 (header_bits n c d) ≡ 1
  unfolding header_bits
  header-edition =
      part (2 ^ 60 + n * 2 ^ 56 + c * 2 ^ 48 + d) (2 ^ 4) (2 ^ 60) 0 1 (n * 2 ^ 56 + c * 2 ^ 48 + d)
      (omega arith) (omega arith) (omega arith)

  pub header-variables : field 4 56 (header_bits n c d) ≡ n
  unfolding header_bits
  header-variables =
      part (2 ^ 60 + n * 2 ^ 56 + c * 2 ^ 48 + d) (2 ^ 4) (2 ^ 56) 1 n (c * 2 ^ 48 + d) (omega arith) ln (omega arith)

  pub header-conditions : field 8 48 (header_bits n c d) ≡ c
  unfolding header_bits
  header-conditions =
      part (2 ^ 60 + n * 2 ^ 56 + c * 2 ^ 48 + d) (2 ^ 8) (2 ^ 48) (2 ^ 4 + n) c d (omega arith) lc (omega arith)

  pub header-zero : field 8 40 (header_bits n c d) ≡ 0
  unfolding header_bits
  header-zero =
      part (2 ^ 60 + n * 2 ^ 56 + c * 2 ^ 48 + d) (2 ^ 8) (2 ^ 40) (2 ^ 12 + n * 2 ^ 8 + c) 0 d
      (omega arith) (omega arith) ld

  pub header-duration : field 40 0 (header_bits n c d) ≡ d
  unfolding header_bits
  header-duration =
      part (2 ^ 60 + n * 2 ^ 56 + c * 2 ^ 48 + d) (2 ^ 40) 1 (2 ^ 20 + n * 2 ^ 16 + c * 2 ^ 8) d 0
      (omega arith) ld (omega arith)

header-weighed :
    (e n c z d : ℕ) → e ≡ 1 → z ≡ 0
    → (((e * 2 ^ 4 + n) * 2 ^ 8 + c) * 2 ^ 8 + z) * 2 ^ 40 + d ≡ header_bits n c d
unfolding header_bits
header-weighed e n c z d p q = omega arith

pub header-back :
    (word : ℕ) → word < 2 ^ 64 → field 4 60 word ≡ 1 → field 8 40 word ≡ 0
    → header_bits (field 4 56 word) (field 8 48 word) (field 40 0 word) ≡ word
header-back word h one none =
    let top : field 4 60 word ≡ word / 2 ^ 60 = omega arith in
    sym (header-weighed (field 4 60 word) (field 4 56 word) (field 8 48 word) (field 8 40 word) (field 40 0 word) one none)
    ∙ joined word (2 ^ 40) 1 _
    (joined word (2 ^ 8) (2 ^ 40) _ (joined word (2 ^ 8) (2 ^ 48) _ (joined word (2 ^ 4) (2 ^ 56) _ top)))
    ∙ div-one word
