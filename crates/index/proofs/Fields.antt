-- The fields of an index, by the words that the code reads. Assumes nothing.
use mathlib.Core.Path.{◌≡◌, ◌∙◌, sym, ap, ap₂}
use mathlib.Core.Bool.{true, false, not, true≢false}
use mathlib.Core.List.{List}
use Prim.Native.Nat.{ℕ, ◌+◌, ◌-◌, ◌*◌, ◌/◌, ◌%◌, ◌^◌, ◌≤◌, ◌<◌}
use native.Mathlib.Nat.{div-div-eq-div-mul}
use native.Mathlib.Omega.{arith}
use borrow.Author.Tests.{eq-eqb, ne_eqb, lt-ltb, le-ltb, eqb-true, eqb-false}
use lib.Dec.{eqb}
use lib.ListN.{length, get_or}
use Rattle.numbers.specs.Numbers.{number, field}
use Rattle.numbers.proofs.Cases.{by-test}
use Rattle.numbers.proofs.Parts.{part}
use Rattle.index.specs.Index.{index_bytes, classes, front, back, events_by, cores_field}
use Rattle.index.specs.Index.{index_zero, index_broken, core_attribute, class_attribute, lacks}
use Rattle.index.proofs.Bytes.{number-10, number-9, number-last}

-- ## Refusal 15

module _ (index : List ℕ) where
  pub broken-length : ¬ (length index ≡ index_bytes) → index_broken index ≡ true
  unfolding index_broken
  broken-length n = rw (ne_eqb (length index) index_bytes n)

  last-bits : (x y : ℕ) → (x * 256 + y) / 2 ^ 0 % 2 ^ 2 ≡ y % 4
  last-bits x y = omega arith

  zero_bits : index_zero index ≡ get_or index 17 0 % 4
  unfolding index_zero back
  zero_bits = ap (λ (x : ℕ). field 2 0 x) (number-last index) ∙ last-bits (number index 9 8) (get_or index 17 0)

  pub broken-bits :
      length index ≡ index_bytes → (b : ℕ) → b ≡ get_or index 17 0 → not (eqb (b % 4) 0) ≡ index_broken index
  unfolding index_broken
  broken-bits e b d =
      rw (eq-eqb (length index) index_bytes e)
      (ap (λ (x : ℕ). not (eqb x 0)) (ap (λ (x : ℕ). x % 4) d ∙ sym zero_bits))

  pub good_length : index_broken index ≡ false → length index ≡ index_bytes
  good_length f =
      by-test (eqb (length index) index_bytes)
      (λ t. eqb-true (length index) index_bytes t)
      (λ t. absurd (true≢false (sym (broken-length (eqb-false (length index) index_bytes t)) ∙ f)))

-- ## Counts

-- what stands above the lower bits of a number
shifted : (h l n : ℕ) → l < 2 ^ 16 → (h * 2 ^ 16 + l) / (2 ^ 16 * n) ≡ h / n
shifted h l n b =
    let e : (h * 2 ^ 16 + l) / 2 ^ 16 ≡ h = omega arith in
    sym (div-div-eq-div-mul (h * 2 ^ 16 + l) (2 ^ 16) n) ∙ ap (λ (x : ℕ). x / n) e

module _ (index : List ℕ) (class : ℕ) where
  pub events-above : classes ≤ class → events_by index class ≡ 0
  unfolding events_by
  events-above l = rw (le-ltb class classes l, events_by)

  module _ (h l : ℕ) (first : h ≡ number index 0 8) (second : l ≡ number index 8 2) (high : h < 2 ^ 64)
      (low : l < 2 ^ 16) where
    front-is : front index ≡ h * 2 ^ 16 + l
    unfolding front
    front-is = number-10 index ∙ sym (ap₂ (λ (x y : ℕ). x * 2 ^ 16 + y) first second)

    events-at :
        (k : ℕ) → class ≡ k → k < classes → events_by index class ≡ (h * 2 ^ 16 + l) / 2 ^ (67 - 13 * k) % 2 ^ 13
    unfolding events_by
    events-at k e b =
        let c : class < classes = omega arith in
        rw (lt-ltb class classes c, events_by)
        (ap₂ (λ (x y : ℕ). y / 2 ^ (67 - 13 * x) % 2 ^ 13) e front-is)

    pub events-0 : class ≡ 0 → h / 2 ^ 51 ≡ events_by index class
    events-0 e =
        let small : h / 2 ^ 51 ≡ h / 2 ^ 51 % 2 ^ 13 = omega arith in
        small ∙ sym (events-at 0 e (omega arith) ∙ ap (λ (x : ℕ). x % 2 ^ 13) (shifted h l (2 ^ 51) low))

    pub events-1 : class ≡ 1 → h / 2 ^ 38 % 2 ^ 13 ≡ events_by index class
    events-1 e = sym (events-at 1 e (omega arith) ∙ ap (λ (x : ℕ). x % 2 ^ 13) (shifted h l (2 ^ 38) low))

    pub events-2 : class ≡ 2 → h / 2 ^ 25 % 2 ^ 13 ≡ events_by index class
    events-2 e = sym (events-at 2 e (omega arith) ∙ ap (λ (x : ℕ). x % 2 ^ 13) (shifted h l (2 ^ 25) low))

    pub events-3 : class ≡ 3 → h / 2 ^ 12 % 2 ^ 13 ≡ events_by index class
    events-3 e = sym (events-at 3 e (omega arith) ∙ ap (λ (x : ℕ). x % 2 ^ 13) (shifted h l (2 ^ 12) low))

    pub events-4 : class ≡ 4 → h % 2 ^ 12 * 2 + l / 2 ^ 15 ≡ events_by index class
    events-4 e =
        sym
        (events-at 4 e (omega arith)
        ∙ part (h * 2 ^ 16 + l) (2 ^ 13) (2 ^ 15) (h / 2 ^ 12) (h % 2 ^ 12 * 2 + l / 2 ^ 15) (l % 2 ^ 15)
        (omega arith) (omega arith) (omega arith))

    pub events-5 : class ≡ 5 → l / 2 ^ 2 % 2 ^ 13 ≡ events_by index class
    events-5 e =
        sym
        (events-at 5 e (omega arith)
        ∙ part (h * 2 ^ 16 + l) (2 ^ 13) (2 ^ 2) (h * 2 + l / 2 ^ 15) (l / 2 ^ 2 % 2 ^ 13) (l % 2 ^ 2)
        (omega arith) (omega arith) (omega arith))

-- ## Cores

module _ (index : List ℕ) where
  cores-joint :
      (f r : ℕ) → r < 2 ^ 64 → f < 2 ^ 8
      → (f * 2 ^ 64 + r) / 2 ^ 2 % 2 ^ 64 ≡ f % 4 * 2 ^ 62 + r / 4
  cores-joint f r b c =
      part (f * 2 ^ 64 + r) (2 ^ 64) (2 ^ 2) (f / 4) (f % 4 * 2 ^ 62 + r / 4) (r % 4) (joint f r) (small (f % 4) (r / 4) (omega arith) (omega arith)) (omega arith)
    where
      joint : (f r : ℕ) → f * 2 ^ 64 + r ≡ (f / 4 * 2 ^ 64 + (f % 4 * 2 ^ 62 + r / 4)) * 2 ^ 2 + r % 4
      joint f r = omega arith

      small : (x y : ℕ) → x < 4 → y < 2 ^ 62 → x * 2 ^ 62 + y < 2 ^ 64
      small x y l m = omega arith

  pub cores-is :
      (f r : ℕ) → f ≡ get_or index 9 0 → r ≡ number index 10 8 → f < 2 ^ 8 → r < 2 ^ 64
      → f % 4 * 2 ^ 62 + r / 4 ≡ cores_field index
  unfolding cores_field back
  cores-is f r d e b c =
      sym
      (ap (λ (x : ℕ). field 64 2 x) (number-9 index ∙ sym (ap₂ (λ (x y : ℕ). x * 2 ^ 64 + y) d e))
      ∙ cores-joint f r c b)

-- ## What an index lacks

module _ (index : List ℕ) (attribute value : ℕ) where
  pub lacks-other :
      ¬ (attribute ≡ core_attribute) → ¬ (attribute ≡ class_attribute) → lacks index attribute value ≡ false
  unfolding lacks
  lacks-other n m = rw (ne_eqb attribute core_attribute n, ne_eqb attribute class_attribute m, lacks)
