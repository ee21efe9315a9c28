-- The count of a number's trailing zeros is its lowest bit, and bit_and takes this bit away. Assumes nothing.
use Rattle.std.proofs.Common.{◌≡◌, ◌∙◌, refl, sym, ap, ap₂, subst, true, false, ℕ, zero, suc, ◌+◌, ◌-◌, ◌*◌, ◌/◌, ◌%◌, ◌^◌, ◌<◌, min, add-zero, not-suc-le-zero, zero-lt-suc, div-lt_iff_lt-mul, pow-suc, arith, eqb-true, bit_and, eqb}
use borrow.Author.Tests.{eqb-false}
use lib.Bits.{and_step, and_self}
use lib.Count.{count_trailing_zeros, under}
use Rattle.numbers.specs.Bits.{bit, IsLowestBit}
use Rattle.numbers.proofs.Bits.{bit-odd, bit-half}

halved : (d number t : ℕ) → number % 2 ≡ 0 → IsLowestBit d (number / 2) t → IsLowestBit (suc d) number (suc t)
halved d number t even l =
    record {
      small = let s = l.small in omega arith;
      here = bit-half number t ∙ l.here;
      none = below;
    }
  where
    below : (u : ℕ) → u < suc t → bit number u ≡ false
    below zero h = bit-odd number ∙ ap (λ (x : ℕ). eqb x 1) even
    below (suc u) h = bit-half number u ∙ l.none u (omega arith)

odd : (d number r : ℕ) → number % 2 ≡ suc r → IsLowestBit (suc d) number zero
odd d number r e =
    let one : number % 2 ≡ 1 = omega arith in
    record {
      small = zero-lt-suc d;
      here = bit-odd number ∙ ap (λ (x : ℕ). eqb x 1) one;
      none = λ u h. absurd (not-suc-le-zero h);
    }

pub trailing-lowest : (d number : ℕ) → 0 < number → number < 2 ^ d → IsLowestBit d number (count_trailing_zeros d number)
unfolding count_trailing_zeros
trailing-lowest zero number h k = absurd (omega arith)
trailing-lowest (suc d) number h k =
    go (number % 2) refl
    (λ (e : number % 2 ≡ 0).
    trailing-lowest d (number / 2) (omega arith) ((div-lt_iff_lt-mul (zero-lt-suc 1)).1 (subst (λ (x : ℕ). number < x) (pow-suc 2 d) k)))
  where
    go :
        (r : ℕ) → number % 2 ≡ r → (number % 2 ≡ 0 → IsLowestBit d (number / 2) (count_trailing_zeros d (number / 2)))
        → IsLowestBit (suc d) number (under r (count_trailing_zeros d (number / 2)))
    go zero e ih = halved d number (count_trailing_zeros d (number / 2)) e (ih e)
    go (suc r) e ih = odd d number r e

-- ---- the number without its lowest bit

-- an odd number loses its last digit
and-odd : (number : ℕ) → number % 2 ≡ 1 → bit_and number (number - 1) ≡ number - 1
and-odd number e =
    let half : (number - 1) / 2 ≡ number / 2 = omega arith in
    let digit : (number - 1) % 2 ≡ 0 = omega arith in
    let whole : number / 2 * 2 + 0 ≡ number - 1 = omega arith in
    and_step number (number - 1)
    ∙ ap₂ (λ (x y : ℕ). x * 2 + y) (ap (bit_and (number / 2)) half ∙ and_self (number / 2)) (ap₂ min e digit)
    ∙ whole

-- an even number loses what its half does, twice
and-even :
    (number : ℕ) → 0 < number → number % 2 ≡ 0 → bit_and number (number - 1) ≡ bit_and (number / 2) (number / 2 - 1) * 2
and-even number h e =
    let half : (number - 1) / 2 ≡ number / 2 - 1 = omega arith in
    let digit : (number - 1) % 2 ≡ 1 = omega arith in
    and_step number (number - 1)
    ∙ ap₂ (λ (x y : ℕ). x * 2 + y) (ap (bit_and (number / 2)) half) (ap₂ min e digit)
    ∙ add-zero (bit_and (number / 2) (number / 2 - 1) * 2)

pub and-lowest :
    (number v : ℕ) → 0 < number → bit number v ≡ true → ((u : ℕ) → u < v → bit number u ≡ false)
    → bit_and number (number - 1) ≡ number - 2 ^ v
and-lowest number zero h here none = and-odd number (eqb-true (number % 2) 1 (sym (bit-odd number) ∙ here))
and-lowest number (suc v) h here none =
    let not-odd : number % 2 ≡ 1 → ⊥ = eqb-false (number % 2) 1 (sym (bit-odd number) ∙ none zero (zero-lt-suc v)) in
    let even : number % 2 ≡ 0 = omega arith in
    let ih = and-lowest (number / 2) v (omega arith) (sym (bit-half number v) ∙ here) (λ u l. sym (bit-half number u) ∙ none (suc u) (omega arith)) in
    let twice : (number / 2 - 2 ^ v) * 2 ≡ number - 2 ^ suc v = omega (arith, pow-suc 2 v) in
    and-even number h even ∙ ap (λ (x : ℕ). x * 2) ih ∙ twice
