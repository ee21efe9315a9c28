-- How many numbers below 2^n have the bits that are asked of them. Assumes nothing.
use Rattle.std.proofs.Common.{◌≡◌, ◌∙◌, refl, sym, ap, ap₂, Bool, true, false, not, ◌&&◌, ◌||◌, true≢false, ℕ, zero, suc, ◌+◌, ◌*◌, ◌^◌, ◌/◌, ◌%◌, ◌<◌, pow-suc, le_refl, one-mul, add-zero, add-one, arith, eqb}
use lib.Pow.{high}
use Rattle.numbers.specs.Numbers.{sum, count, every, one_if}
use Rattle.numbers.specs.Bits.{bit}
use Rattle.numbers.proofs.Bits.{bit_high, bit-low}
use Rattle.numbers.proofs.Sum.{sum_same, sum-split, sum-flag}

abbrev pub same : Bool → Bool → Bool
same true b = b
same false b = not b

-- bit u is free, or it is as wanted
abbrev pub allowed : (ℕ → Bool) → (ℕ → Bool) → ℕ → ℕ → Bool
allowed free want s u = free u || same (bit s u) (want u)

-- the n lowest bits are
abbrev pub asked : (ℕ → Bool) → (ℕ → Bool) → ℕ → ℕ → Bool
asked free want n s = every (allowed free want s) n

-- a bit that is not free is as wanted
pub forced : (f x w : Bool) → f ≡ false → f || same x w ≡ true → x ≡ w
forced true x w e h = absurd (true≢false e)
forced false true true e h = refl
forced false true false e h = sym h
forced false false true e h = h
forced false false false e h = refl

pub forced-of : (f x w : Bool) → x ≡ w → f || same x w ≡ true
forced-of true x w e = refl
forced-of false true w e = sym e
forced-of false false w e = ap not (sym e)

module _ (free want : ℕ → Bool) where
  every-same : (f g : ℕ → Bool) (n : ℕ) → ((i : ℕ) → i < n → f i ≡ g i) → every f n ≡ every g n
  unfolding every
  every-same f g zero e = refl
  every-same f g (suc n) e = ap₂ ◌&&◌ (every-same f g n (λ i h. e i (omega arith))) (e n (omega arith))

  -- the bits below n of 2^n + s are those of s, and its bit n is set
  one-above : (n s : ℕ) → 2 ^ n + s ≡ 1 * 2 ^ n + s
  one-above n s = ap (λ (x : ℕ). x + s) (sym (one-mul (2 ^ n)))

  asked-above : (n s : ℕ) → asked free want n (2 ^ n + s) ≡ asked free want n s
  asked-above n s =
      every-same (allowed free want (2 ^ n + s)) (allowed free want s) n
      (λ u h. ap (λ (x : Bool). free u || same x (want u)) (ap (λ (x : ℕ). bit x u) (one-above n s) ∙ bit-low 1 n s u h))

  bit-above : (n s : ℕ) → s < 2 ^ n → bit (2 ^ n + s) n ≡ true
  bit-above n s h = ap (λ (x : ℕ). eqb (x / 2 ^ n % 2) 1) (one-above n s) ∙ ap (λ (x : ℕ). eqb (x % 2) 1) (high 1 n h)

  asked-more : (n s : ℕ) → asked free want (suc n) s ≡ asked free want n s && allowed free want s n
  unfolding every
  asked-more n s = refl

  low_half : (n s : ℕ) → s < 2 ^ n → asked free want (suc n) s ≡ asked free want n s && (free n || not (want n))
  low_half n s h =
      asked-more n s
      ∙ ap (λ (x : Bool). asked free want n s && (free n || same x (want n))) (bit_high s n n h (le_refl n))

  high_half : (n s : ℕ) → s < 2 ^ n → asked free want (suc n) (2 ^ n + s) ≡ asked free want n s && (free n || want n)
  high_half n s h =
      asked-more n (2 ^ n + s)
      ∙ ap₂ (λ (a x : Bool). a && (free n || same x (want n))) (asked-above n s) (bit-above n s h)

  halves :
      (f w : Bool) (c total : ℕ) → total ≡ 2 ^ c
      → one_if (f || not w) * total + one_if (f || w) * total ≡ 2 ^ (c + one_if f)
  halves true w c total e = rw add-one (omega (arith, pow-suc 2 c))
  halves false true c total e = rw (add-zero c) (omega arith)
  halves false false c total e = rw (add-zero c) (omega arith)

  -- each free bit doubles them
  pub count-asked : (n : ℕ) → sum (λ s. one_if (asked free want n s)) (2 ^ n) ≡ 2 ^ count free n
  unfolding sum every count
  count-asked zero = refl
  count-asked (suc n) =
      let twice : 2 ^ suc n ≡ 2 ^ n + 2 ^ n = omega (arith, pow-suc 2 n) in
      let now : ℕ → ℕ = λ s. one_if (asked free want (suc n) s) in
      ap (sum now) twice
      ∙ sum-split now (2 ^ n) (2 ^ n)
      ∙ ap₂ ◌+◌
      (sum_same now (λ s. one_if (asked free want n s && (free n || not (want n)))) (2 ^ n) (λ s h. ap one_if (low_half n s h)) ∙ sum-flag (asked free want n) (free n || not (want n)) (2 ^ n))
      (sum_same (λ s. now (2 ^ n + s)) (λ s. one_if (asked free want n s && (free n || want n))) (2 ^ n) (λ s h. ap one_if (high_half n s h)) ∙ sum-flag (asked free want n) (free n || want n) (2 ^ n))
      ∙ halves (free n) (want n) (count free n) (sum (λ s. one_if (asked free want n s)) (2 ^ n)) (count-asked n)
