-- How many numbers pass two tests, where one of them passes one number more; and a mask without the bits of another.
-- Assumes nothing.
use mathlib.Core.Path.{◌≡◌, refl, sym, ap, ◌∙◌}
use mathlib.Core.Bool.{Bool, true, false, not, ◌&&◌, ◌||◌}
use Prim.Native.Nat.{ℕ, zero, suc, ◌+◌, ◌-◌, ◌*◌, ◌^◌, ◌≤◌, ◌<◌}
use native.Mathlib.Omega.{arith}
use native.Mathlib.Nat.{lt_of_le_of_lt}
use borrow.Author.Tests.{eqb-true, ne_eqb}
use lib.Bits.{bit_and, and_le_l}
use lib.Dec.{eqb}
use Rattle.numbers.specs.Numbers.{count, one_if}
use Rattle.numbers.specs.Bits.{bit, mask}
use Rattle.numbers.proofs.Cases.{by-test, by_order}
use Rattle.numbers.proofs.Count.{count-ext, one_if-bound}
use Rattle.numbers.proofs.Bits.{bit-and, bits-same, mask_bound, mask-inside, mask-of-bits}
use Rattle.numbers.proofs.Lowest.{trailing-lowest}

-- ## Counts

both_of : (s t : Bool) → (s ≡ true → t ≡ true) → s && t ≡ s
both_of true t f = f refl
both_of false t f = refl

none_of : (s t : Bool) → (s ≡ true → t ≡ false) → s && t ≡ false
none_of true t f = f refl
none_of false t f = refl

count-zero : (n : ℕ) → count (λ v. false) n ≡ 0
unfolding count
count-zero zero = refl
count-zero (suc n) = let e = count-zero n in omega arith

-- all that pass f pass g
pub count-all :
    (f g : ℕ → Bool) (n : ℕ) → ((v : ℕ) → f v ≡ true → g v ≡ true) → count (λ v. f v && g v) n ≡ count f n
count-all f g n h = count-ext (λ v. f v && g v) f n (λ v l. both_of (f v) (g v) (h v))

-- none that passes f passes g
pub count-nothing :
    (f g : ℕ → Bool) (n : ℕ) → ((v : ℕ) → f v ≡ true → g v ≡ false) → count (λ v. f v && g v) n ≡ 0
count-nothing f g n h = count-ext (λ v. f v && g v) (λ v. false) n (λ v l. none_of (f v) (g v) (h v)) ∙ count-zero n

module _ (f g : ℕ → Bool) (w : ℕ) where
  -- number w passes g as well
  abbrev more : ℕ → Bool
  more v = f v && (eqb w v || g v)

  more-other : (v : ℕ) → (w ≡ v → ⊥) → more v ≡ f v && g v
  more-other v d = ap (λ (t : Bool). f v && (t || g v)) (ne_eqb w v d)

  pub count-more : (n : ℕ) → count more n ≤ count (λ v. f v && g v) n + 1
  unfolding count
  count-more zero = omega arith
  count-more (suc n) =
      let before = count-more n in
      let here = one_if-bound (more n) in
      by_order w n
      (λ l. let e = ap one_if (more-other n (λ d. omega arith)) in omega arith)
      (λ l. let e = count-ext more (λ v. f v && g v) n (λ v k. more-other v (λ d. omega arith)) in omega arith)

  -- but not f
  pub count_same : (n : ℕ) → f w ≡ false → count more n ≡ count (λ v. f v && g v) n
  count_same n e =
      count-ext more (λ v. f v && g v) n
      (λ v l.
      by-test (eqb w v)
      (λ t.
      let none : f v ≡ false = ap f (sym (eqb-true w v t)) ∙ e in
      ap (λ (s : Bool). s && (eqb w v || g v)) none ∙ ap (λ (s : Bool). s && g v) (sym none))
      (λ t. ap (λ (s : Bool). f v && (s || g v)) t))

-- ## Masks

-- a number that is not 0 has a bit
pub some-bit : (x n : ℕ) → 0 < x → x < 2 ^ n → (v : ℕ) × (bit x v ≡ true)
some-bit x n h l = let low = trailing-lowest n x h l in (_, low.here)

weights : (s t : Bool) (w : ℕ) → one_if (s && t) * w + one_if (s && not t) * w ≡ one_if s * w
weights true true w = omega arith
weights true false w = omega arith
weights false t w = omega arith

mask-split : (f g : ℕ → Bool) (n : ℕ) → mask (λ v. f v && g v) n + mask (λ v. f v && not (g v)) n ≡ mask f n
unfolding mask
mask-split f g zero = refl
mask-split f g (suc n) = let e = mask-split f g n in let w = weights (f n) (g n) (2 ^ n) in omega arith

-- the bits of a number that another has not
pub bit-minus : (a b n v : ℕ) → a < 2 ^ n → v < n → bit (a - bit_and a b) v ≡ bit a v && not (bit b v)
bit-minus a b n v h l =
    let rest : ℕ = mask (λ u. bit a u && not (bit b u)) n in
    let both : mask (λ u. bit a u && bit b u) n ≡ bit_and a b =
    bits-same (mask (λ u. bit a u && bit b u) n) (bit_and a b) n (mask_bound (λ u. bit a u && bit b u) n) (lt_of_le_of_lt (and_le_l a b) h)
    (λ u k. mask-inside (λ u. bit a u && bit b u) n u k ∙ sym (bit-and a b u)) in
    let whole = mask-split (bit a) (bit b) n in
    let is = mask-of-bits a n h in
    let e : a - bit_and a b ≡ rest = omega arith in
    ap (λ (x : ℕ). bit x v) e ∙ mask-inside (λ u. bit a u && not (bit b u)) n v l
