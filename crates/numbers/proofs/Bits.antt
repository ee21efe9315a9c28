-- The bits of a number, numbers made of bits, and the bits of bit_and and bit_or. Assumes nothing.
use Rattle.std.proofs.Common.{◌≡◌, ◌∙◌, refl, sym, ap, ap₂, subst, Bool, true, false, not, ◌&&◌, ◌||◌, ℕ, zero, suc, ◌+◌, ◌-◌, ◌*◌, ◌/◌, ◌%◌, ◌^◌, ◌≤◌, ◌<◌, zero-le, add_comm, div-mul-le_self, div-one, le_refl, le_trans, lt_of_le_of_lt, lt_of_lt_of_le, mod-eq_of_lt, mod-lt, mul-div_cancel, mul-le-mul_right, not-suc-le-zero, le_of_suc-le-suc, pow-suc, zero-lt-suc, add-one, one-add, arith, eq-eqb, ne_eqb, eqb-true, lt-ltb, le-ltb, bit_and, bit_or, eqb, ltb, pow_mono, pow_pos}
use mathlib.Core.Bool.{or_comm, and-false}
use native.Mathlib.Nat.{div-eq_of_lt, div-div-eq-div-mul}
use native.Mathlib.Nat.{mod-le, mod-one}
use native.Mathlib.Nat.{mul-mod_left, pow-succ'}
use lib.Bits.{and_shr, and_mod, and_le_l, or_shr, or_mod, or_lt, block_half, block_odd}
use lib.Dec.{eqb-zero-suc, eqb-suc-zero, eqb-suc-suc}
use lib.Pow.{high, mod-pow-add, pow-lt}
use Rattle.numbers.specs.Numbers.{one_if}
use Rattle.numbers.specs.Bits.{bit, mask, within, disjoint}
use Rattle.numbers.proofs.Cases.{by_order, both}

two_pos : 0 < 2
two_pos = zero-lt-suc 1

-- ---- the bits of a number

pub bit_high : (a n v : ℕ) → a < 2 ^ n → n ≤ v → bit a v ≡ false
bit_high a n v h l = ap (λ (x : ℕ). eqb (x % 2) 1) (div-eq_of_lt (lt_of_lt_of_le h (pow_mono l)))

pub bit-zero : (v : ℕ) → bit 0 v ≡ false
bit-zero v = bit_high 0 0 v (le_refl 1) zero-le

-- the lowest bit, and the others
pub bit-odd : (a : ℕ) → bit a 0 ≡ eqb (a % 2) 1
bit-odd a = ap (λ (x : ℕ). eqb (x % 2) 1) (div-one a)

pub bit-half : (a v : ℕ) → bit a (suc v) ≡ bit (a / 2) v
bit-half a v = ap (λ (x : ℕ). eqb (x % 2) 1) (ap (λ (x : ℕ). a / x) (pow-succ' 2 v) ∙ sym (div-div-eq-div-mul a 2 (2 ^ v)))

-- the bits below n stay the same, whatever stands above them
pub bit-low : (a n low v : ℕ) → v < n → bit (a * 2 ^ n + low) v ≡ bit low v
bit-low a zero low v l = absurd (not-suc-le-zero l)
bit-low a (suc n) low zero l = bit-odd (a * 2 ^ suc n + low) ∙ ap (λ (x : ℕ). eqb x 1) (block_odd a n low) ∙ sym (bit-odd low)
bit-low a (suc n) low (suc v) l =
    bit-half (a * 2 ^ suc n + low) v ∙ ap (λ (x : ℕ). bit x v) (block_half a n low)
    ∙ bit-low a n (low / 2) v (le_of_suc-le-suc l) ∙ sym (bit-half low v)

pub bit-weight : (w v : ℕ) → bit (2 ^ w) v ≡ eqb w v
bit-weight zero zero = refl
bit-weight zero (suc v) = bit_high 1 1 (suc v) (le_refl 2) (omega arith) ∙ sym (eqb-zero-suc v)
bit-weight (suc w) zero =
    bit-odd (2 ^ suc w) ∙ ap (λ (x : ℕ). eqb (x % 2) 1) (pow-suc 2 w)
    ∙ ap (λ (x : ℕ). eqb x 1) (mul-mod_left (2 ^ w) 2) ∙ sym (eqb-suc-zero w)
bit-weight (suc w) (suc v) =
    bit-half (2 ^ suc w) v ∙ ap (λ (x : ℕ). bit (x / 2) v) (pow-suc 2 w)
    ∙ ap (λ (x : ℕ). bit x v) (mul-div_cancel (2 ^ w) two_pos) ∙ bit-weight w v ∙ sym (eqb-suc-suc w v)

-- ---- the bits of bit_and and bit_or

and-digit : (x y : ℕ) → x < 2 → y < 2 → eqb (bit_and x y) 1 ≡ eqb x 1 && eqb y 1
and-digit zero y h l = refl
and-digit (suc zero) zero h l = refl
and-digit (suc zero) (suc zero) h l = refl
and-digit (suc zero) (suc (suc y)) h l = absurd (omega arith)
and-digit (suc (suc x)) y h l = absurd (omega arith)

or-digit : (x y : ℕ) → x < 2 → y < 2 → eqb (bit_or x y) 1 ≡ eqb x 1 || eqb y 1
or-digit zero y h l = refl
or-digit (suc zero) zero h l = refl
or-digit (suc zero) (suc zero) h l = refl
or-digit (suc zero) (suc (suc y)) h l = absurd (omega arith)
or-digit (suc (suc x)) y h l = absurd (omega arith)

pub bit-and : (a b v : ℕ) → bit (bit_and a b) v ≡ bit a v && bit b v
bit-and a b v =
    ap (λ (x : ℕ). eqb (x % 2) 1) (and_shr a b v) ∙ ap (λ (x : ℕ). eqb x 1) (and_mod (a / 2 ^ v) (b / 2 ^ v) 1)
    ∙ and-digit (a / 2 ^ v % 2) (b / 2 ^ v % 2) (mod-lt (a / 2 ^ v) two_pos) (mod-lt (b / 2 ^ v) two_pos)

pub bit-or : (a b v : ℕ) → bit (bit_or a b) v ≡ bit a v || bit b v
bit-or a b v =
    ap (λ (x : ℕ). eqb (x % 2) 1) (or_shr a b v) ∙ ap (λ (x : ℕ). eqb x 1) (or_mod (a / 2 ^ v) (b / 2 ^ v) 1)
    ∙ or-digit (a / 2 ^ v % 2) (b / 2 ^ v % 2) (mod-lt (a / 2 ^ v) two_pos) (mod-lt (b / 2 ^ v) two_pos)

pub bit-or-weight : (a w v : ℕ) → bit (bit_or a (2 ^ w)) v ≡ eqb w v || bit a v
bit-or-weight a w v = bit-or a (2 ^ w) v ∙ ap (λ (t : Bool). bit a v || t) (bit-weight w v) ∙ or_comm (bit a v) (eqb w v)

pub or-weight-bound : (a n w : ℕ) → a < 2 ^ n → w < n → bit_or a (2 ^ w) < 2 ^ n
or-weight-bound a n w h l = or_lt n a (2 ^ w) h (pow-lt l)

-- ---- numbers made of bits

pub mask-none : (test : ℕ → Bool) → mask test 0 ≡ 0
unfolding mask
mask-none test = refl

pub mask-more : (test : ℕ → Bool) (n : ℕ) → mask test (n + 1) ≡ mask test n + one_if (test n) * 2 ^ n
unfolding mask
mask-more test n = rw add-one

more-bound : (t : Bool) (m p : ℕ) → m < p → m + one_if t * p < p * 2
more-bound true m p h = omega arith
more-bound false m p h = omega arith

pub mask_bound : (test : ℕ → Bool) (n : ℕ) → mask test n < 2 ^ n
unfolding mask
mask_bound test zero = le_refl 1
mask_bound test (suc n) =
    subst (λ (x : ℕ). mask test (suc n) < x) (sym (pow-suc 2 n)) (more-bound (test n) (mask test n) (2 ^ n) (mask_bound test n))

pub mask-same : (f g : ℕ → Bool) (n : ℕ) → ((v : ℕ) → v < n → f v ≡ g v) → mask f n ≡ mask g n
unfolding mask
mask-same f g zero e = refl
mask-same f g (suc n) e =
    ap₂ (λ (m : ℕ) (t : Bool). m + one_if t * 2 ^ n) (mask-same f g n (λ v l. e v (omega arith))) (e n (le_refl (suc n)))

pub mask-all : (f : ℕ → Bool) (n : ℕ) → ((v : ℕ) → f v ≡ true) → mask f n ≡ 2 ^ n - 1
unfolding mask
mask-all f zero e = refl
mask-all f (suc n) e =
    let one : (2 ^ n - 1) + one_if true * 2 ^ n ≡ 2 ^ suc n - 1 = omega (arith, pow-suc 2 n, pow_pos n) in
    ap₂ (λ (m : ℕ) (t : Bool). m + one_if t * 2 ^ n) (mask-all f n e) (e n) ∙ one

pub mask-nothing : (f : ℕ → Bool) (n : ℕ) → ((v : ℕ) → v < n → f v ≡ false) → mask f n ≡ 0
unfolding mask
mask-nothing f zero e = refl
mask-nothing f (suc n) e =
    let none : 0 + one_if false * 2 ^ n ≡ 0 = omega arith in
    ap₂ (λ (m : ℕ) (t : Bool). m + one_if t * 2 ^ n) (mask-nothing f n (λ v l. e v (omega arith))) (e n (le_refl (suc n))) ∙ none

one-digit : (t : Bool) → eqb (one_if t % 2) 1 ≡ t
one-digit true = refl
one-digit false = refl

pub digit-one : (x : ℕ) → x < 2 → one_if (eqb x 1) ≡ x
digit-one zero h = refl
digit-one (suc zero) h = refl
digit-one (suc (suc x)) h = absurd (omega arith)

module _ (test : ℕ → Bool) where
  swapped : (n : ℕ) → mask test (suc n) ≡ one_if (test n) * 2 ^ n + mask test n
  unfolding mask
  swapped n = add_comm (mask test n) (one_if (test n) * 2 ^ n)

  bit_below : (n v : ℕ) → v < n → bit (mask test (suc n)) v ≡ bit (mask test n) v
  bit_below n v l = ap (λ (x : ℕ). bit x v) (swapped n) ∙ bit-low (one_if (test n)) n (mask test n) v l

  bit-top : (n : ℕ) → bit (mask test (suc n)) n ≡ test n
  bit-top n =
      ap (λ (x : ℕ). bit x n) (swapped n) ∙ ap (λ (x : ℕ). eqb (x % 2) 1) (high (one_if (test n)) n (mask_bound test n)) ∙ one-digit (test n)

  pub mask-inside : (n v : ℕ) → v < n → bit (mask test n) v ≡ test v
  mask-inside zero v l = absurd (not-suc-le-zero l)
  mask-inside (suc n) v l =
      let r = mask-inside n v in
      by_order v n
      (λ m. bit_below n v m ∙ r m)
      (λ m. let e : n ≡ v = omega arith in subst (λ (i : ℕ). bit (mask test (suc n)) i ≡ test i) e (bit-top n))

  pub mask-bit : (n v : ℕ) → bit (mask test n) v ≡ ltb v n && test v
  mask-bit n v =
      by_order v n
      (λ l. mask-inside n v l ∙ ap (λ (t : Bool). t && test v) (sym (lt-ltb v n l)))
      (λ l. bit_high (mask test n) n v (mask_bound test n) l ∙ ap (λ (t : Bool). t && test v) (sym (le-ltb v n l)))

mask-of-low-bits : (m n : ℕ) → mask (bit m) n ≡ m % 2 ^ n
unfolding mask
mask-of-low-bits m zero = sym (mod-one m)
mask-of-low-bits m (suc n) =
    swapped (bit m) n
    ∙ ap₂ (λ (x y : ℕ). x * 2 ^ n + y) (digit-one (m / 2 ^ n % 2) (mod-lt (m / 2 ^ n) two_pos)) (mask-of-low-bits m n)
    ∙ sym (mod-pow-add m 1 n) ∙ ap (λ (x : ℕ). m % 2 ^ x) (one-add n)

pub mask-of-bits : (m n : ℕ) → m < 2 ^ n → mask (bit m) n ≡ m
mask-of-bits m n h = mask-of-low-bits m n ∙ mod-eq_of_lt h

-- a number below 2^n is known by its n lowest bits
pub bits-same : (a b n : ℕ) → a < 2 ^ n → b < 2 ^ n → ((v : ℕ) → v < n → bit a v ≡ bit b v) → a ≡ b
bits-same a b n h k e = sym (mask-of-bits a n h) ∙ mask-same (bit a) (bit b) n e ∙ mask-of-bits b n k

pub mask-or-weight : (f : ℕ → Bool) (n w : ℕ) → w < n → bit_or (mask f n) (2 ^ w) ≡ mask (λ v. eqb w v || f v) n
mask-or-weight f n w l =
    bits-same (bit_or (mask f n) (2 ^ w)) (mask (λ v. eqb w v || f v) n) n (or-weight-bound (mask f n) n w (mask_bound f n) l) (mask_bound (λ v. eqb w v || f v) n)
    (λ v h. bit-or-weight (mask f n) w v ∙ ap (λ (t : Bool). eqb w v || t) (mask-inside f n v h) ∙ sym (mask-inside (λ v. eqb w v || f v) n v h))

-- ---- a number without one of its bits

put_back : (f : ℕ → Bool) (n w : ℕ) → w < n → mask (λ v. not (eqb w v) && f v) n + one_if (f w) * 2 ^ w ≡ mask f n
unfolding mask
put_back f zero w l = absurd (not-suc-le-zero l)
put_back f (suc n) w l =
    let g : ℕ → Bool = λ v. not (eqb w v) && f v in
    let ih = put_back f n w in
    by_order w n
    (λ m.
    let same : g n ≡ f n = ap (λ (t : Bool). not t && f n) (ne_eqb w n (λ e. omega arith)) in
    let moved : (mask g n + one_if (g n) * 2 ^ n) + one_if (f w) * 2 ^ w ≡ (mask g n + one_if (f w) * 2 ^ w) + one_if (g n) * 2 ^ n = omega arith in
    moved ∙ ap₂ (λ (x : ℕ) (t : Bool). x + one_if t * 2 ^ n) (ih m) same)
    (λ m.
    let e : n ≡ w = omega arith in
    let gone : g n ≡ false = ap (λ (t : Bool). not t && f n) (eq-eqb w n (sym e)) in
    let none : mask f n + one_if false * 2 ^ n ≡ mask f n = omega arith in
    let kept = mask-same g f n (λ v h. ap (λ (t : Bool). not t && f v) (ne_eqb w v (λ q. omega arith))) in
    ap₂ (λ (x : ℕ) (t : Bool). x + one_if t * 2 ^ n + one_if (f w) * 2 ^ w) kept gone
    ∙ ap (λ (x : ℕ). x + one_if (f w) * 2 ^ w) none ∙ ap (λ (i : ℕ). mask f n + one_if (f i) * 2 ^ i) (sym e))

without-outside :
    (f : ℕ → Bool) (n w : ℕ) → n ≤ w → mask f n - one_if (bit (mask f n) w) * 2 ^ w ≡ mask (λ v. not (eqb w v) && f v) n
without-outside f n w l =
    let none : mask f n - one_if false * 2 ^ w ≡ mask f n = omega arith in
    ap (λ (t : Bool). mask f n - one_if t * 2 ^ w) (bit_high (mask f n) n w (mask_bound f n) l)
    ∙ none
    ∙ mask-same f (λ v. not (eqb w v) && f v) n (λ v h. sym (ap (λ (t : Bool). not t && f v) (ne_eqb w v (λ q. omega arith))))

pub mask-without :
    (f : ℕ → Bool) (n w : ℕ) → mask f n - one_if (bit (mask f n) w) * 2 ^ w ≡ mask (λ v. not (eqb w v) && f v) n
mask-without f n w =
    by_order w n
    (λ l.
    let back = put_back f n w l in
    let less : mask f n - one_if (f w) * 2 ^ w ≡ mask (λ v. not (eqb w v) && f v) n = omega arith in
    ap (λ (t : Bool). mask f n - one_if t * 2 ^ w) (mask-inside f n w l) ∙ less)
    (λ l. without-outside f n w l)

pub bit-without : (a n w v : ℕ) → a < 2 ^ n → bit (a - one_if (bit a w) * 2 ^ w) v ≡ not (eqb w v) && bit a v
bit-without a n w v h =
    ap (λ (x : ℕ). bit (x - one_if (bit x w) * 2 ^ w) v) (sym (mask-of-bits a n h))
    ∙ ap (λ (x : ℕ). bit x v) (mask-without (bit a) n w)
    ∙ by_order v n
    (λ l. mask-inside (λ u. not (eqb w u) && bit a u) n v l)
    (λ l. bit_high (mask (λ u. not (eqb w u) && bit a u) n) n v (mask_bound (λ u. not (eqb w u) && bit a u) n) l ∙ sym (none l))
  where
    none : n ≤ v → not (eqb w v) && bit a v ≡ false
    none l = ap (λ (t : Bool). not (eqb w v) && t) (bit_high a n v h l) ∙ and-false (not (eqb w v))

-- what bit v weighs in a number
pub weight-in : (a v : ℕ) → a / 2 ^ v % 2 * 2 ^ v ≡ one_if (bit a v) * 2 ^ v
weight-in a v = ap (λ (x : ℕ). x * 2 ^ v) (sym (digit-one (a / 2 ^ v % 2) (mod-lt (a / 2 ^ v) two_pos)))

pub weight-in-le : (a v : ℕ) → a / 2 ^ v % 2 * 2 ^ v ≤ a
weight-in-le a v = le_trans (mul-le-mul_right (2 ^ v) (mod-le (a / 2 ^ v) 2)) (div-mul-le_self a (2 ^ v))

-- ---- every bit of a is one of b, and none is

and_same : (s t : Bool) → (s ≡ true → t ≡ true) → s && t ≡ s
and_same true t f = f refl
and_same false t f = refl

and_none : (s t : Bool) → (s ≡ true → t ≡ false) → s && t ≡ false
and_none true t f = f refl
and_none false t f = refl

pub within-true : (a b : ℕ) → within a b ≡ true → (v : ℕ) → bit a v ≡ true → bit b v ≡ true
within-true a b e v h =
    (both (bit a v) (bit b v) (sym (bit-and a b v) ∙ ap (λ (x : ℕ). bit x v) (eqb-true (bit_and a b) a e) ∙ h)).1

pub within_of : (a b n : ℕ) → a < 2 ^ n → ((v : ℕ) → v < n → bit a v ≡ true → bit b v ≡ true) → within a b ≡ true
within_of a b n h f =
    eq-eqb (bit_and a b) a
    (bits-same (bit_and a b) a n (lt_of_le_of_lt (and_le_l a b) h) h (λ v l. bit-and a b v ∙ and_same (bit a v) (bit b v) (f v l)))

pub disjoint-true : (a b : ℕ) → disjoint a b ≡ true → (v : ℕ) → bit a v ≡ true → bit b v ≡ false
disjoint-true a b e v h =
    sym (ap (λ (t : Bool). t && bit b v) h) ∙ sym (bit-and a b v)
    ∙ ap (λ (x : ℕ). bit x v) (eqb-true (bit_and a b) 0 e) ∙ bit-zero v

pub disjoint-of : (a b n : ℕ) → a < 2 ^ n → ((v : ℕ) → v < n → bit a v ≡ true → bit b v ≡ false) → disjoint a b ≡ true
disjoint-of a b n h f =
    eq-eqb (bit_and a b) 0
    (bits-same (bit_and a b) 0 n (lt_of_le_of_lt (and_le_l a b) h) (pow_pos n)
    (λ v l. bit-and a b v ∙ and_none (bit a v) (bit b v) (f v l) ∙ sym (bit-zero v)))

module _ (f : ℕ → Bool) (s n : ℕ) where
  pub within-mask : within (mask f n) s ≡ true → (v : ℕ) → v < n → f v ≡ true → bit s v ≡ true
  within-mask e v l h = within-true (mask f n) s e v (mask-inside f n v l ∙ h)

  pub within-mask-of : ((v : ℕ) → v < n → f v ≡ true → bit s v ≡ true) → within (mask f n) s ≡ true
  within-mask-of g = within_of (mask f n) s n (mask_bound f n) (λ v l h. g v l (sym (mask-inside f n v l) ∙ h))

  pub disjoint-mask : disjoint (mask f n) s ≡ true → (v : ℕ) → v < n → f v ≡ true → bit s v ≡ false
  disjoint-mask e v l h = disjoint-true (mask f n) s e v (mask-inside f n v l ∙ h)

  pub disjoint-mask-of : ((v : ℕ) → v < n → f v ≡ true → bit s v ≡ false) → disjoint (mask f n) s ≡ true
  disjoint-mask-of g = disjoint-of (mask f n) s n (mask_bound f n) (λ v l h. g v l (sym (mask-inside f n v l) ∙ h))

pub more-below : (t : Bool) (m n : ℕ) → m < 2 ^ n → m + one_if t * 2 ^ n < 2 ^ (n + 1)
more-below t m n h = rw (add-one, pow-suc 2 n) (more-bound t m (2 ^ n) h)
