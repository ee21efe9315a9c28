-- Sums over the numbers below a bound. Assumes nothing.
use Rattle.std.proofs.Common.{◌≡◌, ◌∙◌, refl, sym, ap, ap₂, Bool, true, false, ◌&&◌, ℕ, zero, suc, ◌+◌, ◌*◌, ◌<◌, add-zero, add-suc, zero-mul, one-mul, add-mul, arith, eq-eqb, ne_eqb, eqb}
use Rattle.numbers.specs.Numbers.{sum, count, one_if}
use Rattle.numbers.proofs.Cases.{by_order}

-- what agrees below n has one sum
pub sum_same : (f g : ℕ → ℕ) (n : ℕ) → ((i : ℕ) → i < n → f i ≡ g i) → sum f n ≡ sum g n
unfolding sum
sum_same f g zero e = refl
sum_same f g (suc n) e = ap₂ ◌+◌ (sum_same f g n (λ i h. e i (omega arith))) (e n (omega arith))

pub sum-zero : (f : ℕ → ℕ) (n : ℕ) → ((i : ℕ) → i < n → f i ≡ 0) → sum f n ≡ 0
unfolding sum
sum-zero f zero e = refl
sum-zero f (suc n) e = omega (arith, sum-zero f n (λ i h. e i (omega arith)), e n (omega arith))

pub sum-add : (f g : ℕ → ℕ) (n : ℕ) → sum (λ i. f i + g i) n ≡ sum f n + sum g n
unfolding sum
sum-add f g zero = refl
sum-add f g (suc n) = omega (arith, sum-add f g n)

pub sum-scale : (f : ℕ → ℕ) (k n : ℕ) → sum (λ i. f i * k) n ≡ sum f n * k
unfolding sum
sum-scale f k zero = sym (zero-mul k)
sum-scale f k (suc n) = ap (λ (x : ℕ). x + f n * k) (sum-scale f k n) ∙ sym (add-mul (sum f n) (f n) k)

-- the order of two sums does not matter
pub sum-swap : (f : ℕ → ℕ → ℕ) (m n : ℕ) → sum (λ i. sum (f i) n) m ≡ sum (λ j. sum (λ i. f i j) m) n
unfolding sum
sum-swap f zero n = sym (sum-zero (λ j. 0) n (λ i h. refl))
sum-swap f (suc m) n = ap (λ (x : ℕ). x + sum (f m) n) (sum-swap f m n) ∙ sym (sum-add (λ j. sum (λ i. f i j) m) (f m) n)

-- the numbers below n, and m more
pub sum-split : (f : ℕ → ℕ) (n m : ℕ) → sum f (n + m) ≡ sum f n + sum (λ i. f (n + i)) m
unfolding sum
sum-split f n zero = ap (sum f) (add-zero n) ∙ sym (add-zero (sum f n))
sum-split f n (suc m) = ap (sum f) (add-suc n m) ∙ omega (arith, sum-split f n m)

pub sum-count : (test : ℕ → Bool) (n : ℕ) → sum (λ i. one_if (test i)) n ≡ count test n
unfolding sum count
sum-count test zero = refl
sum-count test (suc n) = ap (λ (x : ℕ). x + one_if (test n)) (sum-count test n)

-- of a test and a flag
pub sum-flag :
    (test : ℕ → Bool) (flag : Bool) (n : ℕ)
    → sum (λ i. one_if (test i && flag)) n ≡ one_if flag * sum (λ i. one_if (test i)) n
sum-flag test true n = sum_same (λ i. one_if (test i && true)) (λ i. one_if (test i)) n (λ i h. whole (test i)) ∙ sym (one-mul (sum (λ i. one_if (test i)) n))
  where
    whole : (t : Bool) → one_if (t && true) ≡ one_if t
    whole true = refl
    whole false = refl
sum-flag test false n = sum-zero (λ i. one_if (test i && false)) n (λ i h. none (test i)) ∙ sym (zero-mul (sum (λ i. one_if (test i)) n))
  where
    none : (t : Bool) → one_if (t && false) ≡ 0
    none true = refl
    none false = refl

-- a number below n is one of the numbers below n, once
pub sum_one : (a n : ℕ) → a < n → sum (λ i. one_if (eqb a i)) n ≡ 1
unfolding sum
sum_one a zero h = absurd (omega arith)
sum_one a (suc n) h =
    let r = sum_one a n in
    by_order a n
    (λ l. rw (r l, ne_eqb a n (λ e. omega arith)))
    (λ l. let e : a ≡ n = omega arith in
    let none = sum-zero (λ i. one_if (eqb a i)) n (λ i k. ap one_if (ne_eqb a i (λ d. omega arith))) in
    rw (none, eq-eqb a n e))
