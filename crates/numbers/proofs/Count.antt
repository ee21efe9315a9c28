-- How many numbers pass a test. Assumes nothing.
use Rattle.std.proofs.Common.{◌≡◌, ◌∙◌, refl, sym, ap, ap₂, Bool, true, false, not, ◌&&◌, ℕ, zero, suc, ◌+◌, ◌≤◌, ◌<◌, add-one, arith, eq-eqb, ne_eqb, eqb}
use mathlib.Core.Bool.{and-true, and-false}
use Rattle.numbers.specs.Numbers.{count, one_if}
use Rattle.numbers.proofs.Cases.{by_order}

pub count_none : (test : ℕ → Bool) → count test 0 ≡ 0
unfolding count
count_none test = refl

pub count-more : (test : ℕ → Bool) (n : ℕ) → count test (n + 1) ≡ count test n + one_if (test n)
unfolding count
count-more test n = rw add-one

pub one_if-bound : (t : Bool) → one_if t ≤ 1
one_if-bound true = omega arith
one_if-bound false = omega arith

-- no more than there are
pub count-bound : (test : ℕ → Bool) (n : ℕ) → count test n ≤ n
unfolding count
count-bound test zero = omega arith
count-bound test (suc n) = omega (arith, count-bound test n, one_if-bound (test n))

-- tests that agree below n count the same
pub count-ext : (f g : ℕ → Bool) (n : ℕ) → ((i : ℕ) → i < n → f i ≡ g i) → count f n ≡ count g n
unfolding count
count-ext f g zero e = refl
count-ext f g (suc n) e = ap₂ ◌+◌ (count-ext f g n (λ i h. e i (omega arith))) (ap one_if (e n (omega arith)))

-- all but one
pub count-but :
    (test : ℕ → Bool) (v n : ℕ) → v < n → test v ≡ true → count test n ≡ suc (count (λ u. test u && not (eqb u v)) n)
unfolding count
count-but test v zero h e = absurd (omega arith)
count-but test v (suc n) h e =
    let r = count-but test v n in
    by_order v n
    (λ l. rw (ne_eqb n v (λ d. omega arith), and-true (test n)) (omega (arith, r l e)))
    (λ l. let d : n ≡ v = omega arith in
    let rest = count-ext test (λ u. test u && not (eqb u v)) n (λ u k. sym (rw (ne_eqb u v (λ q. omega arith)) (and-true (test u)))) in
    rw (eq-eqb n v d, and-false (test n), ap test d ∙ e) (omega (arith, rest)))
