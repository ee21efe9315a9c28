-- A test of every number below a bound. Assumes nothing.
use Rattle.std.proofs.Common.{◌≡◌, refl, ap₂, subst, Bool, true, ◌&&◌, ℕ, zero, suc, ◌+◌, ◌<◌, le_refl, not-suc-le-zero, add-one, arith}
use Rattle.numbers.specs.Numbers.{every}
use Rattle.numbers.proofs.Cases.{by_order, both, same_test}

module _ (test : ℕ → Bool) where
  pub every-none : every test 0 ≡ true
  unfolding every
  every-none = refl

  pub every_more : (n : ℕ) → every test (n + 1) ≡ every test n && test n
  unfolding every
  every_more n = rw add-one

  pub every_true : (n : ℕ) → every test n ≡ true → (v : ℕ) → v < n → test v ≡ true
  unfolding every
  every_true zero e v l = absurd (not-suc-le-zero l)
  every_true (suc n) e v l =
      let here = both (every test n) (test n) e in
      let below = every_true n here.0 v in
      by_order v n below (λ m. let q : n ≡ v = omega arith in subst (λ (i : ℕ). test i ≡ true) q here.1)

  pub every_of : (n : ℕ) → ((v : ℕ) → v < n → test v ≡ true) → every test n ≡ true
  unfolding every
  every_of zero f = refl
  every_of (suc n) f = ap₂ (λ (s t : Bool). s && t) (every_of n (λ v l. f v (omega arith))) (f n (le_refl (suc n)))

pub every-same : (f g : ℕ → Bool) (n : ℕ) → ((v : ℕ) → v < n → f v ≡ g v) → every f n ≡ every g n
unfolding every
every-same f g zero h = refl
every-same f g (suc n) h = ap₂ (λ (s t : Bool). s && t) (every-same f g n (λ v l. h v (omega arith))) (h n (le_refl (suc n)))

-- two tests of each number
pub every-both : (f g : ℕ → Bool) (n : ℕ) → every (λ v. f v && g v) n ≡ every f n && every g n
every-both f g n =
    same_test (every (λ v. f v && g v) n) (every f n && every g n)
    (λ e.
    ap₂ (λ (s t : Bool). s && t)
    (every_of f n (λ v l. (both (f v) (g v) (every_true (λ v. f v && g v) n e v l)).0))
    (every_of g n (λ v l. (both (f v) (g v) (every_true (λ v. f v && g v) n e v l)).1)))
    (λ e.
    let h = both (every f n) (every g n) e in
    every_of (λ v. f v && g v) n (λ v l. ap₂ (λ (s t : Bool). s && t) (every_true f n h.0 v l) (every_true g n h.1 v l)))
