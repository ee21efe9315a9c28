-- The first number that passes a test. Assumes nothing.
use Rattle.std.proofs.Common.{◌≡◌, ◌∙◌, sym, subst, Bool, true, false, ℕ, zero, suc, ◌+◌, ◌≤◌, ◌<◌, zero-add, arith}
use Rattle.numbers.specs.Numbers.{first, first_from}
use Rattle.numbers.proofs.Cases.{by-test, by_order}

module _ (test : ℕ → Bool) where
  from-here : (k n : ℕ) → test k ≡ true → first_from test k (suc n) ≡ k
  unfolding first_from
  from-here k n e = rw (e, first_from)

  from-later : (k n : ℕ) → test k ≡ false → first_from test k (suc n) ≡ first_from test (suc k) n
  unfolding first_from
  from-later k n e = rw (e, first_from)

  from_at :
      (k n i : ℕ) → k ≤ i → i < k + n → ((j : ℕ) → j < i → test j ≡ false) → test i ≡ true → first_from test k n ≡ i
  from_at k zero i h l f t = absurd (omega arith)
  from_at k (suc n) i h l f t =
      let r = from_at (suc k) n i in
      by_order k i
      (λ m. from-later k n (f k m) ∙ r m (omega arith) f t)
      (λ m. let e : i ≡ k = omega arith in from-here k n (subst (λ (j : ℕ). test j ≡ true) e t) ∙ sym e)

  from-none : (k n : ℕ) → ((j : ℕ) → j < k + n → test j ≡ false) → first_from test k n ≡ k + n
  unfolding first_from
  from-none k zero f = omega arith
  from-none k (suc n) f =
      let r = from-none (suc k) n (λ j h. f j (omega arith)) in
      let e : suc k + n ≡ k + suc n = omega arith in
      from-later k n (f k (omega arith)) ∙ r ∙ e

  from-fails : (k n : ℕ) (j : ℕ) → k ≤ j → j < first_from test k n → test j ≡ false
  unfolding first_from
  from-fails k zero j h l = absurd (omega arith)
  from-fails k (suc n) j h l =
      let r = from-fails (suc k) n j in
      by-test (test k)
      (λ e. let l' = subst (λ (m : ℕ). j < m) (from-here k n e) l in absurd (omega arith))
      (λ e. by_order k j (λ m. r m (subst (λ (m : ℕ). j < m) (from-later k n e) l)) (λ m. let q : k ≡ j = omega arith in subst (λ (i : ℕ). test i ≡ false) q e))

  from-passes : (k n : ℕ) → first_from test k n < k + n → test (first_from test k n) ≡ true
  unfolding first_from
  from-passes k zero l = absurd (omega arith)
  from-passes k (suc n) l =
      let r = from-passes (suc k) n in
      by-test (test k)
      (λ e. subst (λ (m : ℕ). test m ≡ true) (sym (from-here k n e)) e)
      (λ e. let q = from-later k n e in subst (λ (m : ℕ). test m ≡ true) (sym q) (r (omega arith)))

  from-bound : (k n : ℕ) → first_from test k n ≤ k + n
  unfolding first_from
  from-bound k zero = omega arith
  from-bound k (suc n) =
      let r = from-bound (suc k) n in
      by-test (test k) (λ e. omega (arith, from-here k n e)) (λ e. omega (arith, from-later k n e))

  pub first-bound : (n : ℕ) → first test n ≤ n
  unfolding first
  first-bound n = omega (arith, from-bound 0 n)

  pub first-at : (n i : ℕ) → i < n → ((j : ℕ) → j < i → test j ≡ false) → test i ≡ true → first test n ≡ i
  unfolding first
  first-at n i l f t = from_at 0 n i (omega arith) (omega arith) f t

  pub first-none : (n : ℕ) → ((j : ℕ) → j < n → test j ≡ false) → first test n ≡ n
  unfolding first
  first-none n f = from-none 0 n (λ j h. f j (omega arith)) ∙ zero-add n

  pub first-fails : (n j : ℕ) → j < first test n → test j ≡ false
  unfolding first
  first-fails n j l = from-fails 0 n j (omega arith) l

  pub first_passes : (n : ℕ) → first test n < n → test (first test n) ≡ true
  unfolding first
  first_passes n l = from-passes 0 n (omega arith)
