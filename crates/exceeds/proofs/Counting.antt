-- Two tests of which one passes wherever the other does, counted. Assumes nothing.
use mathlib.Core.Path.{◌≡◌, refl, ap}
use mathlib.Core.Bool.{Bool, true, false}
use Prim.Native.Nat.{ℕ, zero, suc, ◌≤◌, ◌<◌}
use native.Mathlib.Omega.{arith}
use Rattle.numbers.specs.Numbers.{count, one_if}
use Rattle.numbers.proofs.Cases.{by_order}

one_more : (s t : Bool) → (s ≡ true → t ≡ true) → one_if s ≤ one_if t
one_more true t h = omega (arith, ap one_if (h refl))
one_more false t h = omega arith

module _ (f g : ℕ → Bool) (more : (v : ℕ) → f v ≡ true → g v ≡ true) where
  pub count-more : (n : ℕ) → count f n ≤ count g n
  unfolding count
  count-more zero = omega arith
  count-more (suc n) = let l = count-more n in omega (arith, one_more (f n) (g n) (more n))

  -- one number passes the second test only
  pub count-one-more : (v n : ℕ) → v < n → f v ≡ false → g v ≡ true → count f n < count g n
  unfolding count
  count-one-more v zero l a b = absurd (omega arith)
  count-one-more v (suc n) l a b =
      let rest = count-one-more v n in
      by_order v n
      (λ m. omega (arith, rest m a b, one_more (f n) (g n) (more n)))
      (λ m.
      let e : v ≡ n = omega arith in
      omega (arith, count-more n, ap (λ (x : ℕ). one_if (f x)) e, ap (λ (x : ℕ). one_if (g x)) e, ap one_if a, ap one_if b))
