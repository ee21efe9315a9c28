-- A constant's 32 bits stand for the constant, and fit. Assumes nothing.
use mathlib.Core.Path.{◌≡◌, ◌∙◌, ap}
use mathlib.Core.Bool.{true, false}
use Prim.Native.Nat.{ℕ, ◌-◌, ◌^◌, ◌<◌}
use native.Mathlib.Omega.{arith}
use borrow.Author.Tests.{ltb-true, lt-ltb, le-ltb}
use lib.Dec.{eqb, ltb}
use lib.IntN.{ℤ, pos, negsuc}
use Rattle.numbers.proofs.Cases.{by-test, both}
use Rattle.patterns.specs.Comparison.{signed, constant_value}
use Rattle.form.specs.Form.{in_range}
use Rattle.form.specs.Packed.{bits_of}

signed_low : (n : ℕ) → n < 2 ^ 31 → signed n ≡ pos n
unfolding signed
signed_low n h = rw (lt-ltb n (2 ^ 31) h, signed)

signed_high : (n : ℕ) → n < 2 ^ 31 → signed (2 ^ 32 - 1 - n) ≡ negsuc n
unfolding signed
signed_high n h =
    let e : 2 ^ 32 - 1 - (2 ^ 32 - 1 - n) ≡ n = omega arith in
    rw (le-ltb (2 ^ 32 - 1 - n) (2 ^ 31) (omega arith), signed) (ap negsuc e)

value-signed : (a w : ℕ) → eqb a 4 ≡ true → constant_value a w ≡ signed w
unfolding constant_value
value-signed a w e = rw (e, constant_value)

value-unsigned : (a w : ℕ) → eqb a 4 ≡ false → constant_value a w ≡ pos w
unfolding constant_value
value-unsigned a w e = rw (e, constant_value)

range-signed : (a n : ℕ) → eqb a 4 ≡ true → in_range a (pos n) ≡ true → n < 2 ^ 31
unfolding in_range
range-signed a n e h = ltb-true n (2 ^ 31) (rw (e, in_range) at h)

range-unsigned : (a n : ℕ) → eqb a 4 ≡ false → in_range a (pos n) ≡ true → n < 2 ^ 32
unfolding in_range
range-unsigned a n e h = ltb-true n (2 ^ 32) (rw (e, in_range) at h)

range-below : (a n : ℕ) → in_range a (negsuc n) ≡ true → (eqb a 4 ≡ true) × (n < 2 ^ 31)
unfolding in_range
range-below a n h = let b = both (eqb a 4) (ltb n (2 ^ 31)) h in (b.0, ltb-true n (2 ^ 31) b.1)

pub constant-means : (a : ℕ) (z : ℤ) → in_range a z ≡ true → constant_value a (bits_of z) ≡ z
unfolding bits_of
constant-means a (pos n) h =
    by-test (eqb a 4)
    (λ e. value-signed a n e ∙ signed_low n (range-signed a n e h))
    (λ e. value-unsigned a n e)
constant-means a (negsuc n) h =
    let r = range-below a n h in
    value-signed a (2 ^ 32 - 1 - n) r.0 ∙ signed_high n r.1

pub constant-fits : (a : ℕ) (z : ℤ) → in_range a z ≡ true → bits_of z < 2 ^ 32
unfolding bits_of
constant-fits a (pos n) h =
    by-test (eqb a 4)
    (λ e. omega (arith, range-signed a n e h))
    (λ e. range-unsigned a n e h)
constant-fits a (negsuc n) h = omega arith
