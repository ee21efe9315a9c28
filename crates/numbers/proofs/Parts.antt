-- A part of a number, between what stands above it and what stands below it. Assumes nothing.
use Rattle.std.proofs.Common.{◌≡◌, ◌∙◌, sym, ap, ℕ, ◌+◌, ◌*◌, ◌/◌, ◌%◌, ◌<◌, div-add-mod', mod-eq_of_lt, add-zero, lt_of_le_of_lt, arith}
use native.Mathlib.Nat.{div-div-eq-div-mul, mul-add-div_right, mul-add-mod_self_right}
use native.Mathlib.Nat.{div-eq_of_lt}

-- what stands above the lowest bits, and they
pub above : (m x y : ℕ) → y < m → (x * m + y) / m ≡ x
above m x y h =
    mul-add-div_right (lt_of_le_of_lt (omega arith) h) x y ∙ ap (λ (z : ℕ). x + z) (div-eq_of_lt h) ∙ add-zero x

pub lowest : (m x y : ℕ) → y < m → (x * m + y) % m ≡ y
lowest m x y h = mul-add-mod_self_right x m y ∙ mod-eq_of_lt h

pub part :
    (word size weight high mid low : ℕ) → word ≡ (high * size + mid) * weight + low → mid < size → low < weight
    → word / weight % size ≡ mid
part word size weight high mid low e m l =
    ap (λ (w : ℕ). w / weight % size) e
    ∙ ap (λ (w : ℕ). w % size) (above weight (high * size + mid) low l)
    ∙ lowest size high mid m

-- one part more of a number, behind those above it
pub joined :
    (word size weight high : ℕ) → high ≡ word / (weight * size)
    → high * size + word / weight % size ≡ word / weight
joined word size weight high e =
    ap (λ (x : ℕ). x * size + word / weight % size) (e ∙ sym (div-div-eq-div-mul word weight size))
    ∙ div-add-mod' (word / weight) size
