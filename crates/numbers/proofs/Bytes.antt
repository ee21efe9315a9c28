-- Numbers of 16 bits as bytes, one list behind the other, and zeros. Assumes nothing.
use Rattle.std.proofs.Common.{◌≡◌, ◌∙◌, refl, ap, List, [], ◌∷◌, ◌++◌, ℕ, zero, suc, ◌*◌, ◌/◌, ◌%◌, arith, replicate}
use Rattle.numbers.specs.Numbers.{bytes_of}

pub bytes-append : (a b : List ℕ) → bytes_of (a ++ b) ≡ bytes_of a ++ bytes_of b
unfolding bytes_of
bytes-append [] b = refl
bytes-append (x ∷ a) b = ap (λ (l : List ℕ). (x / 256) ∷ (x % 256) ∷ l) (bytes-append a b)

pub bytes-zeros : (n : ℕ) → bytes_of (replicate n 0) ≡ replicate (2 * n) 0
unfolding bytes_of
bytes-zeros zero = refl
bytes-zeros (suc n) =
    let e : suc (suc (2 * n)) ≡ 2 * suc n = omega arith in
    ap (λ (l : List ℕ). 0 ∷ 0 ∷ l) (bytes-zeros n) ∙ ap (λ (k : ℕ). replicate k 0) e
