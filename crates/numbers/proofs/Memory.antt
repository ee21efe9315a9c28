-- Lent memory that is filled, and written over. Assumes nothing.
use Rattle.std.proofs.Common.{◌≡◌, sym, ap, ap₂, ◌∙◌, List, ◌++◌, ℕ, zero, suc, ◌+◌, ◌-◌, arith, length, drop, replicate, take_at}
use lib.Seq.{drop-append-add}
use Rattle.numbers.specs.Numbers.{written}

drop-replicate : (k m value : ℕ) → drop k (replicate m value) ≡ replicate (m - k) value
drop-replicate zero m value = let e : m ≡ m - 0 = omega arith in ap (λ (n : ℕ). replicate n value) e
drop-replicate (suc k) zero value = let e : 0 ≡ 0 - suc k = omega arith in ap (λ (n : ℕ). replicate n value) e
drop-replicate (suc k) (suc m) value =
    let e : m - k ≡ suc m - suc k = omega arith in drop-replicate k m value ∙ ap (λ (n : ℕ). replicate n value) e

-- bytes written behind those before them, where one value stood
pub written_behind :
    (before bytes : List ℕ) (at m value : ℕ) → length before ≡ at
    → written (before ++ replicate m value) at bytes ≡ before ++ bytes ++ replicate (m - length bytes) value
written_behind before bytes at m value h =
    ap₂ (λ (front back : List ℕ). front ++ bytes ++ back) (take_at before (replicate m value) at h)
    (ap (λ (k : ℕ). drop (k + length bytes) (before ++ replicate m value)) (sym h)
    ∙ drop-append-add before (replicate m value) (length bytes)
    ∙ drop-replicate (length bytes) m value)
