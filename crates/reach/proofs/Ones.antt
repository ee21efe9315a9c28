-- The bits of a mask, counted. Assumes nothing.
use Rattle.std.proofs.Common.{arith, ◌≡◌, refl, sym, ap, ◌∙◌, Bool, true, false, ℕ, zero, suc, ◌+◌, ◌*◌, ◌^◌, ◌<◌}
use native.Mathlib.Nat.{add_comm}
use lib.Count.{ones, ones_in, ones_cat}
use Rattle.numbers.specs.Numbers.{count, one_if}
use Rattle.numbers.specs.Bits.{bit, mask}
use Rattle.numbers.proofs.Bits.{mask_bound, mask-of-bits}

ones-if : (t : Bool) → ones (one_if t) ≡ one_if t
unfolding ones ones_in
ones-if true = refl
ones-if false = refl

-- as many bits as numbers pass
pub ones-mask : (f : ℕ → Bool) (n : ℕ) → ones (mask f n) ≡ count f n
unfolding mask count
ones-mask f zero = ones-if false
ones-mask f (suc n) =
    let below = ones-mask f n in
    let here = ones-if (f n) in
    let parts : ones (mask f n + one_if (f n) * 2 ^ n) ≡ ones (one_if (f n)) + ones (mask f n) =
    ap ones (add_comm (mask f n) (one_if (f n) * 2 ^ n)) ∙ ones_cat n (one_if (f n)) (mask f n) (mask_bound f n) in
    omega arith

-- the bits of a number, counted
pub ones-bits : (x n : ℕ) → x < 2 ^ n → ones x ≡ count (bit x) n
ones-bits x n h = ap ones (sym (mask-of-bits x n h)) ∙ ones-mask (bit x) n
