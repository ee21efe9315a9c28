-- Laws of bytes read as numbers. Assumes nothing.
use Rattle.std.proofs.Common.{◌≡◌, List, ℕ, ◌+◌, ◌*◌, add-zero, zero-add, add_assoc, arith, get_or}
use Rattle.numbers.specs.Numbers.{number}

pub number-2 : (s : List ℕ) (at : ℕ) → number s at 2 ≡ get_or s at 0 * 256 + get_or s (at + 1) 0
unfolding number
number-2 s at = simp (add-zero, zero-add)

-- the first byte, and the number that four bytes after it make
pub number-5 : (s : List ℕ) (at : ℕ) → number s at 5 ≡ get_or s at 0 * 4294967296 + number s (at + 1) 4
unfolding number
number-5 s at = simp (add_assoc, add-zero, zero-add) (omega arith)
