-- The bits of a number, and numbers made of bits.
use Rattle.std.specs.Prelude.{◌≡◌, Bool, true, false, ℕ, zero, suc, ◌+◌, ◌*◌, ◌^◌, ◌/◌, ◌%◌, ◌<◌, eqb}
use Rattle.std.specs.Int.Bits.{bit_and}
use Rattle.numbers.specs.Numbers.{one_if}

-- Serves rules 4.1, 12.1: bit v has weight 2^v
abbrev pub bit : ℕ → ℕ → Bool
bit number v = eqb (number / 2 ^ v % 2) 1

-- Serves rules 4.5, 12.2: the number with bit v for each v below n that passes the test
unfoldable pub mask : (ℕ → Bool) → ℕ → ℕ
mask test zero = 0
mask test (suc n) = mask test n + one_if (test n) * 2 ^ n

-- every bit of a is one of b
abbrev pub within : ℕ → ℕ → Bool
within a b = eqb (bit_and a b) a

-- no bit of a is one of b
abbrev pub disjoint : ℕ → ℕ → Bool
disjoint a b = eqb (bit_and a b) 0

-- bit v is one of a number of so many bits, and none below it is
pub record IsLowestBit (bits number v : ℕ) : Type 0 where
  pub small : v < bits
  pub here : bit number v ≡ true
  pub none : (u : ℕ) → u < v → bit number u ≡ false
