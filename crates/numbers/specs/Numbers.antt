-- Bytes read as numbers, and searches over the numbers below a bound.
use Rattle.std.specs.Prelude.{Bool, true, false, ◌&&◌, List, [], ◌∷◌, ◌++◌, ℕ, zero, suc, ◌+◌, ◌*◌, ◌/◌, ◌%◌, ◌^◌, length, get_or, take, drop}

-- Serves rules 1.2, 2.1, 2.3, 9.1, 12.1: the number that n bytes from a place on make, high byte first
unfoldable pub number : List ℕ → ℕ → ℕ → ℕ
number bytes at zero = 0
number bytes at (suc n) = number bytes at n * 256 + get_or bytes (at + n) 0

-- Rule 7.1: numbers of 16 bits as bytes, two each, high byte first
unfoldable pub bytes_of : List ℕ → List ℕ
bytes_of [] = []
bytes_of (x ∷ l) = (x / 256) ∷ (x % 256) ∷ bytes_of l

-- Serves rules 1.2, 2.1, 2.2, 2.3, 7.1, 12.1: a field of a number: so many bits, above so many lower ones
abbrev pub field : ℕ → ℕ → ℕ → ℕ
field bits lower word = word / 2 ^ lower % 2 ^ bits

-- bytes written over a memory, from a place on
abbrev pub written : List ℕ → ℕ → List ℕ → List ℕ
written memory at bytes = take at memory ++ bytes ++ drop (at + length bytes) memory

-- Serves rules 1.1, 2.4, 4.2: n numbers, from k on
unfoldable pub upto : ℕ → ℕ → List ℕ
upto k zero = []
upto k (suc n) = k ∷ upto (suc k) n

-- Serves rules 8.3, 8.4, 8.14: the first of n numbers from k on that passes the test; the number after them where none
-- does
unfoldable pub first_from : (ℕ → Bool) → ℕ → ℕ → ℕ
first_from test k zero = k
first_from test k (suc n) = elim (test k) [ true ↦ k | false ↦ first_from test (suc k) n ]

-- Serves rules 8.3, 8.4, 8.14: the first number below n that passes the test; n where none does
unfoldable pub first : (ℕ → Bool) → ℕ → ℕ
first test n = first_from test 0 n

-- Serves rules 2.2, 4.5: 1 for a test that passes
abbrev pub one_if : Bool → ℕ
one_if true = 1
one_if false = 0

-- Serves rules 2.2, 4.7, 12.2: how many numbers below n pass the test
unfoldable pub count : (ℕ → Bool) → ℕ → ℕ
count test zero = 0
count test (suc n) = count test n + one_if (test n)

-- Serves rule 12.2: the sum of f over the numbers below n
unfoldable pub sum : (ℕ → ℕ) → ℕ → ℕ
sum f zero = 0
sum f (suc n) = sum f n + f n

-- every number below n passes the test
unfoldable pub every : (ℕ → Bool) → ℕ → Bool
every test zero = true
every test (suc n) = every test n && test n
