-- The patterns and blocks by which wrong passes are shut out are made of bytes, as a caller's memory is.
-- Assumes nothing.
use mathlib.Core.Path.{◌≡◌, refl}
use mathlib.Core.Bool.{true}
use mathlib.Core.List.Memᴰ
use mathlib.Core.List.{List, [], ◌∷◌, ◌++◌, Memᴰ}
use Prim.Native.Nat.{ℕ, zero, suc, ◌/◌, ◌%◌, ◌^◌, ◌<◌}
use native.Mathlib.Omega.{arith}
use lib.Dec.{ltb}
use borrow.Author.Tests.{ltb-true}
use Rattle.automaton.specs.Filtering.{all}
use Rattle.automaton.proofs.Membership.{all-mem}
use Rattle.rule.specs.Calls.{zeros}
use Rattle.rule.specs.Bench.{bench_pattern, one_pattern, bench_front, bench_block, in_bytes, event_bytes}

-- every number of the list is a byte
pub record Bytes (l : List ℕ) : Type 0 where
  pub below : (x : ℕ) → Memᴰ x l → x < 256

tested : (l : List ℕ) → all (λ x. ltb x 256) l ≡ true → Bytes l
tested l h = record { below = λ x m. ltb-true x 256 (all-mem (λ y. ltb y 256) m h) }

-- those of the bench, and the shortest block that is no block
pub bench-bytes : Bytes bench_pattern × Bytes bench_block × Bytes bench_front × Bytes one_pattern × Bytes (0 ∷ [])
unfolding all
bench-bytes = (
  tested bench_pattern refl,
  tested bench_block refl,
  tested bench_front refl,
  tested one_pattern refl,
  tested (0 ∷ []) refl,
)

-- ## Events at any time

pub nothing-bytes : Bytes []
nothing-bytes = record { below = λ x m. absurd (Memᴰ.not-nil m) }

cons-bytes : (b : ℕ) (l : List ℕ) → b < 256 → Bytes l → Bytes (b ∷ l)
cons-bytes b l h t = record { below = go }
  where
    go : (x : ℕ) → Memᴰ x (b ∷ l) → x < 256
    go x (Memᴰ.head e) = omega arith
    go x (Memᴰ.tail m) = t.below x m

pub append-bytes : (a b : List ℕ) → Bytes a → Bytes b → Bytes (a ++ b)
append-bytes [] b h t = t
append-bytes (x ∷ a) b h t =
    cons-bytes x (a ++ b) (h.below x (Memᴰ.head refl))
    (append-bytes a b (record { below = λ y m. h.below y (Memᴰ.tail m) }) t)

number-bytes : (n x : ℕ) → Bytes (in_bytes n x)
number-bytes zero x = nothing-bytes
number-bytes (suc n) x = cons-bytes (x / 256 ^ n % 256) (in_bytes n x) (omega arith) (number-bytes n x)

pub event-bytes : (time : ℕ) → Bytes (event_bytes time 0 0)
unfolding all
event-bytes time =
    append-bytes (0 ∷ 0 ∷ []) (in_bytes 5 time ++ zeros 9) (tested (0 ∷ 0 ∷ []) refl)
    (append-bytes (in_bytes 5 time) (zeros 9) (number-bytes 5 time) (tested (zeros 9) refl))
