-- A slot as a part lent of working memory. Assumes nothing.
use mathlib.Core.Path.{◌≡◌, ap}
use mathlib.Core.List.{List}
use Prim.Native.Nat.{ℕ, ◌+◌, ◌-◌, ◌≤◌}
use native.Mathlib.Omega.{arith}
use lib.ListN.{length, take, drop, length-take, length-drop}
use borrow.Rule.Slice.PartMut.{put_mid}
use Rattle.slots.specs.Slots.{slot_bytes, slot_at}

-- as it is lent, and as it comes back
abbrev pub part_at : List ℕ → ℕ → List ℕ
part_at work at = take (at + slot_bytes - at) (drop at work)

abbrev pub put_slot : List ℕ → ℕ → List ℕ → List ℕ
put_slot work at slot = put_mid at (at + slot_bytes - at) work slot

pub part-slot : (work : List ℕ) (at : ℕ) → part_at work at ≡ slot_at work at
part-slot work at = let e : at + slot_bytes - at ≡ slot_bytes = omega arith in ap (λ (n : ℕ). take n (drop at work)) e

pub length-slot_at : (work : List ℕ) (at : ℕ) → at + slot_bytes ≤ length work → length (slot_at work at) ≡ slot_bytes
length-slot_at work at h = simp (length-take, length-drop) (omega arith)
