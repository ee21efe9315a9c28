-- What slots hold: the bindings of a slot, and slots in a memory that is written elsewhere, stored to and skipped.
-- Assumes nothing.
use Rattle.std.proofs.Common.{◌≡◌, refl, sym, ap, ◌∙◌, List, [], ◌∷◌, ◌++◌, append_assoc, ℕ, zero, suc, ◌+◌, ◌-◌, ◌*◌}
use Rattle.std.proofs.Common.{◌^◌, ◌/◌, ◌%◌, ◌≤◌, ◌<◌, add-zero, add-suc, arith, length, take, drop, get_or}
use Rattle.std.proofs.Common.{length-append, length-drop, take-take, drop-drop, get_or-drop, take-suc}
use lib.ListN.{get_or-append}
use lib.Seq.{take-nil, drop-append-le, get_or_at}
use Rattle.numbers.specs.Numbers.{number, written}
use Rattle.numbers.proofs.Numbers.{number-2}
use Rattle.numbers.proofs.Cases.{by_order}
use Rattle.rule.specs.Rule.{packed, pack_bindings}
use Rattle.rule.specs.Promises.{most_bindings}
use Rattle.slots.specs.Slots.{Held, slot_bytes, binding_of, bindings_in, count_in, held_in, slot_at, slots_at}
use Rattle.numbers.specs.Numbers.{bytes_of}
use Rattle.slots.specs.Results.{line_numbers}
use Rattle.slots.proofs.Results.{bytes_of-append, take-written, written-part}

-- ---- the bindings of a slot

pub length-bindings_in : (slot : List ℕ) (n : ℕ) → length (bindings_in slot n) ≡ n
unfolding bindings_in
length-bindings_in slot zero = refl
length-bindings_in slot (suc n) = ap suc (length-bindings_in slot n)

pub length-held_in : (slot : List ℕ) → length (held_in slot).bindings ≡ count_in slot
unfolding held_in
length-held_in slot = length-bindings_in slot (count_in slot)

-- slots that agree on the bytes of n bindings
pub bindings_in-same :
    (a b : List ℕ) (n : ℕ) → ((k : ℕ) → 4 ≤ k → k < 4 + 2 * n → get_or a k 0 ≡ get_or b k 0)
    → bindings_in a n ≡ bindings_in b n
unfolding bindings_in
bindings_in-same a b zero h = refl
bindings_in-same a b (suc n) h =
    let x = h (4 + 2 * n) (omega arith) (omega arith) in
    let y = h (4 + 2 * n + 1) (omega arith) (omega arith) in
    let e : number a (4 + 2 * n) 2 ≡ number b (4 + 2 * n) 2 = rw (number-2 a (4 + 2 * n), number-2 b (4 + 2 * n), x, y) in
    let t = bindings_in-same a b n (λ k y z. h k y (omega arith)) in
    λ i. binding_of (e i) ∷ t i

-- the bindings as a result has them: the slot's own bytes
pub packed-bindings :
    (slot : List ℕ) (n : ℕ) → ((k : ℕ) → get_or slot k 0 < 256) → 4 + 2 * n ≤ length slot
    → bytes_of (pack_bindings (bindings_in slot n)) ≡ take (2 * n) (drop 4 slot)
unfolding bindings_in bytes_of
packed-bindings slot zero below h = refl
packed-bindings slot (suc n) below h =
    let at : ℕ = 4 + 2 * n in
    let word : ℕ = number slot at 2 in
    let w : word ≡ get_or slot at 0 * 256 + get_or slot (at + 1) 0 = number-2 slot at in
    let x : packed (word / 2 ^ 12) (word % 2 ^ 12) / 256 ≡ get_or slot at 0 = omega (arith, below at, below (at + 1)) in
    let y : packed (word / 2 ^ 12) (word % 2 ^ 12) % 256 ≡ get_or slot (at + 1) 0 = omega (arith, below at, below (at + 1)) in
    let rest : List ℕ = drop 4 slot in
    let m : length rest ≡ length slot - 4 = length-drop 4 slot in
    let e : 2 * suc n ≡ suc (suc (2 * n)) = omega arith in
    let u : 4 + suc (2 * n) ≡ at + 1 = omega arith in
    bytes_of-append (pack_bindings (bindings_in slot n)) (packed (word / 2 ^ 12) (word % 2 ^ 12) ∷ [])
    ∙ (λ i. packed-bindings slot n below (omega arith) i ++ (x i ∷ y i ∷ []))
    ∙ sym
    (ap (λ (k : ℕ). take k rest) e
    ∙ take-suc rest (suc (2 * n)) 0 (omega arith)
    ∙ ap (λ (l : List ℕ). l ++ (get_or rest (suc (2 * n)) 0 ∷ [])) (take-suc rest (2 * n) 0 (omega arith))
    ∙ append_assoc (take (2 * n) rest) (get_or rest (2 * n) 0 ∷ []) (get_or rest (suc (2 * n)) 0 ∷ [])
    ∙ (λ i. take (2 * n) rest ++ (get_or-drop 4 slot (2 * n) 0 i ∷ (get_or-drop 4 slot (suc (2 * n)) 0 ∙ ap (λ (k : ℕ). get_or slot k 0) u) i ∷ [])))

-- a reported reading: the head, then the slot's own bytes
pub line-bytes :
    (mark : ℕ) (slot : List ℕ) → mark < 16 → count_in slot ≤ most_bindings → ((k : ℕ) → get_or slot k 0 < 256)
    → 4 + 2 * count_in slot ≤ length slot
    → bytes_of (line_numbers mark (held_in slot).bindings)
    ≡ (mark * 16) ∷ count_in slot ∷ take (2 * count_in slot) (drop 4 slot)
unfolding held_in bytes_of
line-bytes mark slot m c below h =
    let n = length-bindings_in slot (count_in slot) in
    let x : packed mark (length (bindings_in slot (count_in slot))) / 256 ≡ mark * 16 = omega arith in
    let y : packed mark (length (bindings_in slot (count_in slot))) % 256 ≡ count_in slot = omega arith in
    λ i. x i ∷ y i ∷ packed-bindings slot (count_in slot) below h i

-- ---- slots in a memory

pub length-slots_at : (memory : List ℕ) (at n : ℕ) → length (slots_at memory at n) ≡ n
unfolding slots_at
length-slots_at memory at zero = refl
length-slots_at memory at (suc n) = simp length-append (omega (arith, length-slots_at memory at n))

pub get_or-slots_at :
    (memory : List ℕ) (at n i : ℕ) (none : Held) → i < n
    → get_or (slots_at memory at n) i none ≡ held_in (slot_at memory (at + slot_bytes * i))
unfolding slots_at
get_or-slots_at memory at zero i none h = absurd (omega arith)
get_or-slots_at memory at (suc n) i none h =
    let last : Held = held_in (slot_at memory (at + slot_bytes * n)) in
    let size = length-slots_at memory at n in
    by_order i n
    (λ l. get_or-append (slots_at memory at n) (last ∷ []) none i (omega arith) ∙ get_or-slots_at memory at n i none l)
    (λ l. let e : n ≡ i = omega arith in
    get_or_at (slots_at memory at n) last [] none i (size ∙ e) ∙ ap (λ (k : ℕ). held_in (slot_at memory (at + slot_bytes * k))) e)

-- the first m slots skipped
pub slots_at-drop :
    (memory : List ℕ) (at m n : ℕ) → slots_at memory (at + slot_bytes * m) n ≡ drop m (slots_at memory at (m + n))
unfolding slots_at
slots_at-drop memory at m zero =
    let size = length-slots_at memory at m in
    sym (ap (λ (k : ℕ). drop m (slots_at memory at k)) (add-zero m) ∙ lib.ListN.drop_of_length-le (slots_at memory at m) {i = m} (omega arith))
slots_at-drop memory at m (suc n) =
    let e : at + slot_bytes * m + slot_bytes * n ≡ at + slot_bytes * (m + n) = omega arith in
    let last : Held = held_in (slot_at memory (at + slot_bytes * (m + n))) in
    let size = length-slots_at memory at (m + n) in
    (λ i. slots_at-drop memory at m n i ++ (held_in (slot_at memory (e i)) ∷ []))
    ∙ sym (drop-append-le m (slots_at memory at (m + n)) (last ∷ []) (omega arith))
    ∙ ap (λ (k : ℕ). drop m (slots_at memory at k)) (sym (add-suc m n))

pub slots_at-same :
    (a b : List ℕ) (at n : ℕ) → ((i : ℕ) → i < n → slot_at a (at + slot_bytes * i) ≡ slot_at b (at + slot_bytes * i))
    → slots_at a at n ≡ slots_at b at n
unfolding slots_at
slots_at-same a b at zero h = refl
slots_at-same a b at (suc n) h =
    λ i. slots_at-same a b at n (λ k z. h k (omega arith)) i ++ (held_in (h n (omega arith) i) ∷ [])

-- ---- a memory that has changed elsewhere only

take-drop-take :
    (n at low : ℕ) (memory : List ℕ) → at + n ≤ low → take n (drop at (take low memory)) ≡ take n (drop at memory)
take-drop-take n zero low memory h = take-take n low memory (omega arith)
take-drop-take n (suc at) low [] h = ap (λ (l : List ℕ). take n (drop (suc at) l)) (take-nil low)
take-drop-take n (suc at) zero (x ∷ memory) h = absurd (omega arith)
take-drop-take n (suc at) (suc low) (x ∷ memory) h = take-drop-take n at low memory (omega arith)

drop-from : (high at : ℕ) (memory : List ℕ) → high ≤ at → drop (at - high) (drop high memory) ≡ drop at memory
drop-from high at memory h =
    let e : high + (at - high) ≡ at = omega arith in drop-drop (at - high) high memory ∙ ap (λ (k : ℕ). drop k memory) e

module _ (a b : List ℕ) where
  -- the same below a place
  pub slot_at-before : (low at : ℕ) → take low a ≡ take low b → at + slot_bytes ≤ low → slot_at a at ≡ slot_at b at
  slot_at-before low at e h = sym (take-drop-take slot_bytes at low a h) ∙ ap (λ (l : List ℕ). slot_at l at) e ∙ take-drop-take slot_bytes at low b h

  -- the same from a place on
  pub slot_at-after : (high at : ℕ) → drop high a ≡ drop high b → high ≤ at → slot_at a at ≡ slot_at b at
  slot_at-after high at e h =
      ap (λ (l : List ℕ). take slot_bytes l) (sym (drop-from high at a h) ∙ ap (λ (l : List ℕ). drop (at - high) l) e ∙ drop-from high at b h)

  pub slots_at-before :
      (low at n : ℕ) → take low a ≡ take low b → at + slot_bytes * n ≤ low → slots_at a at n ≡ slots_at b at n
  slots_at-before low at n e h = slots_at-same a b at n (λ i z. slot_at-before low (at + slot_bytes * i) e (omega arith))

-- ---- a memory that was written

module _ (memory : List ℕ) (place : ℕ) (bytes : List ℕ) (h : place ≤ length memory) where
  pub slots_at-written-before :
      (at n : ℕ) → at + slot_bytes * n ≤ place → slots_at (written memory place bytes) at n ≡ slots_at memory at n
  slots_at-written-before at n k = slots_at-before (written memory place bytes) memory place at n (take-written memory place bytes h place (omega arith)) k

  pub slot_at-written : length bytes ≡ slot_bytes → slot_at (written memory place bytes) place ≡ bytes
  slot_at-written n = ap (λ (k : ℕ). take k (drop place (written memory place bytes))) (sym n) ∙ written-part memory place bytes h

-- slot n stored: those before it are kept
pub slots_at-stored :
    (memory : List ℕ) (at n : ℕ) (slot : List ℕ) → at + slot_bytes * n ≤ length memory → length slot ≡ slot_bytes
    → slots_at (written memory (at + slot_bytes * n) slot) at (suc n) ≡ slots_at memory at n ++ (held_in slot ∷ [])
unfolding slots_at
slots_at-stored memory at n slot h l =
    λ i. slots_at-written-before memory (at + slot_bytes * n) slot h at n (omega arith) i
    ++ (held_in (slot_at-written memory (at + slot_bytes * n) slot h l i) ∷ [])
