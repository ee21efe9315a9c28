-- Bytes written over a memory, and numbers as bytes: two for each, from which the numbers come back. Assumes nothing.
use Rattle.std.proofs.Common.{◌≡◌, refl, sym, ap, ◌∙◌, List, [], ◌∷◌, ◌++◌, append_assoc, ℕ, zero, suc, ◌+◌, ◌-◌, ◌*◌}
use Rattle.std.proofs.Common.{◌/◌, ◌%◌, ◌≤◌, ◌<◌, div-add-mod', add-one, arith, length, take, drop, get_or, set}
use Rattle.std.proofs.Common.{length-append, length-drop, take_at, drop_at, drop-drop, take-take, length-take-le}
use Rattle.std.proofs.Common.{take-suc-set, drop-set-lt}
use borrow.Rule.Slice.PartMut.{put_mid}
use Rattle.numbers.specs.Numbers.{bytes_of, written}
use Rattle.slots.specs.Results.{numbers_of}

-- ---- numbers as bytes

pub length-bytes_of : (l : List ℕ) → length (bytes_of l) ≡ 2 * length l
unfolding bytes_of
length-bytes_of [] = refl
length-bytes_of (x ∷ l) = omega (arith, length-bytes_of l)

pub bytes_of-append : (a b : List ℕ) → bytes_of (a ++ b) ≡ bytes_of a ++ bytes_of b
unfolding bytes_of
bytes_of-append [] b = refl
bytes_of-append (x ∷ a) b = ap (λ (l : List ℕ). (x / 256) ∷ (x % 256) ∷ l) (bytes_of-append a b)

pub bytes_of-below : (l : List ℕ) → ((k : ℕ) → get_or l k 0 < 65536) → (k : ℕ) → get_or (bytes_of l) k 0 < 256
unfolding bytes_of
bytes_of-below [] h k = omega arith
bytes_of-below (x ∷ l) h zero = let e : x < 65536 = h 0 in omega arith
bytes_of-below (x ∷ l) h (suc zero) = omega arith
bytes_of-below (x ∷ l) h (suc (suc k)) = bytes_of-below l (λ j. h (suc j)) k

pub numbers_of-bytes_of : (l : List ℕ) → numbers_of (bytes_of l) ≡ l
unfolding bytes_of numbers_of
numbers_of-bytes_of [] = refl
numbers_of-bytes_of (x ∷ l) = λ i. div-add-mod' x 256 i ∷ numbers_of-bytes_of l i

-- ---- bytes written over a memory

module _ (memory : List ℕ) (at : ℕ) (bytes : List ℕ) (h : at ≤ length memory) where
  length-head : length (take at memory ++ bytes) ≡ at + length bytes
  length-head = simp (length-append, length-take-le) (omega arith)

  pub take-written : (n : ℕ) → n ≤ at → take n (written memory at bytes) ≡ take n memory
  take-written n k =
      sym (take-take n at (written memory at bytes) k)
      ∙ ap (λ (l : List ℕ). take n (take at l)) (append_assoc (take at memory) bytes (drop (at + length bytes) memory))
      ∙ ap (λ (l : List ℕ). take n l) (take_at (take at memory) (bytes ++ drop (at + length bytes) memory) at (length-take-le at memory h))
      ∙ take-take n at memory k

  pub take-written-all : take (at + length bytes) (written memory at bytes) ≡ take at memory ++ bytes
  take-written-all = take_at (take at memory ++ bytes) (drop (at + length bytes) memory) (at + length bytes) length-head

  pub drop-written : (n : ℕ) → at + length bytes ≤ n → drop n (written memory at bytes) ≡ drop n memory
  drop-written n k =
      let m : ℕ = n - (at + length bytes) in
      let e : n ≡ at + length bytes + m = omega arith in
      ap (λ (j : ℕ). drop j (written memory at bytes)) e
      ∙ sym (drop-drop m (at + length bytes) (written memory at bytes))
      ∙ ap (λ (l : List ℕ). drop m l) (drop_at (take at memory ++ bytes) (drop (at + length bytes) memory) (at + length bytes) length-head)
      ∙ drop-drop m (at + length bytes) memory
      ∙ ap (λ (j : ℕ). drop j memory) (sym e)

  -- what was written
  pub written-part : take (length bytes) (drop at (written memory at bytes)) ≡ bytes
  written-part =
      ap (λ (l : List ℕ). take (length bytes) (drop at l)) (append_assoc (take at memory) bytes (drop (at + length bytes) memory))
      ∙ ap (λ (l : List ℕ). take (length bytes) l) (drop_at (take at memory) (bytes ++ drop (at + length bytes) memory) at (length-take-le at memory h))
      ∙ take_at bytes (drop (at + length bytes) memory) (length bytes) refl

  pub length-written : at + length bytes ≤ length memory → length (written memory at bytes) ≡ length memory
  length-written k = length-append (take at memory ++ bytes) (drop (at + length bytes) memory) ∙ simp (length-head, length-drop) (omega arith)

  -- writing one line after another
  pub written-append :
      (more : List ℕ) → written (written memory at bytes) (at + length bytes) more ≡ written memory at (bytes ++ more)
  written-append more =
      let e : at + length bytes + length more ≡ at + length (bytes ++ more) = simp length-append (omega arith) in
      ap (λ (l : List ℕ). l ++ more ++ drop (at + length bytes + length more) (written memory at bytes)) take-written-all
      ∙ ap (λ (l : List ℕ). take at memory ++ bytes ++ more ++ l) (drop-written (at + length bytes + length more) (omega arith))
      ∙ ap (λ (l : List ℕ). l ++ drop (at + length bytes + length more) memory) (append_assoc (take at memory) bytes more)
      ∙ ap (λ (j : ℕ). take at memory ++ (bytes ++ more) ++ drop j memory) e

pub written-lines :
    (memory : List ℕ) (at : ℕ) (a b : List ℕ) → at ≤ length memory
    → written (written memory at (bytes_of a)) (at + 2 * length a) (bytes_of b) ≡ written memory at (bytes_of (a ++ b))
written-lines memory at a b h =
    let e : at + 2 * length a ≡ at + length (bytes_of a) = omega (arith, length-bytes_of a) in
    ap (λ (j : ℕ). written (written memory at (bytes_of a)) j (bytes_of b)) e
    ∙ written-append memory at (bytes_of a) h (bytes_of b)
    ∙ ap (λ (l : List ℕ). written memory at l) (sym (bytes_of-append a b))

-- a part that was lent and given back is written
pub put_written :
    (at end : ℕ) (memory bytes : List ℕ) → at + length bytes ≡ end
    → put_mid at (end - at) memory bytes ≡ written memory at bytes
put_written at end memory bytes e =
    let n : end - at ≡ length bytes = omega arith in
    ap (λ (j : ℕ). take at memory ++ (bytes ++ drop j (drop at memory))) n
    ∙ ap (λ (l : List ℕ). take at memory ++ (bytes ++ l)) (drop-drop (length bytes) at memory)
    ∙ sym (append_assoc (take at memory) bytes (drop (at + length bytes) memory))

-- two bytes stored before a part
pub put-head :
    (at end x y : ℕ) (memory bytes : List ℕ) → at + 2 + length bytes ≡ end → end ≤ length memory
    → put_mid (at + 2) (end - (at + 2)) (set (set memory at x) (at + 1) y) bytes ≡ written memory at (x ∷ y ∷ bytes)
put-head at end x y memory bytes e h =
    let one : List ℕ = set memory at x in
    let two : List ℕ = set one (at + 1) y in
    let a : at + 2 ≡ suc (at + 1) = omega arith in
    let n : at + 2 + length bytes ≡ at + length (x ∷ y ∷ bytes) = omega arith in
    let p : at + 1 < length one = simp lib.ListN.length-set (omega arith) in
    let t : take (at + 2) two ≡ take at memory ++ (x ∷ y ∷ []) =
    ap (λ (j : ℕ). take j two) a
    ∙ take-suc-set one (at + 1) y p
    ∙ ap (λ (j : ℕ). take j one ++ (y ∷ [])) (add-one at)
    ∙ ap (λ (l : List ℕ). l ++ (y ∷ [])) (take-suc-set memory at x (omega arith))
    ∙ append_assoc (take at memory) (x ∷ []) (y ∷ []) in
    put_written (at + 2) end two bytes e
    ∙ ap (λ (l : List ℕ). l ++ bytes ++ drop (at + 2 + length bytes) two) t
    ∙ ap (λ (l : List ℕ). take at memory ++ (x ∷ y ∷ []) ++ bytes ++ l)
    (drop-set-lt (at + 2 + length bytes) one (at + 1) y (omega arith) ∙ drop-set-lt (at + 2 + length bytes) memory at x (omega arith))
    ∙ ap (λ (l : List ℕ). l ++ drop (at + 2 + length bytes) memory) (append_assoc (take at memory) (x ∷ y ∷ []) bytes)
    ∙ ap (λ (j : ℕ). take at memory ++ (x ∷ y ∷ bytes) ++ drop j memory) n
