-- Words put behind one another. Assumes nothing.
use mathlib.Core.Path.{◌≡◌, ◌∙◌, refl, sym, ap, subst}
use mathlib.Core.List.{List, [], ◌∷◌, ◌++◌, flat_map, append-nil}
use Prim.Native.Nat.{ℕ, ◌+◌, ◌-◌, ◌≤◌, ◌<◌}
use native.Mathlib.Numerals.{add-one}
use native.Mathlib.Omega.{arith}
use lib.ListN.{length, take, drop, get_or, length-append, length-drop}
use lib.Seq.{take-suc, take_at, length-take-le}
use Rattle.numbers.specs.Numbers.{written}
use Rattle.numbers.specs.Bytes.{word_bytes}
use Rattle.numbers.specs.Put.{Put}
use Rattle.numbers.proofs.Put.{put_then}
use Rattle.form.proofs.Making.{flat_append}
use Rattle.numbers.proofs.WordBytes.{word-length}

pub put_written :
    (memory : List ℕ) (at : ℕ) (bytes : List ℕ) → at + length bytes ≤ length memory
    → Put memory (written memory at bytes) at bytes (at + length bytes)
put_written memory at bytes h =
    let front : length (take at memory ++ bytes) ≡ at + length bytes =
    length-append (take at memory) bytes ∙ ap (λ (n : ℕ). n + length bytes) (length-take-le at memory (omega arith))
    in
    record {
      wrote = take_at (take at memory ++ bytes) (drop (at + length bytes) memory) (at + length bytes) front;
      ends = refl;
      kept =
          length-append (take at memory ++ bytes) (drop (at + length bytes) memory)
          ∙ whole (length (take at memory ++ bytes)) (length (drop (at + length bytes) memory)) front (length-drop (at + length bytes) memory);
    }
  where
    whole : (x y : ℕ) → x ≡ at + length bytes → y ≡ length memory - (at + length bytes) → x + y ≡ length memory
    whole x y e f = omega arith

-- one word more of a list
pub flat-more :
    (l : List ℕ) (i : ℕ) → i < length l
    → flat_map word_bytes (take (i + 1) l) ≡ flat_map word_bytes (take i l) ++ word_bytes (get_or l i 0)
unfolding flat_map
flat-more l i h =
    ap (λ (j : ℕ). flat_map word_bytes (take j l)) (add-one i)
    ∙ ap (flat_map word_bytes) (take-suc l i 0 h)
    ∙ flat_append word_bytes (take i l) (get_or l i 0 ∷ [])
    ∙ ap (λ (r : List ℕ). flat_map word_bytes (take i l) ++ r) (append-nil (word_bytes (get_or l i 0)))

-- a turn of the loop that puts words
pub words-turn :
    (start memory stored l : List ℕ) (at end i : ℕ) → i < length l → end + 8 ≤ length memory
    → stored ≡ written memory end (word_bytes (get_or l i 0))
    → Put start memory at (flat_map word_bytes (take i l)) end
    → Put start stored at (flat_map word_bytes (take (i + 1) l)) (end + 8)
words-turn start memory stored l at end i h room e p =
    let word = word_bytes (get_or l i 0) in
    let size : length word ≡ 8 = word-length (get_or l i 0) in
    let q : Put memory (written memory end word) end word (end + length word) = put_written memory end word (omega arith) in
    subst (λ (t : List ℕ). Put start t at (flat_map word_bytes (take (i + 1) l)) (end + 8)) (sym e)
    (subst (λ (x : List ℕ). Put start (written memory end word) at x (end + 8)) (sym (flat-more l i h))
    (subst (λ (n : ℕ). Put start (written memory end word) at (flat_map word_bytes (take i l) ++ word) (end + n)) size (put_then p q)))
