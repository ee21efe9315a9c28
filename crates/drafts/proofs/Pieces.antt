-- The first name of what is left of a set line. Assumes nothing.
use mathlib.Core.Path.{◌≡◌, ◌∙◌, refl, sym, ap, ap₂}
use mathlib.Core.Bool.{Bool, true, false}
use mathlib.Core.List.{List, [], ◌∷◌, ◌++◌, map}
use Prim.Native.Nat.{ℕ, ◌≤◌, ◌<◌}
use native.Mathlib.Omega.{arith}
use lib.ListN.{length, get_or, drop}
use Rattle.form.specs.Form.{Member, space, plus, member_word, spaced, IsLetter}
use Rattle.drafts.specs.declared.Piece.{Piece}
use Rattle.drafts.specs.Steps.{PieceFound, member_in}

-- ## What stands in front

two : (bytes : List ℕ) → 2 ≤ length bytes → bytes ≡ get_or bytes 0 0 ∷ get_or bytes 1 0 ∷ drop 2 bytes
two [] h = absurd (omega arith)
two (a ∷ []) h = absurd (omega arith)
two (a ∷ b ∷ l) h = refl

three : (bytes : List ℕ) → 3 ≤ length bytes → bytes ≡ get_or bytes 0 0 ∷ get_or bytes 1 0 ∷ get_or bytes 2 0 ∷ drop 3 bytes
three [] h = absurd (omega arith)
three (a ∷ []) h = absurd (omega arith)
three (a ∷ b ∷ []) h = absurd (omega arith)
three (a ∷ b ∷ c ∷ l) h = refl

behind-two : (bytes rest : List ℕ) → drop 2 bytes ≡ plus ∷ rest → (2 < length bytes) × (get_or bytes 2 0 ≡ plus)
behind-two [] rest e = let z : ◌≡◌ {A = ℕ} 0 1 = cc in absurd (omega arith)
behind-two (a ∷ []) rest e = let z : ◌≡◌ {A = ℕ} 0 1 = cc in absurd (omega arith)
behind-two (a ∷ b ∷ []) rest e = let z : ◌≡◌ {A = ℕ} 0 1 = cc in absurd (omega arith)
behind-two (a ∷ b ∷ c ∷ l) rest e = (omega arith, cc)

-- a name and no plus
pub piece-alone :
    (bytes : List ℕ) (name : ℕ) → IsLetter name → 2 ≤ length bytes → get_or bytes 0 0 ≡ space → name ≡ get_or bytes 1 0
    → (2 < length bytes → ¬ (get_or bytes 2 0 ≡ plus))
    → PieceFound bytes (record { size = 2; name = name; group = false })
unfolding member_word
piece-alone bytes name letter h s n p =
    record {
      letter = letter;
      size = refl;
      front = two bytes h ∙ ap₂ (λ (a b : ℕ). a ∷ b ∷ drop 2 bytes) s (sym n);
      alone = λ g rest e. let q = behind-two bytes rest e in p q.0 q.1;
    }

-- a name and a plus
pub piece-group :
    (bytes : List ℕ) (name : ℕ) → IsLetter name → 3 ≤ length bytes → get_or bytes 0 0 ≡ space → name ≡ get_or bytes 1 0
    → get_or bytes 2 0 ≡ plus
    → PieceFound bytes (record { size = 3; name = name; group = true })
unfolding member_word
piece-group bytes name letter h s n p =
    record {
      letter = letter;
      size = refl;
      front =
          three bytes h
          ∙ ap₂ (λ (a b : ℕ). a ∷ b ∷ get_or bytes 2 0 ∷ drop 3 bytes) s (sym n)
          ∙ ap (λ (c : ℕ). space ∷ name ∷ c ∷ drop 3 bytes) p;
      alone = λ g rest e.
          let z : ◌≡◌ {A = Bool} true false = g in let y : ◌≡◌ {A = ℕ} 0 1 = cc in absurd (omega arith);
    }

-- no name where the bytes are few, or no letter stands behind the first of them
pub piece-short :
    (bytes : List ℕ) → length bytes < 2
    → (m : Member) (rest : List ℕ) → IsLetter m.name → ¬ (bytes ≡ space ∷ (member_word m ++ rest))
unfolding member_word
piece-short bytes h m rest letter e = let q = ap length e in absurd (omega arith)

pub piece-other :
    (bytes : List ℕ) → ¬ IsLetter (get_or bytes 1 0)
    → (m : Member) (rest : List ℕ) → IsLetter m.name → ¬ (bytes ≡ space ∷ (member_word m ++ rest))
unfolding member_word
piece-other bytes h m rest letter e = h (rw (ap (λ (l : List ℕ). get_or l 1 0) e) letter)

-- ## The same name

no_plus : (words : List (List ℕ)) (rest : List ℕ) → ¬ (spaced words ≡ plus ∷ rest)
unfolding spaced
no_plus [] rest e = let z : ◌≡◌ {A = ℕ} 0 1 = cc in omega arith
no_plus (w ∷ words) rest e = let z : ◌≡◌ {A = ℕ} 32 43 = cc in omega arith

word_same :
    (words : List (List ℕ)) (after : List ℕ) (n m : ℕ) (g h : Bool)
    → (h ≡ false → (rest : List ℕ) → ¬ (after ≡ plus ∷ rest))
    → member_word (record { name = n; group = g }) ++ spaced words ≡ member_word (record { name = m; group = h }) ++ after
    → (n ≡ m) × (g ≡ h) × (spaced words ≡ after)
unfolding member_word
word_same words after n m true true p e = (cc, refl, cc)
word_same words after n m true false p e =
    let q : after ≡ plus ∷ spaced words = cc in absurd (p refl (spaced words) q)
word_same words after n m false true p e = let q : spaced words ≡ plus ∷ after = cc in absurd (no_plus words after q)
word_same words after n m false false p e = (cc, refl, cc)

-- the first name of a set line's names is the one that is found
pub first-same :
    (bytes : List ℕ) (piece : Piece) (m : Member) (others : List Member)
    → bytes ≡ space ∷ (member_word (member_in piece) ++ drop piece.size bytes)
    → (piece.group ≡ false → (rest : List ℕ) → ¬ (drop piece.size bytes ≡ plus ∷ rest))
    → spaced (map member_word (m ∷ others)) ≡ bytes
    → (m ≡ member_in piece) × (spaced (map member_word others) ≡ drop piece.size bytes)
unfolding spaced
first-same bytes piece m others e p q =
    let s : member_word m ++ spaced (map member_word others) ≡ member_word (member_in piece) ++ drop piece.size bytes = cc in
    let w = word_same (map member_word others) (drop piece.size bytes) m.name piece.name m.group piece.group p s in
    ((λ i. record { name = w.0 i; group = w.1 i }), w.2)
