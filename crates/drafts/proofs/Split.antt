-- Words up to the first space: a condition's words have none in them, so the bytes say where each ends.
-- Assumes nothing.
use mathlib.Core.Path.{◌≡◌, ◌∙◌, refl, sym, ap}
use mathlib.Core.Bool.{Bool, true, false, ◌&&◌}
use mathlib.Core.Logic.{⊎_elim}
use mathlib.Core.List.Memᴰ
use mathlib.Core.List.{List, [], ◌∷◌, ◌++◌, Memᴰ}
use Prim.Native.Nat.{ℕ, zero, suc, ◌+◌, ◌-◌, ◌≤◌, ◌<◌}
use native.Mathlib.Numerals.{add-one}
use native.Mathlib.Omega.{arith}
use borrow.Author.Tests.{ltb-true}
use lib.Dec.{eqb, ltb}
use lib.ListN.{length, get_or, take, drop, length-append, length-drop}
use lib.Seq.{split_at, take_all, get_or-append_seam}
use Rattle.numbers.proofs.Cases.{both}
use Rattle.patterns.specs.Patterns.{last_attribute}
use Rattle.form.specs.Form.{Side, space, attribute_words, operator_words, attribute_word, operator_word, side_word, IsLetter}
use Rattle.form.proofs.Cancel.{cut-same}
use Rattle.drafts.specs.Steps.{Spaced}

-- ## Words with no space

-- every byte of a word is above the space
inked : List ℕ → Bool
inked [] = true
inked (b ∷ word) = ltb space b && inked word

all_inked : List (List ℕ) → Bool
all_inked [] = true
all_inked (word ∷ rows) = inked word && all_inked rows

inked-clear : (word : List ℕ) → inked word ≡ true → ¬ Memᴰ space word
unfolding inked
inked-clear [] e m = Memᴰ.not-nil m
inked-clear (b ∷ word) e m =
    let h = both (ltb space b) (inked word) e in
    let r = inked-clear word h.1 in
    ⊎_elim (λ q. let k = ltb-true space b h.0 in omega arith) (λ n. r n) (Memᴰ.cases_cons m)

row-clear : (rows : List (List ℕ)) (k : ℕ) → all_inked rows ≡ true → ¬ Memᴰ space (get_or rows k [])
unfolding all_inked
row-clear [] k e m = Memᴰ.not-nil m
row-clear (word ∷ rows) zero e m = inked-clear word (both (inked word) (all_inked rows) e).0 m
row-clear (word ∷ rows) (suc k) e m = row-clear rows k (both (inked word) (all_inked rows) e).1 m

pub operator-clear : (operator : ℕ) → ¬ Memᴰ space (operator_word operator)
unfolding operator_word operator_words inked all_inked
operator-clear operator = row-clear operator_words operator refl

attribute-clear : (attribute : ℕ) → ¬ Memᴰ space (attribute_word attribute)
unfolding attribute_word attribute_words inked all_inked
attribute-clear attribute = row-clear attribute_words attribute refl

pub side-clear : (s : Side) → IsLetter s.name → ¬ Memᴰ space (side_word s)
unfolding side_word
side-clear s h m =
    ⊎_elim (λ q. omega arith)
    (λ n. ⊎_elim (λ q. omega arith) (λ o. attribute-clear s.attribute o) (Memᴰ.cases_cons n))
    (Memᴰ.cases_cons m)

-- ## The attribute that a word names

attribute_in : List ℕ → ℕ
attribute_in word =
    elim (eqb (get_or word 0 0) 116) [
      | true ↦ 1
      | false ↦ elim (eqb (get_or word 0 0) 115) [
        | true ↦ 3
        | false ↦ elim (eqb (get_or word 0 0) 97) [
          | true ↦ 4
          | false ↦ elim (eqb (get_or word 0 0) 119) [
            | true ↦ 5
            | false ↦ elim (eqb (get_or word 1 0) 108) [ true ↦ 2 | false ↦ 0 ]
          ]
        ]
      ]
    ]

attribute-in : (a : ℕ) → a ≤ last_attribute → attribute_in (attribute_word a) ≡ a
unfolding attribute_in attribute_word attribute_words
attribute-in zero h = refl
attribute-in (suc zero) h = refl
attribute-in (suc (suc zero)) h = refl
attribute-in (suc (suc (suc zero))) h = refl
attribute-in (suc (suc (suc (suc zero)))) h = refl
attribute-in (suc (suc (suc (suc (suc zero))))) h = refl
attribute-in (suc (suc (suc (suc (suc (suc a)))))) h = absurd (omega arith)

pub side-attribute :
    (s t : Side) → s.attribute ≤ last_attribute → t.attribute ≤ last_attribute → side_word s ≡ side_word t
    → s.attribute ≡ t.attribute
unfolding side_word
side-attribute s t h k e =
    let q : attribute_word s.attribute ≡ attribute_word t.attribute = cc in
    sym (attribute-in s.attribute h) ∙ ap attribute_in q ∙ attribute-in t.attribute k

-- ## The first space

clear-part :
    (bytes : List ℕ) (place : ℕ) → ((k : ℕ) → k < place → ¬ (get_or bytes k 0 ≡ space))
    → ¬ Memᴰ space (take place bytes)
clear-part bytes zero f m = Memᴰ.not-nil m
clear-part [] (suc place) f m = Memᴰ.not-nil m
clear-part (b ∷ bytes) (suc place) f m =
    let r = clear-part bytes place (λ k h. f (suc k) (omega arith)) in
    ⊎_elim (λ e. f 0 (omega arith) (sym e)) (λ n. r n) (Memᴰ.cases_cons m)

pub joined :
    (bytes : List ℕ) (place : ℕ) → Spaced bytes place → bytes ≡ take place bytes ++ (space ∷ drop (place + 1) bytes)
joined bytes place w =
    split_at bytes place 0 w.inside
    ∙ ap (λ (b : ℕ). take place bytes ++ (b ∷ drop (suc place) bytes)) w.here
    ∙ ap (λ (k : ℕ). take place bytes ++ (space ∷ drop k bytes)) (sym (add-one place))

pub cut_at :
    (bytes : List ℕ) (place : ℕ) (word rest : List ℕ) → Spaced bytes place → ¬ Memᴰ space word
    → word ++ (space ∷ rest) ≡ bytes
    → (word ≡ take place bytes) × (rest ≡ drop (place + 1) bytes)
cut_at bytes place word rest w c e =
    cut-same space word (take place bytes) rest (drop (place + 1) bytes) c (clear-part bytes place w.clear)
    (e ∙ joined bytes place w)

-- no space, no word before one
pub uncut :
    (bytes word rest : List ℕ) → ((k : ℕ) → k < length bytes → get_or bytes k 0 ≡ space → ⊥)
    → ¬ (word ++ (space ∷ rest) ≡ bytes)
uncut bytes word rest clear e =
    let l = length-append word (space ∷ rest) in
    let s = ap length e in
    clear (length word) (omega arith)
    (ap (λ (t : List ℕ). get_or t (length word) 0) (sym e) ∙ get_or-append_seam word space rest 0)

-- what stands behind a place, as a part
pub behind-part : (bytes : List ℕ) (at : ℕ) → take (length bytes - at) (drop at bytes) ≡ drop at bytes
behind-part bytes at = take_all (length bytes - at) (drop at bytes) (omega (arith, length-drop at bytes))
