-- Name and attribute with a dot between, as a word. Assumes nothing.
use mathlib.Core.Path.{◌≡◌, refl, sym, ap, ◌∙◌}
use mathlib.Core.List.{List, [], ◌∷◌}
use Prim.Native.Nat.{ℕ, ◌-◌, ◌≤◌, ◌<◌}
use native.Mathlib.Omega.{arith}
use borrow.Author.Rules.{part_to_end}
use lib.ListN.{length, get_or, take, drop}
use Rattle.form.specs.Form.{Side, side_word, attribute_word, attribute_words, IsLetter}
use Rattle.words.specs.Words.{SideKnown, SideFound, place_in}

-- how many attributes there are
rows-of-attributes : length attribute_words ≡ 6
unfolding attribute_words
rows-of-attributes = refl

side-length : (s : Side) → 2 ≤ length (side_word s)
unfolding side_word
side-length s = omega arith

side-name : (s : Side) → get_or (side_word s) 0 0 ≡ s.name
unfolding side_word
side-name s = refl

side-dot : (s : Side) → get_or (side_word s) 1 0 ≡ 46
unfolding side_word
side-dot s = refl

side-attribute : (s : Side) → drop 2 (side_word s) ≡ get_or attribute_words s.attribute []
unfolding side_word attribute_word
side-attribute s = refl

-- a word of name, dot and attribute
side-of : (word : List ℕ) (attribute : ℕ) → 2 ≤ length word → get_or word 1 0 ≡ 46
    → get_or attribute_words attribute [] ≡ drop 2 word
    → side_word (record { name = get_or word 0 0; attribute = attribute }) ≡ word
unfolding side_word attribute_word
side-of [] k h d e = absurd (omega arith)
side-of (x ∷ []) k h d e = absurd (omega arith)
side-of (x ∷ (y ∷ l)) k h d e = rw (e, d)

module _ (places word : List ℕ) where
  pub side-short : length word < 2 → (s : Side) → SideKnown places s → ¬ (side_word s ≡ word)
  side-short h s k i = let p = side-length s in let q : length (side_word s) ≡ length word = ap length i in omega arith

  pub side-no-dot : ¬ (get_or word 1 0 ≡ 46) → (s : Side) → SideKnown places s → ¬ (side_word s ≡ word)
  side-no-dot f s k i = f (sym (ap (λ (l : List ℕ). get_or l 1 0) i) ∙ side-dot s)

  pub side-no-place :
      (IsLetter (get_or word 0 0) → place_in places (get_or word 0 0) ≡ 0)
      → (s : Side) → SideKnown places s → ¬ (side_word s ≡ word)
  side-no-place f s k i =
      let n : get_or word 0 0 ≡ s.name = sym (ap (λ (l : List ℕ). get_or l 0 0) i) ∙ side-name s in
      let u = k.known in
      let q : place_in places s.name ≡ 0 = (rw n at f) k.letter in
      omega arith

  pub side-no-attribute :
      ((a : ℕ) → a < length attribute_words → ¬ (get_or attribute_words a [] ≡ take (length word - 2) (drop 2 word)))
      → (s : Side) → SideKnown places s → ¬ (side_word s ≡ word)
  side-no-attribute f s k i =
      let u = k.small in
      let m = rows-of-attributes in
      f s.attribute (omega arith)
      (sym (side-attribute s) ∙ ap (λ (l : List ℕ). drop 2 l) i ∙ sym (part_to_end word 2))

  pub side-found :
      (place attribute : ℕ) → 2 ≤ length word → get_or word 1 0 ≡ 46
      → IsLetter (get_or word 0 0) × (0 < place) × (place ≡ place_in places (get_or word 0 0))
      → (attribute < length attribute_words)
      × (get_or attribute_words attribute [] ≡ take (length word - 2) (drop 2 word))
      → SideFound places word (record { place = place; attribute = attribute })
  side-found place attribute h d p a =
      let m = rows-of-attributes in
      record {
        side = record { name = get_or word 0 0; attribute = attribute };
        known = record { letter = p.0; known = omega (arith, p.1, p.2); small = omega arith };
        bytes = side-of word attribute h d (a.1 ∙ part_to_end word 2);
        place = p.2;
        attribute = refl;
      }
