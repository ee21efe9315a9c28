-- A line by its first word: what its other bytes decide. Assumes nothing.
use mathlib.Core.Path.{◌≡◌, ◌∙◌, sym, ap, subst}
use mathlib.Core.List.{List, [], ◌∷◌, ◌++◌, map, append_assoc, append-nil, append_cancel_left, append_cancel_right}
use Prim.Native.Nat.{ℕ}
use native.Mathlib.Omega.{arith}
use Rattle.std.specs.Prelude.{Option}
use Rattle.numbers.specs.Decimal.{decimal}
use Rattle.form.specs.Form.{Member, When, line_feed, space, set_word, when_word, within_word, member_word}
use Rattle.form.specs.Form.{operand_word, spaced, line, set_line, when_line, within_line, WhenInOrder}
use Rattle.form.specs.Items.{Item, set_item, when_item, within_item, item_line, State, start, SetNext, Named, Next, end}
use Rattle.drafts.specs.declared.Draft.{Draft}
use Rattle.drafts.specs.Drafts.{DraftOf, ItemRead, LineRead}
use Rattle.drafts.specs.Steps.{condition_words}

-- ## The bytes of each line

set-bytes : (members : List Member) → set_line members ≡ (set_word ++ spaced (map member_word members)) ++ (line_feed ∷ [])
unfolding set_line line
set-bytes members = sym (append_assoc set_word (spaced (map member_word members)) (line_feed ∷ []))

when-bytes : (w : When) → when_line w ≡ (when_word ++ (space ∷ condition_words w)) ++ (line_feed ∷ [])
unfolding when_line line spaced
when-bytes w = rw (append-nil (operand_word w.right))

within-bytes : (n : ℕ) → within_line n ≡ (within_word ++ (space ∷ decimal n)) ++ (line_feed ∷ [])
unfolding within_line line spaced
within-bytes n = rw (append-nil (decimal n))

-- bytes in front of the line feed, behind a first word
cut :
    (word a b whole : List ℕ) → whole ≡ (word ++ a) ++ (line_feed ∷ []) → whole ≡ (word ++ b) ++ (line_feed ∷ []) → a ≡ b
cut word a b whole e f =
    append_cancel_left word a b (append_cancel_right (word ++ a) (word ++ b) (line_feed ∷ []) (sym e ∙ f))

-- no line of one kind is one of another
not-set-when : (w : When) (rest : List ℕ) → ¬ (when_line w ≡ (set_word ++ rest) ++ (line_feed ∷ []))
unfolding when_line line
not-set-when w rest e = let z : ◌≡◌ {A = ℕ} 119 115 = cc in omega arith

not-set-within : (n : ℕ) (rest : List ℕ) → ¬ (within_line n ≡ (set_word ++ rest) ++ (line_feed ∷ []))
unfolding within_line line
not-set-within n rest e = let z : ◌≡◌ {A = ℕ} 119 115 = cc in omega arith

not-when-set : (members : List Member) (rest : List ℕ) → ¬ (set_line members ≡ (when_word ++ rest) ++ (line_feed ∷ []))
unfolding set_line line
not-when-set members rest e = let z : ◌≡◌ {A = ℕ} 115 119 = cc in omega arith

not-when-within : (n : ℕ) (rest : List ℕ) → ¬ (within_line n ≡ (when_word ++ rest) ++ (line_feed ∷ []))
unfolding within_line line
not-when-within n rest e = let z : ◌≡◌ {A = ℕ} 105 104 = cc in omega arith

not-within-set : (members : List Member) (rest : List ℕ) → ¬ (set_line members ≡ (within_word ++ rest) ++ (line_feed ∷ []))
unfolding set_line line
not-within-set members rest e = let z : ◌≡◌ {A = ℕ} 115 119 = cc in omega arith

not-within-when : (w : When) (rest : List ℕ) → ¬ (when_line w ≡ (within_word ++ rest) ++ (line_feed ∷ []))
unfolding when_line line
not-within-when w rest e = let z : ◌≡◌ {A = ℕ} 104 105 = cc in omega arith

-- ## Lines that are none

pub set-none :
    (s : State) (rest : List ℕ)
    → ((members : List Member) → SetNext s members → ¬ (spaced (map member_word members) ≡ rest))
    → (i : Item) → Next s i → ¬ (item_line i ≡ (set_word ++ rest) ++ (line_feed ∷ []))
unfolding Next item_line
set-none s rest none (set_item members) n e =
    none members n (cut set_word (spaced (map member_word members)) rest (set_line members) (set-bytes members) e)
set-none s rest none (when_item w) n e = not-set-when w rest e
set-none s rest none (within_item d) n e = not-set-within d rest e

pub when-none :
    (s : State) (rest : List ℕ)
    → ((w : When) → Named s → WhenInOrder s.known w → ¬ (condition_words w ≡ rest))
    → (i : Item) → Next s i → ¬ (item_line i ≡ (when_word ++ (space ∷ rest)) ++ (line_feed ∷ []))
unfolding Next item_line
when-none s rest none (set_item members) n e = not-when-set members (space ∷ rest) e
when-none s rest none (when_item w) n e =
    let q = cut when_word (space ∷ condition_words w) (space ∷ rest) (when_line w) (when-bytes w) e in
    none w n.0 n.1 (append_cancel_left (space ∷ []) (condition_words w) rest q)
when-none s rest none (within_item d) n e = not-when-within d (space ∷ rest) e

pub within_none :
    (s : State) (rest : List ℕ) → ((d : ℕ) → Named s → ¬ (decimal d ≡ rest))
    → (i : Item) → Next s i → ¬ (item_line i ≡ (within_word ++ (space ∷ rest)) ++ (line_feed ∷ []))
unfolding Next item_line
within_none s rest none (set_item members) n e = not-within-set members (space ∷ rest) e
within_none s rest none (when_item w) n e = not-within-when w (space ∷ rest) e
within_none s rest none (within_item d) n e =
    let q = cut within_word (space ∷ decimal d) (space ∷ rest) (within_line d) (within-bytes d) e in
    none d n (append_cancel_left (space ∷ []) (decimal d) rest q)

-- no first word in front of the bytes
pub outside :
    (s : State) (bytes : List ℕ) → ((rest : List ℕ) → ¬ (bytes ≡ set_word ++ rest))
    → ((rest : List ℕ) → ¬ (bytes ≡ (when_word ++ (space ∷ [])) ++ rest))
    → ((rest : List ℕ) → ¬ (bytes ≡ (within_word ++ (space ∷ [])) ++ rest))
    → (i : Item) → Next s i → ¬ (item_line i ≡ bytes ++ (line_feed ∷ []))
unfolding Next item_line
outside s bytes a b c (set_item members) n e =
    let whole = set_word ++ spaced (map member_word members) in
    a (spaced (map member_word members)) (append_cancel_right bytes whole (line_feed ∷ []) (sym e ∙ set-bytes members))
outside s bytes a b c (when_item w) n e =
    let whole = when_word ++ (space ∷ condition_words w) in
    b (condition_words w) (append_cancel_right bytes whole (line_feed ∷ []) (sym e ∙ when-bytes w))
outside s bytes a b c (within_item d) n e =
    let whole = within_word ++ (space ∷ decimal d) in
    c (decimal d) (append_cancel_right bytes whole (line_feed ∷ []) (sym e ∙ within-bytes d))

-- ## What is read

module _ (l : List Item) (rest : List ℕ) (r : Draft) where
  pub set-good :
      (members : List Member) → SetNext (end start l) members → spaced (map member_word members) ≡ rest
      → DraftOf (l ++ (set_item members ∷ [])) r
      → ItemRead l (set_word ++ rest) r
  unfolding Next item_line
  set-good members n e d =
      record {
        item = set_item members;
        next = n;
        read = set-bytes members ∙ ap (λ (t : List ℕ). (set_word ++ t) ++ (line_feed ∷ [])) e;
        told = d;
      }

  pub when-good :
      (w : When) → Named (end start l) → WhenInOrder (end start l).known w → condition_words w ≡ rest
      → DraftOf (l ++ (when_item w ∷ [])) r
      → ItemRead l (when_word ++ (space ∷ rest)) r
  unfolding Next item_line
  when-good w n o e d =
      record {
        item = when_item w;
        next = (n, o);
        read = when-bytes w ∙ ap (λ (t : List ℕ). (when_word ++ (space ∷ t)) ++ (line_feed ∷ [])) e;
        told = d;
      }

  pub within-good :
      (d : ℕ) → Named (end start l) → decimal d ≡ rest → DraftOf (l ++ (within_item d ∷ [])) r
      → ItemRead l (within_word ++ (space ∷ rest)) r
  unfolding Next item_line
  within-good d n e h =
      record {
        item = within_item d;
        next = n;
        read = within-bytes d ∙ ap (λ (t : List ℕ). (within_word ++ (space ∷ t)) ++ (line_feed ∷ [])) e;
        told = h;
      }

-- a line by its bytes behind the first word
pub line-behind :
    (l : List Item) (bytes whole : List ℕ) (r : Option Draft) → whole ≡ bytes → LineRead l bytes r → LineRead l whole r
line-behind l bytes whole r e h = subst (λ (b : List ℕ). LineRead l b r) (sym e) h
