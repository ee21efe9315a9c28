-- A line that may stand in a text: bytes without a line feed, and one line feed behind them; and one meaning for its
-- bytes. Assumes nothing.
use mathlib.Core.Path.{◌≡◌, refl, sym, ap, ap₂, ◌∙◌, subst}
use mathlib.Core.Logic.{⊎_elim}
use mathlib.Core.Bool.{Bool, true, false, ◌&&◌}
use mathlib.Core.List.{List, [], ◌∷◌, ◌++◌, map, append_assoc, append_cancel_left}
use mathlib.Core.List.{Memᴰ}
use Prim.Native.Nat.{ℕ, zero, suc, ◌+◌, ◌≤◌, ◌<◌}
use native.Mathlib.Omega.{arith}
use borrow.Author.Tests.{eqb-true, ltb-true}
use lib.Dec.{eqb, ltb}
use lib.IntN.{ℤ, pos, negsuc}
use lib.ListN.{get_or}
use Rattle.numbers.specs.Numbers.{every, first, first_from}
use Rattle.numbers.specs.Decimal.{decimal}
use Rattle.numbers.proofs.Cases.{both}
use Rattle.numbers.proofs.Every.{every_true}
use Rattle.numbers.proofs.Value.{decimal_injective, decimal_digit}
use Rattle.patterns.specs.Patterns.{last_attribute, last_operator}
use Rattle.form.specs.Form.{Member, Side, Operand, constant, other, When, line_feed, space, plus, minus, dot}
use Rattle.form.specs.Form.{set_word, when_word, within_word, attribute_words, operator_words}
use Rattle.form.specs.Form.{attribute_word, operator_word, member_word, side_word, integer, operand_word, spaced, line}
use Rattle.form.specs.Form.{set_line, when_line, within_line, names_of, IsLetter, SideInOrder, OperandInOrder}
use Rattle.form.specs.Form.{WhenInOrder}
use Rattle.form.specs.Items.{Item, set_item, when_item, within_item, item_line, State, Next}
use Rattle.form.proofs.Cancel.{Plain, AllPlain, words_same}

-- the names known are letters
abbrev pub Lettered : State → Type 0
Lettered s = (x : ℕ) → Memᴰ x s.known → IsLetter x

-- ## Words have neither space nor line feed

-- a word of bytes above the space
abbrev Inked : List ℕ → Type 0
Inked word = (x : ℕ) → Memᴰ x word → space < x

inked-plain : (word : List ℕ) → Inked word → Plain word
inked-plain word f =
    record { no-space = λ m. let h = f space m in omega arith; no-feed = λ m. let h = f line_feed m in omega arith }

inked-none : Inked []
inked-none x m = absurd (mathlib.Core.List.Memᴰ.not-nil m)

inked-more : (b : ℕ) (word : List ℕ) → space < b → Inked word → Inked (b ∷ word)
inked-more b word h f x m = ⊎_elim (λ (e : x ≡ b). omega arith) (f x) (mathlib.Core.List.Memᴰ.cases_cons m)

-- a test of a word, and of each row of a table
unfoldable pub is_inked : List ℕ → Bool
is_inked [] = true
is_inked (b ∷ word) = ltb space b && is_inked word

unfoldable pub are_inked : List (List ℕ) → Bool
are_inked [] = true
are_inked (word ∷ words) = is_inked word && are_inked words

is-inked : (word : List ℕ) → is_inked word ≡ true → Inked word
unfolding is_inked
is-inked [] e = inked-none
is-inked (b ∷ word) e =
    let h = both (ltb space b) (is_inked word) e in
    inked-more b word (ltb-true space b h.0) (is-inked word h.1)

row-inked : (words : List (List ℕ)) (k : ℕ) → are_inked words ≡ true → Inked (get_or words k [])
unfolding are_inked
row-inked [] k e = inked-none
row-inked (word ∷ words) zero e = is-inked word (both (is_inked word) (are_inked words) e).0
row-inked (word ∷ words) (suc k) e = row-inked words k (both (is_inked word) (are_inked words) e).1

attribute-inked : (k : ℕ) → Inked (attribute_word k)
unfolding attribute_word attribute_words are_inked is_inked
attribute-inked k = row-inked attribute_words k refl

operator-inked : (k : ℕ) → Inked (operator_word k)
unfolding operator_word operator_words are_inked is_inked
operator-inked k = row-inked operator_words k refl

member-inked : (m : Member) → IsLetter m.name → Inked (member_word m)
unfolding member_word
member-inked m h = inked-more m.name _ (let k = h.from in omega arith) (flag m.group)
  where
    flag : (g : Bool) → Inked (elim g [ true ↦ plus ∷ [] | false ↦ [] ])
    flag true = inked-more plus [] (omega arith) inked-none
    flag false = inked-none

side-inked : (s : Side) → IsLetter s.name → Inked (side_word s)
unfolding side_word
side-inked s h =
    inked-more s.name (dot ∷ attribute_word s.attribute) (let k = h.from in omega arith)
    (inked-more dot (attribute_word s.attribute) (omega arith) (attribute-inked s.attribute))

decimal-inked : (n : ℕ) → Inked (decimal n)
decimal-inked n x m = let h = (decimal_digit n x m).0 in omega arith

integer-inked : (z : ℤ) → Inked (integer z)
unfolding integer
integer-inked (pos n) = decimal-inked n
integer-inked (negsuc n) = inked-more minus (decimal (suc n)) (omega arith) (decimal-inked (suc n))

module _ (s : State) (names : Lettered s) where
  side-letter : (k : Side) → SideInOrder s.known k → Inked (side_word k)
  side-letter k o = side-inked k (names k.name o.named)

  operand-inked : (attribute : ℕ) (o : Operand) → OperandInOrder s.known attribute o → Inked (operand_word o)
  unfolding operand_word OperandInOrder
  operand-inked attribute (constant z) o = integer-inked z
  operand-inked attribute (other k) o = side-letter k o

all_one : (a : List ℕ) (l : List (List ℕ)) → Plain a → AllPlain l → AllPlain (a ∷ l)
all_one a l p f word m =
    ⊎_elim (λ (e : word ≡ a). subst (λ (w : List ℕ). Plain w) (sym e) p) (f word) (mathlib.Core.List.Memᴰ.cases_cons m)

all_none : AllPlain []
all_none word m = absurd (mathlib.Core.List.Memᴰ.not-nil m)

pub inked-words : (words : List (List ℕ)) → are_inked words ≡ true → AllPlain words
unfolding are_inked
inked-words [] e = all_none
inked-words (word ∷ words) e =
    let h = both (is_inked word) (are_inked words) e in
    all_one word words (inked-plain word (is-inked word h.0)) (inked-words words h.1)

members_plain : (l : List Member) → ((x : ℕ) → Memᴰ x (names_of l) → IsLetter x) → AllPlain (map member_word l)
members_plain [] f = all_none
members_plain (m ∷ l) f =
    all_one (member_word m) (map member_word l)
    (inked-plain (member_word m) (member-inked m (f m.name (mathlib.Core.List.Memᴰ.head refl))))
    (members_plain l (λ x h. f x (mathlib.Core.List.Memᴰ.tail h)))

-- the words of a line behind its first
unfoldable pub words_of : Item → List (List ℕ)
words_of (set_item members) = map member_word members
words_of (when_item w) = side_word w.left ∷ operator_word w.operator ∷ operand_word w.right ∷ []
words_of (within_item n) = decimal n ∷ []

unfoldable pub first_of : Item → List ℕ
first_of (set_item members) = set_word
first_of (when_item w) = when_word
first_of (within_item n) = within_word

pub line_of : (i : Item) → item_line i ≡ first_of i ++ (spaced (words_of i) ++ (line_feed ∷ []))
unfolding item_line set_line when_line within_line line words_of first_of
line_of (set_item members) = refl
line_of (when_item w) = refl
line_of (within_item n) = refl

pub words-plain : (s : State) (i : Item) → Lettered s → Next s i → AllPlain (words_of i)
unfolding Next words_of
words-plain s (set_item members) h n = members_plain members n.small
words-plain s (when_item w) h n =
    let o = n.1 in
    all_one (side_word w.left) _ (inked-plain _ (side-letter s h w.left o.left))
    (all_one (operator_word w.operator) _ (inked-plain _ (operator-inked w.operator))
    (all_one (operand_word w.right) [] (inked-plain _ (operand-inked s h w.left.attribute w.right o.right))
    all_none))
words-plain s (within_item d) h n = all_one (decimal d) [] (inked-plain _ (decimal-inked d)) all_none

-- ## Up to the line feed

spaced-no-feed : (l : List (List ℕ)) → AllPlain l → ¬ Memᴰ line_feed (spaced l)
unfolding spaced
spaced-no-feed [] f m = mathlib.Core.List.Memᴰ.not-nil m
spaced-no-feed (word ∷ l) f m =
    let r = spaced-no-feed l (λ w h. f w (mathlib.Core.List.Memᴰ.tail h)) in
    ⊎_elim (λ (e : line_feed ≡ space). omega arith)
    (λ (h : Memᴰ line_feed (word ++ spaced l)).
    ⊎_elim (f word (mathlib.Core.List.Memᴰ.head refl)).no-feed r (mathlib.Core.List.Memᴰ.append_cases word h))
    (mathlib.Core.List.Memᴰ.cases_cons m)

first-no-feed : (i : Item) → ¬ Memᴰ line_feed (first_of i)
unfolding first_of is_inked
first-no-feed (set_item members) m = (inked-plain set_word (is-inked set_word refl)).no-feed m
first-no-feed (when_item w) m = (inked-plain when_word (is-inked when_word refl)).no-feed m
first-no-feed (within_item n) m = (inked-plain within_word (is-inked within_word refl)).no-feed m

pub line-shape :
    (s : State) (i : Item) → Lettered s → Next s i
    → (bytes : List ℕ) × (¬ Memᴰ line_feed bytes) × (item_line i ≡ bytes ++ (line_feed ∷ []))
line-shape s i h n =
    let front = first_of i in
    let back = spaced (words_of i) in
    let clear : ¬ Memᴰ line_feed (front ++ back) =
    λ m.
    ⊎_elim (first-no-feed i) (spaced-no-feed (words_of i) (words-plain s i h n)) (mathlib.Core.List.Memᴰ.append_cases front m) in
    (front ++ back, clear, line_of i ∙ sym (append_assoc front back (line_feed ∷ [])))

-- ## Words determine what they stand for

-- rows of a table are told apart by the sum of their first two bytes
abbrev key : List ℕ → ℕ
key word = get_or word 0 0 + get_or word 1 0

row_of : List (List ℕ) → ℕ → List ℕ → ℕ
row_of table n word = first (λ k. eqb (key (get_or table k [])) (key word)) n

rows_apart :
    (table : List (List ℕ)) (n : ℕ) → every (λ k. eqb (row_of table n (get_or table k [])) k) n ≡ true
    → (a b : ℕ) → a < n → b < n → get_or table a [] ≡ get_or table b []
    → a ≡ b
rows_apart table n t a b h k e =
    let test : ℕ → Bool = λ k. eqb (row_of table n (get_or table k [])) k in
    let p = eqb-true (row_of table n (get_or table a [])) a (every_true test n t a h) in
    let q = eqb-true (row_of table n (get_or table b [])) b (every_true test n t b k) in
    sym p ∙ ap (λ (word : List ℕ). row_of table n word) e ∙ q

attribute-same : (a b : ℕ) → a ≤ last_attribute → b ≤ last_attribute → attribute_word a ≡ attribute_word b → a ≡ b
unfolding attribute_word attribute_words every first first_from row_of
attribute-same a b h k e = rows_apart attribute_words 6 refl a b (omega arith) (omega arith) e

operator-same : (a b : ℕ) → a ≤ last_operator → b ≤ last_operator → operator_word a ≡ operator_word b → a ≡ b
unfolding operator_word operator_words every first first_from row_of
operator-same a b h k e = rows_apart operator_words 6 refl a b (omega arith) (omega arith) e

abbrev member_of : ℕ → Bool → Member
member_of name group = record { name = name; group = group }

group-same :
    (a b : Bool)
    → ◌≡◌ {A = List ℕ} (elim a [ true ↦ plus ∷ [] | false ↦ [] ]) (elim b [ true ↦ plus ∷ [] | false ↦ [] ])
    → a ≡ b
group-same true true e = refl
group-same true false e = let z : ◌≡◌ {A = ℕ} 0 1 = cc in absurd (omega arith)
group-same false true e = let z : ◌≡◌ {A = ℕ} 0 1 = cc in absurd (omega arith)
group-same false false e = refl

member-same : (a b : Member) → member_word a ≡ member_word b → a ≡ b
unfolding member_word
member-same a b e =
    let n : a.name ≡ b.name = cc in
    ap₂ member_of n (group-same a.group b.group (cc))

members-same : (a b : List Member) → map member_word a ≡ map member_word b → a ≡ b
members-same [] [] e = refl
members-same [] (m ∷ b) e = let z : ◌≡◌ {A = ℕ} 0 1 = cc in absurd (omega arith)
members-same (m ∷ a) [] e = let z : ◌≡◌ {A = ℕ} 0 1 = cc in absurd (omega arith)
members-same (m ∷ a) (k ∷ b) e =
    let p = member-same m k (cc) in
    let q = members-same a b (cc) in
    cc

abbrev side_of : ℕ → ℕ → Side
side_of name attribute = record { name = name; attribute = attribute }

side_same : (a b : Side) → a.attribute ≤ last_attribute → b.attribute ≤ last_attribute → side_word a ≡ side_word b → a ≡ b
unfolding side_word
side_same a b h k e =
    let n : a.name ≡ b.name = cc in
    ap₂ side_of n (attribute-same a.attribute b.attribute h k (cc))

-- a number has no dot
integer-no-dot : (z : ℤ) → ¬ Memᴰ dot (integer z)
unfolding integer
integer-no-dot (pos n) m = let h = (decimal_digit n dot m).0 in omega arith
integer-no-dot (negsuc n) m =
    ⊎_elim (λ (e : dot ≡ minus). omega arith)
    (λ (k : Memᴰ dot (decimal (suc n))). let h = (decimal_digit (suc n) dot k).0 in omega arith)
    (mathlib.Core.List.Memᴰ.cases_cons m)

side-dot : (s : Side) → Memᴰ dot (side_word s)
unfolding side_word
side-dot s = mathlib.Core.List.Memᴰ.tail (mathlib.Core.List.Memᴰ.head refl)

integer-side : (z : ℤ) (s : Side) → integer z ≡ side_word s → ⊥
integer-side z s e = integer-no-dot z (subst (λ (l : List ℕ). Memᴰ dot l) (sym e) (side-dot s))

-- no digit is a minus
decimal-no-minus : (n : ℕ) (l : List ℕ) → decimal n ≡ minus ∷ l → ⊥
decimal-no-minus n l e =
    let m : Memᴰ minus (decimal n) = rw e (mathlib.Core.List.Memᴰ.head refl) in
    let h = (decimal_digit n minus m).0 in
    omega arith

integer-same : (a b : ℤ) → integer a ≡ integer b → a ≡ b
unfolding integer
integer-same (pos a) (pos b) e = ap pos (decimal_injective a b e)
integer-same (pos a) (negsuc b) e = absurd (decimal-no-minus a (decimal (suc b)) e)
integer-same (negsuc a) (pos b) e = absurd (decimal-no-minus b (decimal (suc a)) (sym e))
integer-same (negsuc a) (negsuc b) e =
    let p = decimal_injective (suc a) (suc b) (cc) in
    let q : a ≡ b = omega arith in
    ap negsuc q

operand_same :
    (k l : List ℕ) (x y : ℕ) (a b : Operand) → OperandInOrder k x a → OperandInOrder l y b
    → operand_word a ≡ operand_word b
    → a ≡ b
unfolding OperandInOrder operand_word
operand_same k l x y (constant a) (constant b) p q e = ap constant (integer-same a b e)
operand_same k l x y (constant a) (other b) p q e = absurd (integer-side a b e)
operand_same k l x y (other a) (constant b) p q e = absurd (integer-side b a (sym e))
operand_same k l x y (other a) (other b) p q e = ap other (side_same a b p.small q.small e)

abbrev when_of : Side → ℕ → Operand → When
when_of left operator right = record { left = left; operator = operator; right = right }

when-same :
    (k l : List ℕ) (a b : When) → WhenInOrder k a → WhenInOrder l b → words_of (when_item a) ≡ words_of (when_item b)
    → a ≡ b
unfolding words_of
when-same k l a b p q e =
    let left = side_same a.left b.left p.left.small q.left.small (cc) in
    let operator = operator-same a.operator b.operator p.operator q.operator (cc) in
    let right =
    operand_same k l a.left.attribute b.left.attribute a.right b.right p.right q.right (cc) in
    ap₂ (λ (s : Side) (o : ℕ). when_of s o a.right) left operator
    ∙ ap (λ (r : Operand). when_of b.left b.operator r) right

within_same : (a b : ℕ) → words_of (within_item a) ≡ words_of (within_item b) → a ≡ b
unfolding words_of
within_same a b e = decimal_injective a b (cc)

-- ## Lines with the same bytes are the same

module _ (s t : State) (f : Lettered s) (g : Lettered t) where
  words-of-same :
      (i j : Item) → Next s i → Next t j → first_of i ≡ first_of j → item_line i ≡ item_line j → words_of i ≡ words_of j
  words-of-same i j n k q e =
      let a = spaced (words_of i) ++ (line_feed ∷ []) in
      let b = spaced (words_of j) ++ (line_feed ∷ []) in
      let h : first_of i ++ a ≡ first_of i ++ b =
      sym (line_of i) ∙ e ∙ line_of j ∙ ap (λ (l : List ℕ). l ++ b) (sym q) in
      (words_same (words_of i) (words_of j) [] [] (words-plain s i f n) (words-plain t j g k)
      (append_cancel_left (first_of i) a b h)
      ).0

  pub line_same : (i j : Item) → Next s i → Next t j → item_line i ≡ item_line j → i ≡ j
  unfolding first_of
  line_same (set_item a) (set_item b) n k e =
      ap set_item (members-same a b (unfold words_of in words-of-same (set_item a) (set_item b) n k refl e))
  line_same (set_item a) (when_item b) n k e =
      let h = sym (line_of (set_item a)) ∙ e ∙ line_of (when_item b) in
      let z : ◌≡◌ {A = ℕ} 115 119 = cc in
      absurd (omega arith)
  line_same (set_item a) (within_item b) n k e =
      let h = sym (line_of (set_item a)) ∙ e ∙ line_of (within_item b) in
      let z : ◌≡◌ {A = ℕ} 115 119 = cc in
      absurd (omega arith)
  line_same (when_item a) (set_item b) n k e =
      let h = sym (line_of (when_item a)) ∙ e ∙ line_of (set_item b) in
      let z : ◌≡◌ {A = ℕ} 119 115 = cc in
      absurd (omega arith)
  line_same (when_item a) (when_item b) n k e =
      ap when_item
      (unfold Next in
      when-same s.known t.known a b n.1 k.1 (words-of-same (when_item a) (when_item b) n k refl e))
  line_same (when_item a) (within_item b) n k e =
      let h = sym (line_of (when_item a)) ∙ e ∙ line_of (within_item b) in
      let z : ◌≡◌ {A = ℕ} 104 105 = cc in
      absurd (omega arith)
  line_same (within_item a) (set_item b) n k e =
      let h = sym (line_of (within_item a)) ∙ e ∙ line_of (set_item b) in
      let z : ◌≡◌ {A = ℕ} 119 115 = cc in
      absurd (omega arith)
  line_same (within_item a) (when_item b) n k e =
      let h = sym (line_of (within_item a)) ∙ e ∙ line_of (when_item b) in
      let z : ◌≡◌ {A = ℕ} 105 104 = cc in
      absurd (omega arith)
  line_same (within_item a) (within_item b) n k e =
      ap within_item (within_same a b (words-of-same (within_item a) (within_item b) n k refl e))
