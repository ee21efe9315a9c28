-- The text form of a pattern: what a text is made of, its bytes, and when its parts are in order. Text is a list of
-- ASCII codes.
use Rattle.std.specs.Prelude.{◌≡◌, Bool, true, false, ◌&&◌, ℕ, suc, ◌+◌, ◌^◌, ◌≤◌, ◌<◌, eqb, ltb, ℤ, pos, negsuc, get_or}
use mathlib.Core.List.{List, [], ◌∷◌, ◌++◌, map, flat_map, Memᴰ}
use Rattle.patterns.specs.Patterns.{last_attribute, last_operator}
use Rattle.numbers.specs.Decimal.{decimal}

-- ## What a text is made of

-- Rule 11.1: a name in a set line, and whether it is a group variable
pub record Member : Type 0 where
  pub name : ℕ
  pub group : Bool

-- Rule 11.1: an attribute of a named variable
pub record Side : Type 0 where
  pub name : ℕ
  pub attribute : ℕ

-- Rule 11.1: what stands behind the operator
pub data Operand : Type 0 where
  constant : ℤ → Operand
  other : Side → Operand

-- Rule 11.1: a condition
pub record When : Type 0 where
  pub left : Side
  pub operator : ℕ
  pub right : Operand

-- Rule 11.1: the parts of a text, in their order
pub record Making : Type 0 where
  pub sets : List (List Member)
  pub whens : List When
  pub duration : ℕ

-- ## Its bytes

-- Serves rule 11.2
abbrev pub line_feed : ℕ
line_feed = 10

-- Serves rule 11.2
abbrev pub space : ℕ
space = 32

-- Serves rule 11.2
abbrev pub plus : ℕ
plus = 43

-- Serves rule 11.2
abbrev pub minus : ℕ
minus = 45

-- Serves rule 11.2
abbrev pub dot : ℕ
dot = 46

-- Rule 11.2: the first small letter, and how many there are
abbrev pub first_letter : ℕ
first_letter = 97

-- Rule 11.2
abbrev pub letters : ℕ
letters = 26

-- Rule 11.2: `set`
abbrev pub set_word : List ℕ
set_word = 115 ∷ 101 ∷ 116 ∷ []

-- Rule 11.2: `when`
abbrev pub when_word : List ℕ
when_word = 119 ∷ 104 ∷ 101 ∷ 110 ∷ []

-- Rule 11.2: `within`
abbrev pub within_word : List ℕ
within_word = 119 ∷ 105 ∷ 116 ∷ 104 ∷ 105 ∷ 110 ∷ []

-- Rule 11.2: core, type, class, slot, amount, wave: a row for each attribute, by its number
unfoldable pub attribute_words : List (List ℕ)
attribute_words =
    (99 ∷ 111 ∷ 114 ∷ 101 ∷ [])
    ∷ (116 ∷ 121 ∷ 112 ∷ 101 ∷ [])
    ∷ (99 ∷ 108 ∷ 97 ∷ 115 ∷ 115 ∷ [])
    ∷ (115 ∷ 108 ∷ 111 ∷ 116 ∷ [])
    ∷ (97 ∷ 109 ∷ 111 ∷ 117 ∷ 110 ∷ 116 ∷ [])
    ∷ (119 ∷ 97 ∷ 118 ∷ 101 ∷ [])
    ∷ []

-- Rule 11.2: = < <= > >= !=: a row for each operator, by its number
unfoldable pub operator_words : List (List ℕ)
operator_words =
    (61 ∷ [])
    ∷ (60 ∷ [])
    ∷ (60 ∷ 61 ∷ [])
    ∷ (62 ∷ [])
    ∷ (62 ∷ 61 ∷ [])
    ∷ (33 ∷ 61 ∷ [])
    ∷ []

-- Rule 11.2
unfoldable pub attribute_word : ℕ → List ℕ
attribute_word attribute = get_or attribute_words attribute []

-- Rule 11.2
unfoldable pub operator_word : ℕ → List ℕ
operator_word operator = get_or operator_words operator []

-- Rule 11.2: a group variable has a plus behind its name
unfoldable pub member_word : Member → List ℕ
member_word m = m.name ∷ elim m.group [ true ↦ plus ∷ [] | false ↦ [] ]

-- Rule 11.2: name and attribute, with a dot between
unfoldable pub side_word : Side → List ℕ
side_word s = s.name ∷ dot ∷ attribute_word s.attribute

-- Rule 11.2: a whole number: its digits, behind a minus where it is below 0
unfoldable pub integer : ℤ → List ℕ
integer (pos n) = decimal n
integer (negsuc n) = minus ∷ decimal (suc n)

-- Rule 11.2
unfoldable pub operand_word : Operand → List ℕ
operand_word (constant z) = integer z
operand_word (other s) = side_word s

-- Rule 11.2: one space before each word
unfoldable pub spaced : List (List ℕ) → List ℕ
spaced [] = []
spaced (word ∷ words) = space ∷ (word ++ spaced words)

-- Rule 11.2: a line: its first word, the others, and the line feed behind them
unfoldable pub line : List ℕ → List (List ℕ) → List ℕ
line first others = first ++ (spaced others ++ (line_feed ∷ []))

-- Rule 11.2
unfoldable pub set_line : List Member → List ℕ
set_line members = line set_word (map member_word members)

-- Rule 11.2
unfoldable pub when_line : When → List ℕ
when_line w = line when_word (side_word w.left ∷ operator_word w.operator ∷ operand_word w.right ∷ [])

-- Rule 11.2
unfoldable pub within_line : ℕ → List ℕ
within_line duration = line within_word (decimal duration ∷ [])

-- Rule 11.2: the whole text
unfoldable pub text_of : Making → List ℕ
text_of m = flat_map set_line m.sets ++ (flat_map when_line m.whens ++ within_line m.duration)

-- ## When its parts are in order

-- Rule 11.3: the names of a set line
abbrev pub names_of : List Member → List ℕ
names_of members = map (λ (m : Member). m.name) members

-- Rule 11.3: the names of all set lines, in their order
unfoldable pub names : List (List Member) → List ℕ
names sets = flat_map names_of sets

-- Rule 11.3
pub record IsLetter (name : ℕ) : Type 0 where
  pub from : first_letter ≤ name
  pub below : name < first_letter + letters

-- Rule 11.3: each once
unfoldable pub Once : List ℕ → Type 0
Once [] = Unit {0}
Once (x ∷ l) = (¬ Memᴰ x l) × Once l

-- Rule 11.3: a side names a variable and an attribute that there are
pub record SideInOrder (known : List ℕ) (s : Side) : Type 0 where
  pub named : Memᴰ s.name known
  pub small : s.attribute ≤ last_attribute

-- Rule 11.3: whether a constant fits 32 bits beside an attribute: signed beside amount, else unsigned
unfoldable pub in_range : ℕ → ℤ → Bool
in_range attribute (pos n) = elim (eqb attribute 4) [ true ↦ ltb n (2 ^ 31) | false ↦ ltb n (2 ^ 32) ]
in_range attribute (negsuc n) = eqb attribute 4 && ltb n (2 ^ 31)

-- Rule 11.3
unfoldable pub OperandInOrder : List ℕ → ℕ → Operand → Type 0
OperandInOrder known attribute (constant z) = in_range attribute z ≡ true
OperandInOrder known attribute (other s) = SideInOrder known s

-- Rule 11.3
pub record WhenInOrder (known : List ℕ) (w : When) : Type 0 where
  pub left : SideInOrder known w.left
  pub operator : w.operator ≤ last_operator
  pub right : OperandInOrder known w.left.attribute w.right

-- Rule 11.3: a text has one set line or more, none without a name, and the parts of each line are in order
pub record InOrder (m : Making) : Type 0 where
  pub some : ¬ (m.sets ≡ [])
  pub none_empty : (s : List Member) → Memᴰ s m.sets → ¬ (s ≡ [])
  pub small : (x : ℕ) → Memᴰ x (names m.sets) → IsLetter x
  pub once : Once (names m.sets)
  pub conditions : (w : When) → Memᴰ w m.whens → WhenInOrder (names m.sets) w

-- Rule 11.3: the text of m, and m in order
pub record InForm (text : List ℕ) (m : Making) : Type 0 where
  pub bytes : text ≡ text_of m
  pub order : InOrder m
