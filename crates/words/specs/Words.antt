-- What a word of a text can be read as.
use Rattle.std.specs.Prelude.{◌≡◌, true, List, [], ℕ, suc, ◌-◌, ◌^◌, ◌≤◌, ◌<◌, min, ℤ, negsuc, length, get_or, Option, Some, None}
use Rattle.numbers.specs.Decimal.{decimal}
use Rattle.patterns.specs.Patterns.{last_attribute}
use Rattle.form.specs.Form.{Side, first_letter, side_word, integer, IsLetter, in_range}
use Rattle.form.specs.Packed.{bits_of}
use Rattle.words.specs.declared.Sided.{Sided}

-- the row of a table that the word is, if it is one
abbrev pub RowOf : List (List ℕ) → List ℕ → Option ℕ → Type 0
RowOf rows word (Some row) = (row < length rows) × (get_or rows row [] ≡ word)
RowOf rows word None = (k : ℕ) → k < length rows → ¬ (get_or rows k [] ≡ word)

-- from here on a number is too large for every field of a pattern
abbrev pub large : ℕ
large = 2 ^ 40

-- the word is a number, whose value is v unless it is large
pub record Counts (word : List ℕ) (v : ℕ) : Type 0 where
  pub number : ℕ
  pub digits : decimal number ≡ word
  pub small : v ≡ min number large

-- the number that the word is, if it is one; a large one is not told from others
abbrev pub NaturalOf : List ℕ → Option ℕ → Type 0
NaturalOf word (Some v) = Counts word v
NaturalOf word None = (n : ℕ) → ¬ (decimal n ≡ word)

-- the word is a constant beside the attribute, of these bits
pub record ConstantRead (attribute : ℕ) (word : List ℕ) (bits : ℕ) : Type 0 where
  pub value : ℤ
  pub digits : integer value ≡ word
  pub range : in_range attribute value ≡ true
  pub packed : bits ≡ bits_of value

-- the constant beside an attribute that the word is, if it is one
abbrev pub ConstantOf : ℕ → List ℕ → Option ℕ → Type 0
ConstantOf attribute word (Some bits) = ConstantRead attribute word bits
ConstantOf attribute word None = (z : ℤ) → in_range attribute z ≡ true → ¬ (integer z ≡ word)

-- the place of a name in a table of places by letters, 0 where it is no name
abbrev pub place_in : List ℕ → ℕ → ℕ
place_in places name = get_or places (name - first_letter) 0

-- the side names a variable of the table and an attribute that there is
pub record SideKnown (places : List ℕ) (s : Side) : Type 0 where
  pub letter : IsLetter s.name
  pub known : 0 < place_in places s.name
  pub small : s.attribute ≤ last_attribute

-- the word is a side, of this place and attribute
pub record SideFound (places word : List ℕ) (r : Sided) : Type 0 where
  pub side : Side
  pub known : SideKnown places side
  pub bytes : side_word side ≡ word
  pub place : r.place ≡ place_in places side.name
  pub attribute : r.attribute ≡ side.attribute

-- the side that the word is, if it is one
abbrev pub SideOf : List ℕ → List ℕ → Option Sided → Type 0
SideOf places word (Some r) = SideFound places word r
SideOf places word None = (s : Side) → SideKnown places s → ¬ (side_word s ≡ word)

-- the digits are those of a constant below 0, of these bits
pub record BelowRead (attribute : ℕ) (digits : List ℕ) (bits : ℕ) : Type 0 where
  pub less : ℕ
  pub number : decimal (suc less) ≡ digits
  pub range : in_range attribute (negsuc less) ≡ true
  pub packed : bits ≡ bits_of (negsuc less)

-- the constant that digits behind a minus are, if they are one
abbrev pub BelowZero : ℕ → List ℕ → Option ℕ → Type 0
BelowZero attribute digits (Some bits) = BelowRead attribute digits bits
BelowZero attribute digits None = (n : ℕ) → in_range attribute (negsuc n) ≡ true → ¬ (decimal (suc n) ≡ digits)

-- the place of a byte as a name, if it is one
abbrev pub PlaceRead : List ℕ → ℕ → Option ℕ → Type 0
PlaceRead places name (Some place) = IsLetter name × (0 < place) × (place ≡ place_in places name)
PlaceRead places name None = IsLetter name → place_in places name ≡ 0
