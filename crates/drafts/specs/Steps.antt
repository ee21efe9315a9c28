-- What each step of reading does: the parts of a line, and the drafts after the steps.
use Rattle.std.specs.Prelude.{◌≡◌, Bool, true, false, List, ◌∷◌, ◌++◌, ℕ, suc, ◌+◌, ◌-◌, ◌*◌, ◌^◌, ◌≤◌, ◌<◌, min, length, get_or, set, drop, Option, Some, None}
use Rattle.numbers.specs.Numbers.{one_if}
use Rattle.patterns.specs.Patterns.{last_attribute, last_operator}
use Rattle.form.specs.Form.{Member, Operand, When, space, plus, first_letter, letters}
use Rattle.form.specs.Form.Operand.{constant, other}
use Rattle.form.specs.Form.{member_word, side_word, operator_word, operand_word, IsLetter, in_range}
use Rattle.form.specs.Packed.{bits_of}
use Rattle.form.specs.Items.{in_sets, in_whens}
use Rattle.words.specs.declared.Sided.{Sided}
use Rattle.words.specs.Words.{place_in, SideKnown}
use Rattle.drafts.specs.declared.Draft.{Draft}
use Rattle.drafts.specs.declared.Piece.{Piece}
use Rattle.drafts.specs.declared.Phase.{Phase}
use Rattle.drafts.specs.declared.Phase.TheVariants.{Sets, Whens, Finished}
use Rattle.drafts.specs.Drafts.{many_variables, many_conditions, phase_of}

-- ## Parts of a line

-- the place of the first space
pub record Spaced (bytes : List ℕ) (place : ℕ) : Type 0 where
  pub inside : place < length bytes
  pub clear : (k : ℕ) → k < place → get_or bytes k 0 ≡ space → ⊥
  pub here : get_or bytes place 0 ≡ space

-- the place of the first space, if there is one
abbrev pub WordEnd : List ℕ → Option ℕ → Type 0
WordEnd bytes (Some place) = Spaced bytes place
WordEnd bytes None = (k : ℕ) → k < length bytes → get_or bytes k 0 ≡ space → ⊥

-- the name and the group flag of a piece
abbrev pub member_in : Piece → Member
member_in piece = record { name = piece.name; group = piece.group }

-- the piece stands in front of bytes: a space, a name, and a plus where one follows it
pub record PieceFound (bytes : List ℕ) (piece : Piece) : Type 0 where
  pub letter : IsLetter piece.name
  pub size : piece.size ≡ suc (length (member_word (member_in piece)))
  pub front : bytes ≡ space ∷ (member_word (member_in piece) ++ drop piece.size bytes)
  pub alone : piece.group ≡ false → (rest : List ℕ) → ¬ (drop piece.size bytes ≡ plus ∷ rest)

-- the name that stands behind a space in front of bytes, if one does
abbrev pub PieceOf : List ℕ → Option Piece → Type 0
PieceOf bytes (Some piece) = PieceFound bytes piece
PieceOf bytes None = (m : Member) (rest : List ℕ) → IsLetter m.name → ¬ (bytes ≡ space ∷ (member_word m ++ rest))

-- ## Drafts after the steps

-- with the byte of the next variable; a store behind the end changes nothing
abbrev pub with_variable : Draft → Bool → Draft
with_variable d group =
    record {
      places = d.places;
      variables = set d.variables d.n (d.set * 16 + one_if group * 8);
      conditions = d.conditions;
      n = d.n;
      set = d.set;
      c = d.c;
      phase = d.phase;
      duration = d.duration;
    }

-- with one name more in the last set line
abbrev pub with_member : Draft → ℕ → Bool → Draft
with_member d name group =
    record {
      places = set d.places (name - first_letter) (min (d.n + 1) many_variables);
      variables = set d.variables d.n (d.set * 16 + one_if group * 8);
      conditions = d.conditions;
      n = min (d.n + 1) many_variables;
      set = d.set;
      c = d.c;
      phase = d.phase;
      duration = d.duration;
    }

-- with one set line more, of no names yet
abbrev pub with_set : Draft → Draft
with_set d =
    record {
      places = d.places;
      variables = d.variables;
      conditions = d.conditions;
      n = d.n;
      set = min (d.set + 1) many_variables;
      c = d.c;
      phase = Sets;
      duration = d.duration;
    }

-- with one condition more; a store behind the end changes nothing
abbrev pub with_condition : Draft → ℕ → Draft
with_condition d word =
    record {
      places = d.places;
      variables = d.variables;
      conditions = set d.conditions d.c word;
      n = d.n;
      set = d.set;
      c = min (d.c + 1) many_conditions;
      phase = Whens;
      duration = d.duration;
    }

-- with the duration
abbrev pub with_duration : Draft → ℕ → Draft
with_duration d value =
    record {
      places = d.places;
      variables = d.variables;
      conditions = d.conditions;
      n = d.n;
      set = d.set;
      c = d.c;
      phase = Finished;
      duration = value;
    }

-- a name has no place yet
abbrev pub IsNew : Draft → ℕ → Type 0
IsNew d name = get_or d.places (name - first_letter) 0 ≡ 0

-- ## When lines

-- the test whether when lines and the within line may follow
pub record NamedTest (phase : Phase) (named : Bool) : Type 0 where
  pub so : named ≡ true → (in_sets ≤ phase_of phase) × (phase_of phase ≤ in_whens)
  pub not_so : named ≡ false → in_sets ≤ phase_of phase → phase_of phase ≤ in_whens → ⊥

-- every place in a table is small
pub record Places (places : List ℕ) : Type 0 where
  pub size : length places ≡ letters
  pub small : (k : ℕ) → get_or places k 0 ≤ many_variables

-- a side that was read
pub record SideRead (side : Sided) : Type 0 where
  pub from : 1 ≤ side.place
  pub upto : side.place ≤ many_variables
  pub small : side.attribute ≤ last_attribute

-- what stands behind the operator, by a table of places
unfoldable pub OperandKnown : List ℕ → ℕ → Operand → Type 0
OperandKnown places attribute (constant z) = in_range attribute z ≡ true
OperandKnown places attribute (other s) = SideKnown places s

-- the lower bits of a condition
unfoldable pub operand_bits : List ℕ → Operand → ℕ
operand_bits places (constant z) = bits_of z
operand_bits places (other s) = 2 ^ 53 + (place_in places s.name - 1) * 2 ^ 49 + s.attribute * 2 ^ 46

-- the 64 bits of a condition, by a table of places
abbrev pub code_of : List ℕ → ℕ → ℕ → ℕ → Operand → ℕ
code_of places place attribute operator right =
    (place - 1) * 2 ^ 60 + attribute * 2 ^ 57 + operator * 2 ^ 54 + operand_bits places right

-- the word is an operand, and these are the bits of the condition with it
pub record OperandFound (places : List ℕ) (left : Sided) (operator : ℕ) (word : List ℕ) (bits : ℕ) : Type 0 where
  pub right : Operand
  pub known : OperandKnown places left.attribute right
  pub words : operand_word right ≡ word
  pub code : bits ≡ code_of places left.place left.attribute operator right

-- the code of the operand that the word is, if it is one
abbrev pub OperandOf : List ℕ → Sided → ℕ → List ℕ → Option ℕ → Type 0
OperandOf places left operator word (Some bits) = OperandFound places left operator word bits
OperandOf places left operator word None =
    (right : Operand) → OperandKnown places left.attribute right → ¬ (operand_word right ≡ word)

-- the bytes are an operator and an operand, and these are the bits of the condition with them
pub record ComparisonFound (places : List ℕ) (left : Sided) (bytes : List ℕ) (bits : ℕ) : Type 0 where
  pub operator : ℕ
  pub right : Operand
  pub last : operator ≤ last_operator
  pub known : OperandKnown places left.attribute right
  pub words : operator_word operator ++ (space ∷ operand_word right) ≡ bytes
  pub code : bits ≡ code_of places left.place left.attribute operator right

-- the code of the operator and the operand that the bytes are, if they are that
abbrev pub ComparisonOf : List ℕ → Sided → List ℕ → Option ℕ → Type 0
ComparisonOf places left bytes (Some bits) = ComparisonFound places left bytes bits
ComparisonOf places left bytes None =
    (operator : ℕ) (right : Operand) → operator ≤ last_operator → OperandKnown places left.attribute right
    → ¬ (operator_word operator ++ (space ∷ operand_word right) ≡ bytes)

-- the words of a condition
abbrev pub condition_words : When → List ℕ
condition_words w = side_word w.left ++ (space ∷ (operator_word w.operator ++ (space ∷ operand_word w.right)))

-- a condition, by a table of places
pub record WhenKnown (places : List ℕ) (w : When) : Type 0 where
  pub left : SideKnown places w.left
  pub operator : w.operator ≤ last_operator
  pub right : OperandKnown places w.left.attribute w.right

-- the bytes are a condition, of these bits
pub record ConditionFound (places bytes : List ℕ) (bits : ℕ) : Type 0 where
  pub when : When
  pub known : WhenKnown places when
  pub words : condition_words when ≡ bytes
  pub code : bits ≡ code_of places (place_in places when.left.name) when.left.attribute when.operator when.right

-- the code of the condition that the bytes are, if they are one
abbrev pub ConditionOf : List ℕ → List ℕ → Option ℕ → Type 0
ConditionOf places bytes (Some bits) = ConditionFound places bytes bits
ConditionOf places bytes None = (w : When) → WhenKnown places w → ¬ (condition_words w ≡ bytes)
