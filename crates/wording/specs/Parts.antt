-- Pieces of the text that the writer puts one behind the other.
use Rattle.std.specs.Prelude.{true, false, List, [], ◌∷◌, ◌++◌, map, ℕ, eqb}
use Rattle.patterns.specs.declared.Pattern.{Pattern}
use Rattle.form.specs.Form.{Member, line_feed, space, set_word, member_word, side_word, operator_word}
use Rattle.form.specs.Form.{spaced, set_line}
use Rattle.wording.specs.Wording.{letter_of, member_of, begins_set}

-- a variable of a set line, behind a space
unfoldable pub member_text : Pattern → ℕ → List ℕ
member_text p v = space ∷ member_word (member_of p v)

-- the beginning of a set line, behind the line before it
unfoldable pub set_text : ℕ → List ℕ
set_text v = elim (eqb v 0) [ true ↦ set_word | false ↦ line_feed ∷ set_word ]

-- variable v, behind the beginning of a line where it begins a set
unfoldable pub variable_text : Pattern → ℕ → List ℕ
variable_text p v = elim (begins_set p v) [ true ↦ set_text v ++ member_text p v | false ↦ member_text p v ]

-- set lines, the last of them without its line feed
unfoldable pub open_lines : List (List Member) → List ℕ
open_lines [] = []
open_lines (s ∷ []) = set_word ++ spaced (map member_word s)
open_lines (s ∷ t ∷ sets) = set_line s ++ open_lines (t ∷ sets)

-- an attribute of a variable
unfoldable pub side_text : ℕ → ℕ → List ℕ
side_text variable attribute = side_word (record { name = letter_of variable; attribute = attribute })

-- an operator, between two spaces
unfoldable pub operator_text : ℕ → List ℕ
operator_text operator = space ∷ (operator_word operator ++ (space ∷ []))
