-- What is written into a lent result, as bytes: two for each 16-bit number, high first.
use Rattle.std.specs.Prelude.{List, [], ◌∷◌, ℕ, ◌+◌, ◌*◌, length}
use Rattle.rule.specs.Rule.{Reading, packed, pack_bindings, past_mark, end_mark, open_mark, complete_mark}
use Rattle.slots.specs.declared.Mark.{Mark}
use Rattle.slots.specs.declared.Mark.TheVariants.{Past, End, Gap, GapComplete}

-- the marks by their numbers
abbrev pub mark_number : Mark → ℕ
mark_number Past = past_mark
mark_number End = end_mark
mark_number Gap = open_mark
mark_number GapComplete = complete_mark

-- one reported reading: head, then its bindings
abbrev pub line_numbers : ℕ → Reading → List ℕ
line_numbers mark r = packed mark (length r) ∷ pack_bindings r

-- the numbers that bytes stand for
unfoldable pub numbers_of : List ℕ → List ℕ
numbers_of [] = []
numbers_of (high ∷ []) = []
numbers_of (high ∷ low ∷ l) = (high * 256 + low) ∷ numbers_of l
