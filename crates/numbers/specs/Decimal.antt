-- Numbers in decimal. Text is a list of ASCII codes.
use Rattle.std.specs.Prelude.{true, false, List, [], ◌∷◌, ◌++◌, ℕ, zero, suc, ◌+◌, ◌/◌, ◌%◌, ltb}

-- Serves rules 9.2, 11.2: the code of a digit
abbrev pub glyph : ℕ → ℕ
glyph digit = 48 + digit

-- Serves rules 9.2, 11.2: the decimal digits of a number that has at most so many, the most significant first
unfoldable pub digits : ℕ → ℕ → List ℕ
digits zero n = []
digits (suc places) n =
    elim (ltb n 10) [
      | true ↦ glyph n ∷ []
      | false ↦ digits places (n / 10) ++ (glyph (n % 10) ∷ [])
    ]

-- Rules 9.2, 11.2: no number has more digits than one above its value
unfoldable pub decimal : ℕ → List ℕ
decimal n = digits (suc n) n
