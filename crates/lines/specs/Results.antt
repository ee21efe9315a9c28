-- The lines that the bytes of a result stand for: two bytes for each 16-bit number, high first.
use Rattle.std.specs.Prelude.{List, [], ◌∷◌, ◌++◌, ℕ, zero, suc, ◌+◌, ◌*◌, ◌^◌, ◌/◌, ◌%◌}
use Rattle.numbers.specs.Numbers.{number}
use Rattle.rule.specs.Rule.{Binding, Reading, Line}

abbrev pub number_at : List ℕ → ℕ → ℕ
number_at result i = number result (2 * i) 2

-- the mark of the head at a place
abbrev pub mark_at : List ℕ → ℕ → ℕ
mark_at result at = number_at result at / 2 ^ 12

-- the count of bindings of the head at a place
abbrev pub count_at : List ℕ → ℕ → ℕ
count_at result at = number_at result at % 2 ^ 6

-- the binding of a number
abbrev pub binding_of : ℕ → Binding
binding_of word = record { variable = word / 2 ^ 12; at = word % 2 ^ 12 }

-- the n bindings from a number on, the latest first
unfoldable pub bindings_at : List ℕ → ℕ → ℕ → Reading
bindings_at result first zero = []
bindings_at result first (suc n) = binding_of (number_at result (first + n)) ∷ bindings_at result first n

-- the line whose head is the number at a place
unfoldable pub line_at : List ℕ → ℕ → Line
line_at result at =
    record { mark = mark_at result at; reading = bindings_at result (at + 1) (count_at result at) }

-- where the line behind it stands
abbrev pub behind : List ℕ → ℕ → ℕ
behind result at = at + 1 + count_at result at

-- where line n stands, the first being line 0
unfoldable pub place_of : List ℕ → ℕ → ℕ
place_of result zero = 0
place_of result (suc n) = behind result (place_of result n)

-- the first n lines
unfoldable pub lines_in : List ℕ → ℕ → List Line
lines_in result zero = []
lines_in result (suc n) = lines_in result n ++ (line_at result (place_of result n) ∷ [])
