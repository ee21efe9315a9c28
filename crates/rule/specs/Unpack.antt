-- The report read back from the numbers of a result. No promise of a public call names this file.
use Rattle.std.specs.Prelude.{true, false, List, [], ◌∷◌, ◌++◌, ℕ, zero, suc, eqb, length, take, drop}
use Rattle.numbers.specs.Numbers.{field}
use Rattle.rule.specs.Rule.{Binding, Reading, Line}

-- the binding of a number
abbrev pub binding_in : ℕ → Binding
binding_in number = record { variable = field 4 12 number; at = field 12 0 number }

-- the numbers stand oldest first, a reading the latest first
abbrev pub bindings_in : List ℕ → Reading
bindings_in [] = []
bindings_in (number ∷ l) = bindings_in l ++ (binding_in number ∷ [])

-- the mark of a head
abbrev pub mark_in : ℕ → ℕ
mark_in head = field 4 12 head

-- the count of bindings of a head
abbrev pub count_in : ℕ → ℕ
count_in head = field 6 0 head

-- so many lines at most: a head, then so many bindings, then the rest. No line has a head of 0, so what follows a 0 is
-- unused.
unfoldable pub unpack_lines : ℕ → List ℕ → List Line
unpack_lines zero numbers = []
unpack_lines (suc n) [] = []
unpack_lines (suc n) (head ∷ l) =
    elim (eqb head 0) [
      | true ↦ []
      | false ↦ record { mark = mark_in head; reading = bindings_in (take (count_in head) l) }
          ∷ unpack_lines n (drop (count_in head) l)
    ]

unfoldable pub unpack : List ℕ → List Line
unpack numbers = unpack_lines (length numbers) numbers
