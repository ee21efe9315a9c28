-- An answer as text.
use Rattle.std.specs.Prelude.{ℕ, List, ◌∷◌, ◌++◌, decimal}
use Rattle.records.specs.declared.Answer.{Answer}
use Rattle.tables.specs.Rows.{space}

-- the numbers of an answer, a space between two
abbrev pub answer_numbers : Answer → List ℕ
answer_numbers a = decimal a.code ++ space ∷ decimal a.place ++ space ∷ decimal a.used ++ space ∷ decimal a.readings ++ space ∷ decimal a.peak
