-- The answer of a C call, as one number.
use Rattle.std.specs.Prelude.{true, false, ℕ, ◌+◌, ◌-◌, ◌*◌, ◌^◌, min, eqb}
use Rattle.records.specs.declared.Answer.{Answer}
use Rattle.numbers.specs.Numbers.{field}

-- Rule 7.8: a field of so many bits stops at its largest number
abbrev pub capped : ℕ → ℕ → ℕ
capped bits x = min x (2 ^ bits - 1)

-- Rule 7.8
unfoldable pub place_or_used : Answer → ℕ
place_or_used a = elim (eqb a.code 0) [ true ↦ a.used | false ↦ a.place ]

-- Rule 7.8
unfoldable pub packed_answer : Answer → ℕ
packed_answer a =
    capped 8 a.code * 2 ^ 56
    + capped 24 (place_or_used a) * 2 ^ 32
    + capped 16 a.readings * 2 ^ 16
    + capped 16 a.peak

-- the fields of a C answer
abbrev pub code_in : ℕ → ℕ
code_in word = field 8 56 word

abbrev pub place_or_used_in : ℕ → ℕ
place_or_used_in word = field 24 32 word

abbrev pub readings_in : ℕ → ℕ
readings_in word = field 16 16 word

abbrev pub peak_in : ℕ → ℕ
peak_in word = field 16 0 word
