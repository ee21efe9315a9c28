-- The pattern that a text stands for, in bytes.
use Rattle.std.specs.Prelude.{true, false, ℕ, suc, ◌+◌, ◌-◌, ◌*◌, ◌^◌, ◌≤◌, ◌<◌, eqb, ℤ, pos, negsuc, length}
use mathlib.Core.List.{List, [], ◌∷◌, ◌++◌, map, flat_map}
use Rattle.numbers.specs.Numbers.{one_if}
use Rattle.numbers.specs.Bytes.{word_bytes}
use Rattle.patterns.specs.declared.Condition.{Condition}
use Rattle.patterns.specs.Patterns.{header_bytes, most_variables, condition_bytes, most_conditions}
use Rattle.form.specs.Form.{Member, Side, Operand, When, Making, names}
use Rattle.form.specs.Form.Operand.{constant, other}

-- Rule 11.5: the place of a name among the names, counted from 1; 0 where it is not one of them
unfoldable pub place_of : ℕ → List ℕ → ℕ
place_of x [] = 0
place_of x (y ∷ l) =
    elim (eqb x y) [
      | true ↦ 1
      | false ↦ elim (eqb (place_of x l) 0) [ true ↦ 0 | false ↦ suc (place_of x l) ]
    ]

-- Rule 11.5: the variable of a name
abbrev pub variable_of : List ℕ → ℕ → ℕ
variable_of known x = place_of x known - 1

-- Rule 11.5: a variable's byte: its set in four bits, its group flag in one, and three that are 0
unfoldable pub member_byte : ℕ → Member → ℕ
member_byte set m = set * 2 ^ 4 + one_if m.group * 2 ^ 3

-- Rule 11.5: the bytes of the variables, the sets being numbered from k on
unfoldable pub member_bytes : ℕ → List (List Member) → List ℕ
member_bytes k [] = []
member_bytes k (s ∷ sets) = map (member_byte k) s ++ member_bytes (suc k) sets

-- Rule 11.5: a constant's 32 bits, two's complement
unfoldable pub bits_of : ℤ → ℕ
bits_of (pos n) = n
bits_of (negsuc n) = 2 ^ 32 - 1 - n

-- Rule 11.5: the condition that a when line stands for
unfoldable pub condition_in : List ℕ → Side → ℕ → Operand → Condition
condition_in known left operator (constant z) =
    record {
      variable = variable_of known left.name;
      attribute = left.attribute;
      operator = operator;
      form = 0;
      variable2 = 0;
      attribute2 = 0;
      constant = bits_of z;
    }
condition_in known left operator (other s) =
    record {
      variable = variable_of known left.name;
      attribute = left.attribute;
      operator = operator;
      form = 1;
      variable2 = variable_of known s.name;
      attribute2 = s.attribute;
      constant = 0;
    }

-- Rule 11.5: a condition's 64 bits
unfoldable pub condition_bits : Condition → ℕ
condition_bits k =
    k.variable * 2 ^ 60
    + k.attribute * 2 ^ 57
    + k.operator * 2 ^ 54
    + k.form * 2 ^ 53
    + k.variable2 * 2 ^ 49
    + k.attribute2 * 2 ^ 46
    + k.constant

-- Rule 11.5: the 64 bits of a when line
unfoldable pub when_bits : List ℕ → When → ℕ
when_bits known w = condition_bits (condition_in known w.left w.operator w.right)

-- Rule 11.5: a header's 64 bits: edition 1, the counts, eight bits that are 0, and the duration
unfoldable pub header_bits : ℕ → ℕ → ℕ → ℕ
header_bits n c duration = 2 ^ 60 + n * 2 ^ 56 + c * 2 ^ 48 + duration

-- Rule 11.5: the bytes of the pattern
unfoldable pub pattern_bytes : Making → List ℕ
pattern_bytes m =
    word_bytes (header_bits (length (names m.sets)) (length m.whens) m.duration)
    ++ (member_bytes 1 m.sets ++ flat_map (λ (w : When). word_bytes (when_bits (names m.sets) w)) m.whens)

-- Rule 11.6: a pattern has fields for it
pub record Fits (m : Making) : Type 0 where
  pub few : length (names m.sets) ≤ most_variables
  pub few_conditions : length m.whens ≤ most_conditions
  pub short : m.duration < 2 ^ 40

-- the longest pattern
abbrev pub most_bytes : ℕ
most_bytes = header_bytes + most_variables + condition_bytes * most_conditions
