-- When a condition holds of two records: whole numbers are compared, whatever attributes they come from.
use Rattle.std.specs.Prelude.{Bool, true, false, ◌||◌, ℕ, ◌+◌, ◌-◌, ◌^◌, eqb, ltb, ℤ, pos, negsuc}
use Rattle.std.specs.Int.Signed.{lt_z}
use Rattle.patterns.specs.declared.Condition.{Condition}
use Rattle.records.specs.declared.Record.{Record}
use Rattle.records.specs.Records.{class_of}

-- Rule 3.1: 32 bits as two's complement
unfoldable pub signed : ℕ → ℤ
signed word = elim (ltb word (2 ^ 31)) [ true ↦ pos word | false ↦ negsuc (2 ^ 32 - 1 - word) ]

-- Rule 3.1: an attribute of a record, as a whole number
unfoldable pub value : ℕ → Record → ℤ
value attribute r =
    elim (eqb attribute 0) [
      | true ↦ pos r.core
      | false ↦ elim (eqb attribute 1) [
        | true ↦ pos r.event_type
        | false ↦ elim (eqb attribute 2) [
          | true ↦ pos (class_of r.event_type)
          | false ↦ elim (eqb attribute 3) [
            | true ↦ pos r.slot
            | false ↦ elim (eqb attribute 4) [ true ↦ signed r.amount | false ↦ pos r.wave ]
          ]
        ]
      ]
    ]

-- Rule 3.1: the constant of a condition, by the attribute in front of it
unfoldable pub constant_value : ℕ → ℕ → ℤ
constant_value attribute constant = elim (eqb attribute 4) [ true ↦ signed constant | false ↦ pos constant ]

-- Rule 3.2
abbrev pub less : ℕ
less = 0

-- Rule 3.2
abbrev pub equal : ℕ
equal = 1

-- Rule 3.2
abbrev pub greater : ℕ
greater = 2

-- Serves rule 3.2: how many orders there are
abbrev pub orders : ℕ
orders = 3

-- Rule 3.2: how a stands to b
unfoldable pub order_of : ℤ → ℤ → ℕ
order_of a b = elim (lt_z a b) [ true ↦ less | false ↦ elim (lt_z b a) [ true ↦ greater | false ↦ equal ] ]

-- Rule 3.2: whether an operator allows an order
abbrev pub meets : ℕ → ℕ → Bool
meets operator order =
    elim (eqb operator 0) [
      | true ↦ eqb order equal
      | false ↦ elim (eqb operator 1) [
        | true ↦ eqb order less
        | false ↦ elim (eqb operator 2) [
          | true ↦ eqb order less || eqb order equal
          | false ↦ elim (eqb operator 3) [
            | true ↦ eqb order greater
            | false ↦ elim (eqb operator 4) [
              | true ↦ eqb order equal || eqb order greater
              | false ↦ eqb order less || eqb order greater
            ]
          ]
        ]
      ]
    ]

-- Rule 3.3: the right-hand side of condition k, with this event for its second variable
unfoldable pub compared_with : Condition → Record → ℤ
compared_with k second =
    elim (eqb k.form 0) [
      | true ↦ constant_value k.attribute k.constant
      | false ↦ value k.attribute2 second
    ]

-- Rule 3.3
unfoldable pub holds : Condition → Record → Record → Bool
holds k first second = meets k.operator (order_of (value k.attribute first) (compared_with k second))

-- a whole number from -2^31 on, raised by 2^31
unfoldable pub raise : ℤ → ℕ
raise (pos n) = n + 2 ^ 31
raise (negsuc n) = 2 ^ 31 - 1 - n
