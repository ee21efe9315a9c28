-- What the bytes of an index mean, the index of a block, and when a pattern cannot match by an index.
use Rattle.std.specs.Prelude.{◌≡◌, Bool, true, false, not, ◌&&◌, ◌||◌, List, [], ◌∷◌, ◌++◌, ℕ, ◌+◌, ◌-◌, ◌*◌, ◌/◌, ◌%◌, ◌^◌, ◌<◌, eqb, ltb, length}
use Rattle.numbers.specs.Numbers.{number, field, bytes_of, count, sum}
use Rattle.numbers.specs.Bits.{bit, mask}
use Rattle.numbers.specs.Bytes.{word_bytes}
use Rattle.records.specs.Records.{record_at, record_count, event_kind, class_of}
use Rattle.patterns.specs.declared.Condition.{Condition}
use Rattle.patterns.specs.declared.Pattern.{Pattern}
use Rattle.patterns.specs.Checked.{condition_at}

-- ## Bytes

-- Rule 12.1
abbrev pub index_bytes : ℕ
index_bytes = 18

-- Rule 12.1: how many classes there are
abbrev pub classes : ℕ
classes = 6

-- Rule 12.1: how many cores there are
abbrev pub cores : ℕ
cores = 64

-- Rule 12.1: the bits of a count
abbrev pub count_bits : ℕ
count_bits = 13

-- Rule 12.1: the first ten bytes have the counts, and two bits more
unfoldable pub front : List ℕ → ℕ
front index = number index 0 10

-- Rule 12.1: the last nine bytes have the bits of the cores, and before them six bits more
unfoldable pub back : List ℕ → ℕ
back index = number index 9 9

-- Rule 12.1: how many of those bits stand below the count of a class
abbrev pub count_place : ℕ → ℕ
count_place class = 67 - count_bits * class

-- Rule 12.1: how many events a class has by an index
unfoldable pub events_by : List ℕ → ℕ → ℕ
events_by index class =
    elim (ltb class classes) [ true ↦ field count_bits (count_place class) (front index) | false ↦ 0 ]

-- Rule 12.1: the bits of the cores, as one number
unfoldable pub cores_field : List ℕ → ℕ
cores_field index = field cores 2 (back index)

-- Rule 12.1: whether a core has events by an index; core 0 has the highest bit
unfoldable pub core_by : List ℕ → ℕ → Bool
core_by index core = ltb core cores && bit (cores_field index) (cores - 1 - core)

-- Rule 12.1: the bits that must be 0
unfoldable pub index_zero : List ℕ → ℕ
index_zero index = field 2 0 (back index)

-- Rule 8.19
unfoldable pub index_broken : List ℕ → Bool
index_broken index = not (eqb (length index) index_bytes) || not (eqb (index_zero index) 0)

-- ## The index of a block

-- Rule 12.2: record i is an event of the class
unfoldable pub is_of_class : List ℕ → ℕ → ℕ → Bool
is_of_class block class i =
    eqb (record_at block i).kind event_kind && eqb (class_of (record_at block i).event_type) class

-- Rule 12.2: record i is an event of the core
unfoldable pub is_of_core : List ℕ → ℕ → ℕ → Bool
is_of_core block core i = eqb (record_at block i).kind event_kind && eqb (record_at block i).core core

-- Rule 12.2: how many events of a class the first n records have
unfoldable pub count_up_to : List ℕ → ℕ → ℕ → ℕ
count_up_to block n class = count (is_of_class block class) n

-- Rule 12.2: whether the first n records have an event of a core
unfoldable pub has_up_to : List ℕ → ℕ → ℕ → Bool
has_up_to block n core = ltb 0 (count (is_of_core block core) n)

-- Rule 12.2: the bits of the cores of which the first n records have events
unfoldable pub cores_up_to : List ℕ → ℕ → ℕ
cores_up_to block n = mask (λ j. has_up_to block n (cores - 1 - j)) cores

-- Rule 12.2: the counts in a row, 78 bits
unfoldable pub counts_row : (ℕ → ℕ) → ℕ
counts_row counts = sum (λ class. counts class * 2 ^ (65 - count_bits * class)) classes

-- Rule 12.2: a row of 78 bits, 64 bits behind them and two that are 0, as bytes: 64 bits, 64 bits and 16
unfoldable pub packed_bytes : ℕ → ℕ → List ℕ
packed_bytes row bits =
    word_bytes (row / 2 ^ 14)
    ++ (word_bytes (row % 2 ^ 14 * 2 ^ 50 + bits / 2 ^ 14) ++ bytes_of (bits % 2 ^ 14 * 2 ^ 2 ∷ []))

-- Rule 12.2
unfoldable pub index_of : List ℕ → List ℕ
index_of block = packed_bytes (counts_row (count_up_to block (record_count block))) (cores_up_to block (record_count block))

-- ## Cannot match

-- Rule 12.3
abbrev pub core_attribute : ℕ
core_attribute = 0

-- Rule 12.3
abbrev pub class_attribute : ℕ
class_attribute = 2

-- Rule 12.3: the operator =
abbrev pub equals : ℕ
equals = 0

-- Rule 12.3: by the index no event has this value of the attribute, which is core or class
unfoldable pub lacks : List ℕ → ℕ → ℕ → Bool
lacks index attribute value =
    elim (eqb attribute core_attribute) [
      | true ↦ not (core_by index value)
      | false ↦ elim (eqb attribute class_attribute) [ true ↦ eqb (events_by index value) 0 | false ↦ false ]
    ]

-- Rule 12.3: by the index no event meets the condition
unfoldable pub rules_out : List ℕ → Condition → Bool
rules_out index k =
    eqb k.form 0 && (eqb k.operator equals && lacks index k.attribute k.constant)

-- Rule 12.3
pub record CannotMatch (p : Pattern) (index : List ℕ) : Type 0 where
  pub which : ℕ
  pub given : which < p.c
  pub without : rules_out index (condition_at p which) ≡ true
