-- What the bytes of a record mean.
use Rattle.std.specs.Prelude.{true, false, List, map, ℕ, ◌+◌, ◌*◌, ◌/◌, ltb, get_or, length}
use Rattle.records.specs.declared.Record.{Record}
use Rattle.numbers.specs.Numbers.{number, field, upto}

-- Rule 1.1
abbrev pub record_bytes : ℕ
record_bytes = 16

-- Rule 1.2: record i of the bytes. The first byte has kind and core.
unfoldable pub record_at : List ℕ → ℕ → Record
record_at bytes i =
    record {
      kind = field 2 6 (get_or bytes (record_bytes * i) 0);
      core = field 6 0 (get_or bytes (record_bytes * i) 0);
      event_type = get_or bytes (record_bytes * i + 1) 0;
      time = number bytes (record_bytes * i + 2) 5;
      slot = number bytes (record_bytes * i + 7) 4;
      amount = number bytes (record_bytes * i + 11) 4;
      wave = get_or bytes (record_bytes * i + 15) 0;
    }

-- Rule 1.3
abbrev pub event_kind : ℕ
event_kind = 0

-- Rule 1.3
abbrev pub gap_kind : ℕ
gap_kind = 1

-- Rule 1.4: by the least type that is above the class
unfoldable pub class_of : ℕ → ℕ
class_of t =
    elim (ltb t 16) [
      | true ↦ 0
      | false ↦ elim (ltb t 32) [
        | true ↦ 1
        | false ↦ elim (ltb t 64) [
          | true ↦ 2
          | false ↦ elim (ltb t 96) [
            | true ↦ 3
            | false ↦ elim (ltb t 128) [
              | true ↦ 4
              | false ↦ 5
            ]
          ]
        ]
      ]
    ]

-- Rule 1.1: whole records; what is left over is refused (8.5)
abbrev pub record_count : List ℕ → ℕ
record_count bytes = length bytes / record_bytes

-- Rule 1.1: a block as the list of its records
unfoldable pub records_of : List ℕ → List Record
records_of bytes = map (record_at bytes) (upto 0 (record_count bytes))
