-- When a block is in order, and what the check of a block answers.
use Rattle.std.specs.Prelude.{◌≡◌, Bool, true, false, not, ◌&&◌, ◌||◌, List, ℕ, suc, ◌-◌, ◌%◌, ◌≤◌, ◌<◌, eqb, ltb, length}
use Rattle.records.specs.declared.Answer.{Answer}
use Rattle.records.specs.declared.Record.{Record}
use Rattle.numbers.specs.Numbers.{first}
use Rattle.records.specs.Records.{record_bytes, record_at, record_count, event_kind, gap_kind}

-- Rule 1.1
abbrev pub most_records : ℕ
most_records = 4096

-- Rule 7.2: the answer of a refusal
abbrev pub refused : ℕ → ℕ → Answer
refused code place = record { code = code; place = place; used = 0; readings = 0; peak = 0 }

-- Rule 8.5
unfoldable pub misfit : List ℕ → Bool
misfit bytes = not (eqb (length bytes % record_bytes) 0) || ltb most_records (record_count bytes)

-- Rule 1.3: a gap that has something of an event, or that tells of no loss
unfoldable pub gap_broken : Record → Bool
gap_broken r =
    not (eqb r.core 0)
    || (not (eqb r.event_type 0) || (not (eqb r.amount 0) || (not (eqb r.wave 0) || eqb r.slot 0)))

-- Rule 8.6: a record that is neither an event nor a gap in order
unfoldable pub broken : Record → Bool
broken r = ltb gap_kind r.kind || (eqb r.kind gap_kind && gap_broken r)

-- Rules 1.5, 8.7: b cannot stand right behind a: its time is below that of a, or the same and one of the two is a gap
unfoldable pub misplaced : Record → Record → Bool
misplaced a b =
    ltb b.time a.time
    || (eqb b.time a.time && (eqb a.kind gap_kind || eqb b.kind gap_kind))

-- Rules 1.5, 8.7: record i cannot stand behind the one before it; record 0 has none before it
unfoldable pub late : List ℕ → ℕ → Bool
late bytes i = ltb 0 i && misplaced (record_at bytes (i - 1)) (record_at bytes i)

-- Rule 8.14: the number that record i is refused with; 0 where it is in order
unfoldable pub record_refusal : List ℕ → ℕ → ℕ
record_refusal bytes i =
    elim (broken (record_at bytes i)) [ true ↦ 6 | false ↦ elim (late bytes i) [ true ↦ 7 | false ↦ 0 ] ]

-- Rule 8.14
unfoldable pub bad : List ℕ → ℕ → Bool
bad bytes i = ltb 0 (record_refusal bytes i)

-- Rule 8.14: the record that decides; the count of records where all are in order
unfoldable pub first_bad : List ℕ → ℕ
first_bad bytes = first (bad bytes) (record_count bytes)

-- Rules 7.3, 8.14: what the check of a block answers
unfoldable pub block_answer : List ℕ → Answer
block_answer bytes =
    elim (misfit bytes) [
      | true ↦ refused 5 0
      | false ↦ elim (ltb (first_bad bytes) (record_count bytes)) [
        | true ↦ refused (record_refusal bytes (first_bad bytes)) (first_bad bytes)
        | false ↦ record { code = 0; place = 0; used = record_count bytes; readings = 0; peak = 0 }
      ]
    ]

-- Rule 1.5: a block in order, as a reader would say it; the check accepts exactly these
pub record InOrder (bytes : List ℕ) : Type 0 where
  pub whole : length bytes % record_bytes ≡ 0
  pub few : record_count bytes ≤ most_records
  pub sound : (i : ℕ) → i < record_count bytes → broken (record_at bytes i) ≡ false
  pub climbing : (i : ℕ) → suc i < record_count bytes → (record_at bytes i).time ≤ (record_at bytes (suc i)).time
  pub together :
      (i : ℕ) → suc i < record_count bytes → (record_at bytes i).time ≡ (record_at bytes (suc i)).time
      → ((record_at bytes i).kind ≡ event_kind) × ((record_at bytes (suc i)).kind ≡ event_kind)
