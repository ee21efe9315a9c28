-- Events that go on from the record before: what the check of a block asks of most records, and no more.
use Rattle.std.specs.Prelude.{◌≡◌, Bool, true, List, ℕ, ◌+◌, ◌*◌, ◌≤◌, get_or}
use Rattle.numbers.specs.Numbers.{number}
use Rattle.records.specs.Records.{record_bytes, record_at, event_kind}
use Rattle.records.specs.Blocks.{record_refusal}

-- the high byte of the time of record i
abbrev pub high_byte : List ℕ → ℕ → ℕ
high_byte bytes i = get_or bytes (record_bytes * i + 2) 0

-- the other bits of the time of record i
abbrev pub lower_bits : List ℕ → ℕ → ℕ
lower_bits bytes i = number bytes (record_bytes * i + 3) 4

-- record i is in order if it is an event whose time has this high byte, and lower bits from `least` on
pub record Ready (bytes : List ℕ) (i high least : ℕ) : Type 0 where
  pub next :
      (record_at bytes i).kind ≡ event_kind → high_byte bytes i ≡ high → least ≤ lower_bits bytes i
      → record_refusal bytes i ≡ 0

-- the test of that; where it fails, nothing is known
pub record GoesOn (bytes : List ℕ) (i high : ℕ) (on : Bool) : Type 0 where
  pub event : on ≡ true → (record_at bytes i).kind ≡ event_kind
  pub good : on ≡ true → record_refusal bytes i ≡ 0
  pub same : on ≡ true → high_byte bytes i ≡ high
