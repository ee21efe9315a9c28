-- Patterns that ask for no wave, and blocks without the waves of their events. No promise of a public call names this
-- file.
use Rattle.std.specs.Prelude.{◌≡◌, Bool, true, false, ◌&&◌, List, map, ℕ, ◌+◌, ◌/◌, ◌%◌, ◌<◌, eqb, length, get_or}
use Rattle.numbers.specs.Numbers.{upto}
use Rattle.records.specs.Records.{record_bytes, record_at, event_kind}
use Rattle.patterns.specs.declared.Pattern.{Pattern}
use Rattle.patterns.specs.Checked.{condition_at}

-- the attribute that is the wave
abbrev pub wave_attribute : ℕ
wave_attribute = 5

-- no condition of the pattern has the wave on either side
pub record AsksNoWave (p : Pattern) : Type 0 where
  pub attribute : (i : ℕ) → i < p.c → ¬ ((condition_at p i).attribute ≡ wave_attribute)
  pub attribute2 : (i : ℕ) → i < p.c → ¬ ((condition_at p i).attribute2 ≡ wave_attribute)

-- byte k is the wave of an event: the last byte of its record
unfoldable pub is_wave : List ℕ → ℕ → Bool
is_wave bytes k = eqb (k % record_bytes + 1) record_bytes && eqb (record_at bytes (k / record_bytes)).kind event_kind

-- byte k, or 0 where it is the wave of an event
unfoldable pub without_wave : List ℕ → ℕ → ℕ
without_wave bytes k = elim (is_wave bytes k) [ true ↦ 0 | false ↦ get_or bytes k 0 ]

-- the bytes of a block with the waves of its events set to 0, and all other bytes as they are
unfoldable pub without_waves : List ℕ → List ℕ
without_waves bytes = map (without_wave bytes) (upto 0 (length bytes))
