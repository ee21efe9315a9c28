-- How readings close, by the plan and the bytes of the block: the mark that a gap gives, and what the first record of a
-- reading fixes. No promise of a public call names this file.
use Rattle.std.specs.Prelude.{◌≡◌, true, false, not, List, ℕ, ◌+◌, ◌-◌, ◌^◌, ◌≤◌, ◌<◌}
use Rattle.numbers.specs.Numbers.{every}
use Rattle.records.specs.Records.{record_at, record_count, records_of, event_kind}
use Rattle.patterns.specs.declared.Pattern.{Pattern}
use Rattle.rule.specs.Rule.{open_mark, complete_mark, gap_mark}
use Rattle.rule.specs.Starts.{until, mark_of}
use Rattle.firing.specs.Firing.{leaves_by}
use Rattle.closings.specs.declared.Window.{Window}

-- the mark of what closes at a gap: whether a step leaves the state in which all n variables are bound
unfoldable pub gap_mark_by : List ℕ → ℕ → ℕ
gap_mark_by plan n =
    elim (every (λ v. not (leaves_by plan (2 ^ n - 1) v)) n) [ true ↦ complete_mark | false ↦ open_mark ]

-- records i + 1 to k are events of the window of record i
pub record OpenTo (bytes : List ℕ) (duration i k : ℕ) : Type 0 where
  pub event : (q : ℕ) → i < q → q < k → (record_at bytes q).kind ≡ event_kind
  pub near : (q : ℕ) → i < q → q < k → (record_at bytes q).time ≤ (record_at bytes i).time + duration

-- s is what record i fixes as the first of a reading, where a gap gives the mark `gap`
pub record WindowIs (bytes : List ℕ) (duration gap i : ℕ) (s : Window) : Type 0 where
  pub after : i < s.until
  pub block : s.until ≤ record_count bytes
  pub opened : OpenTo bytes duration i s.until
  pub small : s.mark < 16
  pub closes : (p : Pattern) → p.duration ≡ duration → s.until ≡ until p (records_of bytes) i
  pub mark : (p : Pattern) → p.duration ≡ duration → gap_mark p ≡ gap → s.mark ≡ mark_of p (records_of bytes) i
