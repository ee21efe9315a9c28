-- Where a set can begin whose first step has the order mark: not in the cycle of the latest binding. No promise of a
-- public call names this file.
use Rattle.std.specs.Prelude.{◌≡◌, true, false, List, [], ◌∷◌, ℕ, ◌+◌, ◌-◌, ◌^◌, ◌≤◌, ◌<◌, eqb, length, get_or}
use Rattle.std.specs.Int.Bits.{bit_and}
use Rattle.numbers.specs.Bits.{bit, mask, disjoint}
use Rattle.records.specs.Records.{record_at, record_count, records_of}
use Rattle.records.specs.Blocks.{most_records}
use Rattle.patterns.specs.declared.Pattern.{Pattern}
use Rattle.patterns.specs.Patterns.{most_variables}
use Rattle.rule.specs.Rule.{Reading}
use Rattle.slots.specs.Slots.{held_in, holding}
use Rattle.plans.specs.Plan.{before_in, marks_in, joins_in}
use Rattle.firing.specs.Firing.{leaves_by, later_than}
use Rattle.reach.specs.declared.Start.{Start}
use Rattle.reach.specs.Readings.{Of}
use Rattle.reach.specs.Growing.{Grows}

-- ## By the plan

-- the variables that no condition joins
unfoldable pub unjoined_in : List ℕ → ℕ → ℕ
unjoined_in plan n = mask (λ v. eqb (joins_in plan v) 0) n

-- a state has what must be bound before v and nothing else, and the step on v has the order mark there
pub record Marked (plan : List ℕ) (v state : ℕ) : Type 0 where
  pub exact : before_in plan v ≡ state
  pub apart : disjoint state (marks_in plan v) ≡ true

-- ## By the records

-- record i is not later than the last of the first `last` records
pub record Early (bytes : List ℕ) (last i : ℕ) : Type 0 where
  pub some : 0 < last
  pub time : (record_at bytes i).time ≤ (record_at bytes (last - 1)).time

-- a set does not begin at record i: none of its variables can fire there, or the record is not later
pub data Idle (bytes : List ℕ) (able last i : ℕ) : Type 0 where
  unable : able ≡ 0 → Idle bytes able last i
  early : Early bytes last i → Idle bytes able last i

-- how many records there are up to the latest binding's, behind record i: as many as before, or one of the variables
-- takes record i
pub data Behind (able last i next : ℕ) : Type 0 where
  kept : next ≡ last → Behind able last i next
  taken : 0 < able → next ≡ i + 1 → Behind able last i next

-- from record i on the set does not begin before record r
pub data Passes (bytes cans : List ℕ) (set sure r : ℕ) : ℕ → ℕ → Type 0 where
  here : {last i : ℕ} → r ≡ i → Passes bytes cans set sure r last i
  past :
      {last i : ℕ} (next : ℕ) → Idle bytes (bit_and (get_or cans i 0) set) last i
      → Behind (bit_and (get_or cans i 0) sure) last i next
      → Passes bytes cans set sure r next (i + 1)
      → Passes bytes cans set sure r last i

-- what a search from record `from` on may count on
pub record Searched (bytes cans : List ℕ) (last from end : ℕ) : Type 0 where
  pub size : length cans ≡ most_records
  pub small : (i : ℕ) → i < end → get_or cans i 0 < 2 ^ most_variables
  pub behind : last ≤ from
  pub inside : from ≤ end
  pub block : end ≤ record_count bytes
  pub records : record_count bytes ≤ most_records

-- what it finds
pub record Passed (bytes cans : List ℕ) (set sure last from end r : ℕ) : Type 0 where
  pub after : from ≤ r
  pub inside : r ≤ end
  pub passes : Passes bytes cans set sure r last from

-- the same for a set that may have no order mark
pub data Begins (plan bytes cans : List ℕ) (reached set sure last from end r : ℕ) : Type 0 where
  at_once : r ≡ from → Begins plan bytes cans reached set sure last from end r
  later :
      (v : ℕ) → bit set v ≡ true → Marked plan v reached → Passed bytes cans set sure last from end r
      → Begins plan bytes cans reached set sure last from end r

-- ## By the readings

-- how many records there are up to a reading's latest binding
unfoldable pub up_to : Reading → ℕ
up_to [] = 0
up_to (b ∷ bs) = b.at + 1

-- variables bound in a state that take each record that their own conditions allow
pub record Sure (plan : List ℕ) (n reached sure : ℕ) : Type 0 where
  pub below : (v : ℕ) → bit sure v ≡ true → v < n
  pub bound : (v : ℕ) → bit sure v ≡ true → bit reached v ≡ true
  pub leaves : (v : ℕ) → bit sure v ≡ true → leaves_by plan reached v ≡ true
  pub joins : (v : ℕ) → bit sure v ≡ true → joins_in plan v ≡ 0

-- the slot's reading, held before record j, becomes none that holds `reached` before record `from` or a later one and
-- that a record could follow which is no later than the last of the first `last` records
pub record LastAt (plan bytes : List ℕ) (s : Start) (slot : List ℕ) (j reached last from : ℕ) : Type 0 where
  pub late :
      (p : Pattern) → Of p plan bytes s.n s.c → (q : Reading) (k : ℕ)
      → Grows p (records_of bytes) (held_in slot).bindings j q k
      → from ≤ k → k ≤ s.until → (holding q).state ≡ reached → (i : ℕ) → Early bytes last i
      → later_than bytes i q ≡ false
