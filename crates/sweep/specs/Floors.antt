-- What readings could come to by own conditions and the order mark alone, and the first record at which one could take
-- a binding too many. No promise of a public call names this file.
use Rattle.std.specs.Prelude.{◌≡◌, Bool, true, ℕ, suc, ◌+◌, ◌^◌, ◌≤◌, ◌<◌}
use mathlib.Core.List.{List, Memᴰ}
use Rattle.std.specs.Int.Bits.{bit_or}
use Rattle.numbers.specs.Bits.{bit, disjoint}
use Rattle.records.specs.Records.{record_at, record_count, records_of, event_kind}
use Rattle.records.specs.Blocks.{most_records}
use Rattle.patterns.specs.declared.Pattern.{Pattern}
use Rattle.patterns.specs.Patterns.{most_variables}
use Rattle.rule.specs.Starts.Found.{over}
use Rattle.rule.specs.Starts.{found_all}
use Rattle.plans.specs.Plan.{marks_in, joins_in}
use Rattle.firing.specs.Firing.{can_by}
use Rattle.reach.specs.Readings.{leaving_by, Of}
use Rattle.sweep.specs.declared.Swept.{Swept}
use Rattle.sweep.specs.declared.Swept.TheVariants.{Reached as taken, NotBefore}

-- record j is past the window of a reading that begins at record i
abbrev pub Past : List ℕ → ℕ → ℕ → ℕ → Type 0
Past bytes duration i j = (record_at bytes i).time + duration < (record_at bytes j).time

-- record j is an event, and not past that window
pub record Open (bytes : List ℕ) (duration i j : ℕ) : Type 0 where
  pub inside : j < record_count bytes
  pub event : (record_at bytes j).kind ≡ event_kind
  pub near : (record_at bytes j).time ≤ (record_at bytes i).time + duration

-- by its own conditions and the order mark record j can be bound to v in a state of k bindings, of which record `last`
-- has the latest
pub record Steps (plan bytes : List ℕ) (n c j k state last v : ℕ) : Type 0 where
  pub can : bit (can_by plan n c bytes j) v ≡ true
  pub leaves : bit (leaving_by plan n state) v ≡ true
  pub later : 0 < k → disjoint state (marks_in plan v) ≡ true → (record_at bytes last).time < (record_at bytes j).time

-- by own conditions and the order mark alone a reading that begins at record i could have k bindings, the latest of
-- record `last`, and a state before record j; with `tight` it passes over no record that it can be bound to, as where
-- no conditions join variables
pub data Comes (plan bytes : List ℕ) (n c duration : ℕ) (tight : Bool) (i : ℕ) : ℕ → ℕ → ℕ → ℕ → Type 0 where
  begins : {k state last j : ℕ} → k ≡ 0 → state ≡ 0 → j ≡ i → Comes plan bytes n c duration tight i k state last j
  waits :
      {k state last j : ℕ} (b : ℕ) → j ≡ suc b → 0 < k → Open bytes duration i b
      → (tight ≡ true → (v : ℕ) → Steps plan bytes n c b k state last v → ⊥)
      → Comes plan bytes n c duration tight i k state last b
      → Comes plan bytes n c duration tight i k state last j
  takes :
      {k state last j : ℕ} (b v l s m : ℕ) → j ≡ suc b → k ≡ suc l → state ≡ bit_or s (2 ^ v) → last ≡ b
      → Open bytes duration i b
      → Steps plan bytes n c b l s m v
      → Comes plan bytes n c duration tight i l s m b
      → Comes plan bytes n c duration tight i k state last j

-- no condition joins two variables
abbrev pub Free : List ℕ → Type 0
Free plan = (v : ℕ) → v < most_variables → joins_in plan v ≡ 0

-- no reading takes a binding too many before the floor
pub record Floor (plan bytes : List ℕ) (n c duration floor : ℕ) : Type 0 where
  pub few : floor ≤ most_records
  pub below :
      (p : Pattern) → Of p plan bytes n c → p.duration ≡ duration
      → (x : ℕ) → Memᴰ (over x) (found_all p (records_of bytes))
      → floor ≤ x

-- a reading takes a binding too many at the floor
pub record Reached (plan bytes : List ℕ) (n c duration floor : ℕ) : Type 0 where
  pub inside : floor < most_records
  pub found :
      (p : Pattern) → Of p plan bytes n c → p.duration ≡ duration
      → Memᴰ (over floor) (found_all p (records_of bytes))

-- what the sweep tells: a reading takes a binding too many first at the record, or none does before it
abbrev pub Sweeps : List ℕ → List ℕ → ℕ → ℕ → ℕ → Swept → Type 0
Sweeps plan bytes n c duration (taken j) = (Floor plan bytes n c duration j) × Reached plan bytes n c duration j
Sweeps plan bytes n c duration (NotBefore j) = Floor plan bytes n c duration j

-- the first record whose window has record j
pub record FirstOpen (bytes : List ℕ) (duration j first : ℕ) : Type 0 where
  pub up_to : first ≤ j
  pub past : (i : ℕ) → i < first → Past bytes duration i j
  pub near : (record_at bytes j).time ≤ (record_at bytes first).time + duration
