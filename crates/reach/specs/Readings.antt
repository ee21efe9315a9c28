-- What a pass from one start hands on: readings in slots, what each record's own conditions allow, and the next record
-- that fires. No promise of a public call names this file.
use Rattle.std.specs.Prelude.{◌≡◌, true, false, ◌&&◌, ℕ, suc, ◌≤◌, ◌<◌, length, get_or}
use mathlib.Core.List.{List, Memᴰ}
use Rattle.std.specs.Int.Bits.{bit_and}
use Rattle.numbers.specs.Bits.{bit, mask}
use Rattle.records.specs.Records.{record_at, record_count, records_of}
use Rattle.records.specs.Blocks.{most_records}
use Rattle.patterns.specs.declared.Pattern.{Pattern}
use Rattle.patterns.specs.Patterns.{most_variables, most_conditions}
use Rattle.patterns.specs.Checked.{InOrder}
use Rattle.rule.specs.Rule.{Binding, Reading, TimesNeverFall, last_of}
use Rattle.rule.specs.Promises.{most_bindings}
use Rattle.slots.specs.Slots.{Held, slot_bytes, count_in, held_in, holding}
use Rattle.plans.specs.Plan.{IsPlan, Sound, Classed}
use Rattle.firing.specs.Firing.{can_by, leaves_by, joins_by, agrees_by, fires_by}
use Rattle.reach.specs.declared.Start.{Start}
use Rattle.reach.specs.declared.Fire.{Fire}

-- the variables that fire at record i, of n variables and c conditions
unfoldable pub firing_by : List ℕ → List ℕ → ℕ → ℕ → ℕ → Held → ℕ
firing_by plan bytes n c i h = mask (λ v. fires_by plan bytes i (can_by plan n c bytes i) v h) n

-- the same in parts: the variables that leave a state, and those of a mask that agree with a reading's bindings
unfoldable pub leaving_by : List ℕ → ℕ → ℕ → ℕ
leaving_by plan n state = mask (leaves_by plan state) n

unfoldable pub agreeing_by : List ℕ → List ℕ → ℕ → ℕ → Held → ℕ
agreeing_by plan bytes i asked h = mask (λ v. bit asked v && agrees_by plan bytes i v h) most_variables

-- no variable of a mask joins a reading at record i
pub record NoneJoins (plan bytes : List ℕ) (i asked : ℕ) (r : Reading) : Type 0 where
  pub each : (v : ℕ) → bit asked v ≡ true → joins_by plan bytes i v r ≡ false

-- for each record the variables whose own conditions hold of it
pub record Cans (plan bytes : List ℕ) (n c : ℕ) (cans : List ℕ) : Type 0 where
  pub size : length cans ≡ most_records
  pub each : (i : ℕ) → i < record_count bytes → get_or cans i 0 ≡ can_by plan n c bytes i

-- a slot that holds a reading of the first n variables, with its state; its records stand below j, none of them behind
-- the latest binding's
pub record Reads (n j : ℕ) (slot : List ℕ) : Type 0 where
  pub size : length slot ≡ slot_bytes
  pub few : count_in slot ≤ most_bindings
  pub held : held_in slot ≡ holding (held_in slot).bindings
  pub variable : (b : Binding) → Memᴰ b (held_in slot).bindings → b.variable < n
  pub below : (b : Binding) → Memᴰ b (held_in slot).bindings → b.at < j
  pub latest : (b : Binding) → Memᴰ b (held_in slot).bindings → b.at ≤ last_of (held_in slot).bindings

-- a plan, a block and the counts of variables and conditions that go with them
pub record Usable (plan bytes : List ℕ) (n c : ℕ) : Type 0 where
  pub sound : Sound plan
  pub classed : Classed plan n c
  pub variables : n ≤ most_variables
  pub conditions : c ≤ most_conditions
  pub records : record_count bytes ≤ most_records
  pub climbing : (i : ℕ) → suc i < record_count bytes → (record_at bytes i).time ≤ (record_at bytes (suc i)).time

-- what a call at record j may count on
pub record Ready (plan bytes : List ℕ) (s : Start) (slot : List ℕ) (j : ℕ) : Type 0 where
  pub usable : Usable plan bytes s.n s.c
  pub mark : s.mark < 16
  pub block : s.until ≤ record_count bytes
  pub within : j ≤ s.until
  pub reads : Reads s.n j slot

-- r is the next record from the first on, before the end, at which one of the variables can fire by its own conditions;
-- the end where there is none
pub record NextCan (cans : List ℕ) (variables first end r : ℕ) : Type 0 where
  pub from : first ≤ r
  pub up_to : r ≤ end
  pub passed : (k : ℕ) → first ≤ k → k < r → bit_and (get_or cans k 0) variables ≡ 0

-- f is the next record from j on that fires, and the variables that fire there; the record at which the reading closes,
-- where none does
pub record NextBy (plan bytes : List ℕ) (s : Start) (slot : List ℕ) (j : ℕ) (f : Fire) : Type 0 where
  pub from : j ≤ f.at
  pub up_to : f.at ≤ s.until
  pub passed : (i : ℕ) → j ≤ i → i < f.at → firing_by plan bytes s.n s.c i (held_in slot) ≡ 0
  pub here : f.at < s.until → f.variables ≡ firing_by plan bytes s.n s.c f.at (held_in slot)
  pub some : f.at < s.until → 0 < f.variables

-- a pattern that the plan is made of
pub record Of (p : Pattern) (plan bytes : List ℕ) (n c : ℕ) : Type 0 where
  pub order : InOrder p
  pub made : IsPlan p plan
  pub rising : TimesNeverFall (records_of bytes)
  pub variables : n ≡ p.n
  pub conditions : c ≡ p.c
