-- What the readings that a slot's reading can grow to bind, and before which record they do not. Variables stand in
-- masks, bit v for variable v. No promise of a public call names this file.
use Rattle.std.specs.Prelude.{◌≡◌, true, false, ◌&&◌, List, ℕ, ◌+◌, ◌^◌, ◌≤◌, ◌<◌}
use Rattle.numbers.specs.Numbers.{count}
use Rattle.numbers.specs.Bits.{bit}
use Rattle.records.specs.Records.{records_of}
use Rattle.patterns.specs.declared.Pattern.{Pattern}
use Rattle.patterns.specs.Patterns.{most_variables}
use Rattle.rule.specs.Rule.{Reading, binds}
use Rattle.slots.specs.Slots.{held_in}
use Rattle.reach.specs.declared.Start.{Start}
use Rattle.reach.specs.Readings.{Of, Ready, Cans}
use Rattle.reach.specs.Growing.{Grows}

-- how many variables a mask has
abbrev pub size_of : ℕ → ℕ
size_of x = count (bit x) most_variables

-- how many of them a reading binds
abbrev pub bound_of : ℕ → Reading → ℕ
bound_of x q = count (λ v. bit x v && binds q v) most_variables

-- The slot's reading, held before record j, becomes none ..

-- .. that has bound a variable outside `reached` before record `from`
pub record Within (plan bytes : List ℕ) (s : Start) (slot : List ℕ) (j reached from : ℕ) : Type 0 where
  pub unbound :
      (p : Pattern) → Of p plan bytes s.n s.c → (q : Reading) (i : ℕ)
      → Grows p (records_of bytes) (held_in slot).bindings j q i
      → i ≤ from → (v : ℕ) → v < s.n → bit reached v ≡ false
      → binds q v ≡ false

-- .. that has bound a variable of x before record `from`
pub record Without (plan bytes : List ℕ) (s : Start) (slot : List ℕ) (j x from : ℕ) : Type 0 where
  pub unbound :
      (p : Pattern) → Of p plan bytes s.n s.c → (q : Reading) (i : ℕ)
      → Grows p (records_of bytes) (held_in slot).bindings j q i
      → i ≤ from → (v : ℕ) → bit x v ≡ true
      → binds q v ≡ false

-- .. that has bound all variables of x but `left` before record i
pub record Lacks (plan bytes : List ℕ) (s : Start) (slot : List ℕ) (j x i left : ℕ) : Type 0 where
  pub few :
      (p : Pattern) → Of p plan bytes s.n s.c → (q : Reading)
      → Grows p (records_of bytes) (held_in slot).bindings j q i
      → bound_of x q + left ≤ size_of x

-- .. that holds all variables of x before a record below `end`
pub record Late (plan bytes : List ℕ) (s : Start) (slot : List ℕ) (j x end : ℕ) : Type 0 where
  pub from :
      (p : Pattern) → Of p plan bytes s.n s.c → (q : Reading) (i : ℕ)
      → Grows p (records_of bytes) (held_in slot).bindings j q i
      → ((v : ℕ) → bit x v ≡ true → binds q v ≡ true)
      → end ≤ i

-- what a search from record `from` on for records of variables x may count on
pub record Asks (plan bytes cans : List ℕ) (s : Start) (slot : List ℕ) (j x from : ℕ) : Type 0 where
  pub ready : Ready plan bytes s slot j
  pub settled : Cans plan bytes s.n s.c cans
  pub some : 0 < x
  pub variables : x < 2 ^ most_variables
  pub after : j ≤ from
  pub inside : from ≤ s.until
  pub without : Without plan bytes s slot j x from

-- what it finds: no reading holds all of x before a record below `end`
pub record Found (plan bytes : List ℕ) (s : Start) (slot : List ℕ) (j x from end : ℕ) : Type 0 where
  pub after : from ≤ end
  pub late : Late plan bytes s slot j x end

-- or no reading holds all of x before the record at which it closes
abbrev pub Never : List ℕ → List ℕ → Start → List ℕ → ℕ → ℕ → Type 0
Never plan bytes s slot j x = Late plan bytes s slot j x (s.until + 1)
