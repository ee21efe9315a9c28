-- What skip and branch ask for and what they do, by the plan and the slot that they are handed. No promise of a public
-- call names this file.
use Rattle.std.specs.Prelude.{◌≡◌, true, ℕ, suc, ◌≤◌, ◌<◌, ◌^◌, length}
use mathlib.Core.List.{List, Memᴰ}
use Rattle.numbers.specs.Bits.{bit}
use Rattle.records.specs.Records.{records_of}
use Rattle.records.specs.Blocks.{most_records}
use Rattle.patterns.specs.declared.Pattern.{Pattern}
use Rattle.patterns.specs.Patterns.{most_variables}
use Rattle.rule.specs.Rule.{Block, Reading}
use Rattle.rule.specs.Promises.{most_bindings}
use Rattle.rule.specs.Starts.Found.{over}
use Rattle.rule.specs.Starts.{Found, with_binding, in_turn, close, skip_until, found_all}
use Rattle.slots.specs.Slots.{count_in, held_in}
use Rattle.reach.specs.declared.Start.{Start}
use Rattle.reach.specs.Readings.{firing_by, Ready, Of}
use Rattle.reach.specs.Growing.{NeverFull}
use Rattle.starts.specs.declared.Counts.{Counts}
use Rattle.starts.specs.Sinks.{Sink, sink_of, emits, none_yet, Same}

-- ## What is handed on

-- a pattern that the plan is made of, with the duration
pub record By (p : Pattern) (plan bytes : List ℕ) (s : Start) : Type 0 where
  pub of : Of p plan bytes s.n s.c
  pub duration : p.duration ≡ s.duration

-- what is found of a reading, held before record j, has no binding too many before record k
pub record Above (plan bytes : List ℕ) (s : Start) (j : ℕ) (r : Reading) (k : ℕ) : Type 0 where
  pub none :
      (p : Pattern) → By p plan bytes s → (x : ℕ)
      → Memᴰ (over x) (skip_until p (records_of bytes) s.mark s.until j r)
      → k ≤ x

-- a slot at record j where variable v is bound
pub record Taking (plan bytes : List ℕ) (s : Start) (slot : List ℕ) (j v : ℕ) : Type 0 where
  pub ready : Ready plan bytes s slot j
  pub before : j < s.until
  pub room : count_in slot < most_bindings
  pub known : v < s.n
  pub above : Above plan bytes s (suc j) (with_binding (held_in slot).bindings v j) s.floor

-- and where some of the variables fire
pub record Firing (plan bytes : List ℕ) (s : Start) (slot : List ℕ) (j firing : ℕ) : Type 0 where
  pub ready : Ready plan bytes s slot j
  pub before : j < s.until
  pub room : count_in slot < most_bindings
  pub variables : firing < 2 ^ most_variables
  pub known : (v : ℕ) → bit firing v ≡ true → v < s.n

-- and these are all that do
pub record Branching (plan bytes : List ℕ) (s : Start) (slot : List ℕ) (j firing : ℕ) : Type 0 where
  pub fire : Firing plan bytes s slot j firing
  pub all : firing ≡ firing_by plan bytes s.n s.c j (held_in slot)
  pub some : 0 < firing
  pub above : Above plan bytes s j (held_in slot).bindings s.floor

-- ## What can no longer change the answer

-- why no report of the slot's reading, held before record j, counts: a binding too many is known, the counts are told,
-- or the reading is never full
pub data Mute (plan bytes : List ℕ) (s : Start) (slot : List ℕ) (j : ℕ) (counts : Counts) (room : ℕ) : Type 0 where
  decided : counts.least < most_records → Mute plan bytes s slot j counts room
  counted :
      room < counts.used → s.most ≤ counts.used → s.most ≤ counts.readings
      → Mute plan bytes s slot j counts room
  silent : NeverFull plan bytes s slot j → Mute plan bytes s slot j counts room

-- nor does the reading take a binding too many below the least record so far
pub record Settled (plan bytes : List ℕ) (s : Start) (slot : List ℕ) (j : ℕ) (counts : Counts) (room : ℕ) : Type 0
  where
    pub mute : Mute plan bytes s slot j counts room
    pub above : Above plan bytes s j (held_in slot).bindings counts.least

-- ## What is found, for each pattern that the plan is made of

-- after so many branches of a start each one is asked what it can still come to
abbrev pub patience : ℕ
patience = 64

-- a start that took so many branches was not looked at to its end
abbrev pub give_up : ℕ
give_up = 256

-- the count of branches rises, up to the limit; and where the start was looked at to its end, the answer is that of all
-- the findings of the list
pub record Led (Q : Pattern → Type 0) (most limit : ℕ) (list : Pattern → List Found) (before after : Sink) : Type 0
  where
    pub longer : before.steps ≤ after.steps
    pub bounded : before.steps ≤ limit → after.steps ≤ limit
    pub found : after.steps < give_up → (p : Pattern) → Q p → Same most after (emits before (list p))

-- a reading that closes
pub record Closed (s : Start) (slot : List ℕ) (before after : Sink) : Type 0 where
  pub steps : after.steps ≡ before.steps
  pub found : (p : Pattern) → s.n ≡ p.n → after ≡ emits before (close p s.mark (held_in slot).bindings)

-- a reading that binds variable v to record j too
pub record Skipped (plan bytes : List ℕ) (s : Start) (slot : List ℕ) (j v : ℕ) (before after : Sink) : Type 0 where
  pub led :
      Led (λ p. By p plan bytes s) s.most s.limit
      (λ p. skip_until p (records_of bytes) s.mark s.until (suc j) (with_binding (held_in slot).bindings v j))
      before
      after

-- each of the firing variables in turn, at record j
abbrev pub branch_over : Pattern → Block → ℕ → ℕ → ℕ → Reading → ℕ → List Found
branch_over p B mark end j r firing =
    in_turn (bit firing) (λ w. skip_until p B mark end (suc j) (with_binding r w j)) 0 p.n

pub record Branched (plan bytes : List ℕ) (s : Start) (slot : List ℕ) (j firing : ℕ)
    (before after : Sink) : Type 0 where
  pub led :
      Led (λ p. By p plan bytes s) s.most s.limit
      (λ p. branch_over p (records_of bytes) s.mark s.until j (held_in slot).bindings firing)
      before
      after

-- ## Starts

-- from each record in turn, unless a start was given up
pub record AllStarted (plan bytes : List ℕ) (n c duration most limit : ℕ) (before after : Sink) : Type 0 where
  pub bounded : limit < give_up → after.steps < give_up
  pub found :
      after.steps < give_up → (p : Pattern) → Of p plan bytes n c → p.duration ≡ duration
      → Same most after (emits before (found_all p (records_of bytes)))

-- the answer is that of all that is found, with so many lent bytes, whatever stood in them
pub record Passed (p : Pattern) (bytes : List ℕ) (most lent : ℕ) (after : Sink) : Type 0 where
  pub memory : List ℕ
  pub size : length memory ≡ lent
  pub same : Same most after (emits (sink_of memory none_yet) (found_all p (records_of bytes)))
