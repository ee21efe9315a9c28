-- How a call on texts ends: bytes given to the caller's slice, or a refusal that leaves it all 0.
use Rattle.std.specs.Prelude.{◌≡◌, List, ◌++◌, ℕ, ◌-◌, ◌≤◌, ◌<◌, length, replicate, Result, Ok, Err}
use Rattle.records.specs.declared.Answer.{Answer}
use Rattle.records.specs.declared.refusals.Refusal.{Refusal}
use Rattle.records.specs.Blocks.{refused}
use Rattle.patterns.specs.Checked.{pattern_answer}
use Rattle.form.specs.Promises.{bytes_written}

pub record Refused (lent code place : ℕ) (answer : Answer) (after : List ℕ) : Type 0 where
  pub told : answer ≡ refused code place
  pub cleared : after ≡ replicate lent 0

pub data Given (bytes : List ℕ) (lent : ℕ) (answer : Answer) (after : List ℕ) : Type 0 where
  short : lent < length bytes → Refused lent 12 0 answer after → Given bytes lent answer after
  whole :
      length bytes ≤ lent → answer ≡ bytes_written (length bytes)
      → after ≡ bytes ++ replicate (lent - length bytes) 0
      → Given bytes lent answer after

-- the bytes of a pattern, if the check of patterns accepts them
pub data Judged (bytes : List ℕ) (lent : ℕ) (answer : Answer) (after : List ℕ) : Type 0 where
  not_accepted :
      ¬ ((pattern_answer bytes).code ≡ 0)
      → Refused lent (pattern_answer bytes).code (pattern_answer bytes).place answer after
      → Judged bytes lent answer after
  accepted : (pattern_answer bytes).code ≡ 0 → Given bytes lent answer after → Judged bytes lent answer after

-- what an outcome leaves of what a call has put into the slice: nothing where it is a refusal
abbrev pub left : Result ℕ Refusal → List ℕ → List ℕ
left (Ok n) memory = memory
left (Err r) memory = replicate (length memory) 0
