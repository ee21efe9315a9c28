-- The numbers and places of refusals.
use Rattle.std.specs.Prelude.{ℕ, Result, Ok, Err}
use Rattle.records.specs.declared.Answer.{Answer}
use Rattle.records.specs.declared.refusals.Refusal.{Refusal}
use Rattle.records.specs.declared.refusals.Refusal.TheVariants.{PatternLength, Header, Variable, Condition, BlockLength}
use Rattle.records.specs.declared.refusals.Refusal.TheVariants.{Record, Time, Limit, Bindings, Live, ResultRoom, SliceRoom}
use Rattle.records.specs.declared.refusals.Refusal.TheVariants.{Line, Index}
use Rattle.records.specs.Blocks.{refused}

-- Serves rules 8.1, 8.2, 8.3, 8.4, 8.5, 8.6, 8.7, 8.8, 8.9, 8.10, 8.11, 8.12, 8.17, 8.19: the number of a refusal
abbrev pub code_of : Refusal → ℕ
code_of PatternLength = 1
code_of Header = 2
code_of (Variable v) = 3
code_of (Condition j) = 4
code_of BlockLength = 5
code_of (Record i) = 6
code_of (Time i) = 7
code_of Limit = 8
code_of (Bindings i) = 9
code_of (Live i) = 10
code_of ResultRoom = 11
code_of SliceRoom = 12
code_of (Line l) = 14
code_of Index = 15

-- Serves rules 8.3, 8.4, 8.6, 8.7, 8.9, 8.10, 8.17: the place of a refusal; places that are not named are 0
abbrev pub place_of : Refusal → ℕ
place_of PatternLength = 0
place_of Header = 0
place_of (Variable v) = v
place_of (Condition j) = j
place_of BlockLength = 0
place_of (Record i) = i
place_of (Time i) = i
place_of Limit = 0
place_of (Bindings i) = i
place_of (Live i) = i
place_of ResultRoom = 0
place_of SliceRoom = 0
place_of (Line l) = l
place_of Index = 0

-- Serves rules 7.2, 7.3: the answer of a call that counts what it read, or refuses
abbrev pub judged_as : Result ℕ Refusal → Answer
judged_as (Ok n) = record { code = 0; place = 0; used = n; readings = 0; peak = 0 }
judged_as (Err r) = refused (code_of r) (place_of r)
