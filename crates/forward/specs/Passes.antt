-- What the pass takes, and what it answers.
use Rattle.std.specs.Prelude.{◌≡◌, Bool, true, false, ◌||◌, List, ◌++◌, Result, Ok, Err, ℕ, ◌-◌, ◌*◌, ◌/◌, ◌≤◌, ltb, length, take, replicate}
use Rattle.numbers.specs.Numbers.{bytes_of, written}
use Rattle.records.specs.declared.Answer.{Answer}
use Rattle.records.specs.Records.{record_count, records_of}
use Rattle.records.specs.Blocks.{most_records, refused, block_answer}
use Rattle.records.specs.declared.refusals.Refusal.{Refusal}
use Rattle.records.specs.Refusals.{code_of, place_of}
use Rattle.patterns.specs.declared.Pattern.{Pattern}
use Rattle.patterns.specs.Checked.{InOrder, pattern_answer}
use Rattle.rule.specs.Rule.{Line, TimesNeverFall, pack}
use Rattle.rule.specs.Computed.{forward}
use Rattle.rule.specs.Calls.{most_live, work_per_reading, pattern_in}
use Rattle.plans.specs.Plan.{IsPlan}

-- a checked pattern with its plan, and a checked block
pub record Prepared (p : Pattern) (plan bytes : List ℕ) : Type 0 where
  pub pattern : InOrder p
  pub made : IsPlan p plan
  pub times : TimesNeverFall (records_of bytes)
  pub few : record_count bytes ≤ most_records

-- success: the lines of the report, written from the result's first byte on
pub record Done (p : Pattern) (bytes : List ℕ) (limit : ℕ) (lent result : List ℕ) (answer : Answer) : Type 0 where
  pub lines : List Line
  pub is :
      forward p (records_of bytes) limit (length lent / 2)
      ≡ record { answer = answer; numbers = pack lines ++ replicate (length lent / 2 - length (pack lines)) 0 }
  pub used : answer.used ≡ length (pack lines)
  pub fits : length (pack lines) ≤ length lent / 2
  pub told : result ≡ written lent 0 (bytes_of (pack lines))

-- the answer of the pass
pub record Ran (p : Pattern) (bytes : List ℕ) (limit : ℕ) (lent result : List ℕ) (answer : Answer) : Type 0 where
  pub refuses :
      ¬ (answer.code ≡ 0)
      → forward p (records_of bytes) limit (length lent / 2)
      ≡ record { answer = answer; numbers = replicate (length lent / 2) 0 }
  pub succeeds : answer.code ≡ 0 → Done p bytes limit lent result answer

-- the result after the call: what was told and then 0, or all 0 with a refusal
pub record Finished (answer : Answer) (told result : List ℕ) : Type 0 where
  pub cleared : ¬ (answer.code ≡ 0) → result ≡ replicate (length told) 0
  pub done : answer.code ≡ 0 → result ≡ take (2 * answer.used) told ++ replicate (length told - 2 * answer.used) 0

-- rule 8.8: the limit or the working memory is not in order
unfoldable pub limit_broken : ℕ → ℕ → Bool
limit_broken limit lent = ltb limit 1 || (ltb most_live limit || ltb lent (work_per_reading * limit))

-- the answer of what succeeds or is refused
abbrev pub answer_of : Result Answer Refusal → Answer
answer_of (Ok answer) = answer
answer_of (Err r) = refused (code_of r) (place_of r)

-- what a call answers: the pattern is judged first, then the block, then the limit, and the pass answers the rest
pub data Called (pattern block : List ℕ) (limit lent_work : ℕ) (lent told : List ℕ) (answer : Answer) : Type 0 where
  bad_pattern :
      ¬ ((pattern_answer pattern).code ≡ 0)
      → answer ≡ refused (pattern_answer pattern).code (pattern_answer pattern).place → length told ≡ length lent
      → Called pattern block limit lent_work lent told answer
  bad_block :
      (pattern_answer pattern).code ≡ 0 → ¬ ((block_answer block).code ≡ 0) → answer ≡ block_answer block
      → length told ≡ length lent
      → Called pattern block limit lent_work lent told answer
  bad_limit :
      (pattern_answer pattern).code ≡ 0 → (block_answer block).code ≡ 0 → limit_broken limit lent_work ≡ true
      → answer ≡ refused 8 0 → length told ≡ length lent
      → Called pattern block limit lent_work lent told answer
  passed :
      (pattern_answer pattern).code ≡ 0 → (block_answer block).code ≡ 0 → limit_broken limit lent_work ≡ false
      → Ran (pattern_in pattern) block limit lent told answer → length told ≡ length lent
      → Called pattern block limit lent_work lent told answer
