-- What the match program writes on the bytes of its standard input.
use Rattle.std.specs.Prelude.{◌≡◌, List, ℕ, ◌+◌, ◌*◌, ◌≤◌, ◌<◌, length, take, drop}
use Rattle.numbers.specs.Numbers.{number}
use Rattle.records.specs.declared.Answer.{Answer}
use Rattle.records.specs.Records.{record_bytes}
use Rattle.records.specs.Blocks.{most_records, refused}
use Rattle.rule.specs.Rule.{Line, Report}
use Rattle.rule.specs.Calls.{pattern_in, block_in, work_per_reading, most_live, most_result_bytes, ForwardCall}
use Rattle.lines.specs.Text.{answer_text}

-- Rule 9.1
abbrev pub length_bytes : ℕ
length_bytes = 2

-- Rule 9.1
abbrev pub pattern_length : List ℕ → ℕ
pattern_length input = number input 0 length_bytes

-- Rule 9.1
abbrev pub pattern_bytes : List ℕ → List ℕ
pattern_bytes input = take (pattern_length input) (drop length_bytes input)

-- Rule 9.1
abbrev pub block_bytes : List ℕ → List ℕ
block_bytes input = drop (length_bytes + pattern_length input) input

-- Rule 9.1
abbrev pub work_bytes : ℕ
work_bytes = work_per_reading * most_live

-- Rule 9.1
abbrev pub result_bytes : ℕ
result_bytes = most_result_bytes

-- Rule 9.1: the answer, and the result after it
pub data Answered (input : List ℕ) (answer : Answer) (result : List ℕ) : Type 0 where
  -- a length that is cut short is short of its pattern too
  short : length input < length_bytes + pattern_length input → answer ≡ refused 1 0 → Answered input answer result
  called :
      length_bytes + pattern_length input ≤ length input → (work : List ℕ)
      → ForwardCall (pattern_bytes input) (block_bytes input) most_live work_bytes result_bytes answer work result
      → Answered input answer result

-- Rule 9.2: what is written on an input
pub record Program (input text : List ℕ) : Type 0 where
  pub answer : Answer
  pub result : List ℕ
  pub lines : List Line
  pub answered : Answered input answer result
  pub report :
      answer.code ≡ 0
      → Report (pattern_in (pattern_bytes input)) (block_in (block_bytes input)) (length (block_in (block_bytes input))) lines
  pub written : text ≡ answer_text answer lines

-- the longest pattern that two bytes can announce
abbrev pub most_announced : ℕ
most_announced = 65535

-- The program reads so many bytes at most: the length, the longest pattern, and one byte more than a block may have.
abbrev pub input_room : ℕ
input_room = length_bytes + most_announced + (record_bytes * most_records + 1)
