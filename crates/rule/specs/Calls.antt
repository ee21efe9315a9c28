-- What the calls of the two passes and of measure promise, from the caller's bytes to the answer and every byte of lent
-- memory.
use Rattle.std.specs.Prelude.{◌≡◌, true, false, List, ◌++◌, ℕ, ◌-◌, ◌*◌, ◌/◌, ◌≤◌, eqb, length, replicate}
use Rattle.numbers.specs.Numbers.{bytes_of}
use Rattle.records.specs.declared.Answer.{Answer}
use Rattle.records.specs.Records.{records_of}
use Rattle.records.specs.Blocks.{refused, block_answer}
use Rattle.patterns.specs.declared.Pattern.{Pattern}
use Rattle.patterns.specs.Checked.{pattern_answer}
use Rattle.rule.specs.Rule.{Block}
use Rattle.rule.specs.Promises.{Forward, StartByStart, Measure}

-- Rule 8.14: what pattern and block are refused with; code 0 where both are in order
unfoldable pub input_answer : List ℕ → List ℕ → Answer
input_answer pattern block =
    elim (eqb (pattern_answer pattern).code 0) [
      | false ↦ refused (pattern_answer pattern).code (pattern_answer pattern).place
      | true ↦ block_answer block
    ]

-- Serves rules 7.5, 7.6, 7.7: the checked pattern of the bytes
abbrev pub pattern_in : List ℕ → Pattern
pattern_in pattern = (pattern_answer pattern).pattern

-- Serves rules 7.5, 7.6, 7.7: the records of the bytes
abbrev pub block_in : List ℕ → Block
block_in block = records_of block

-- Rule 7.1: so many bytes that are 0
abbrev pub zeros : ℕ → List ℕ
zeros lent = replicate lent 0

-- Rule 7.1: how many numbers a result of so many bytes has room for
abbrev pub room_in : ℕ → ℕ
room_in lent = lent / 2

-- Rule 7.1: the bytes of a result that holds these numbers
abbrev pub result_of : ℕ → List ℕ → List ℕ
result_of lent numbers = bytes_of numbers ++ zeros (lent - 2 * length numbers)

-- Rule 7.6: from the bytes of pattern and block and the length of the result to the answer and the result after the
-- call
pub data StartByStartCall (pattern block : List ℕ) (lent : ℕ) (answer : Answer) (result : List ℕ) : Type 0 where
  refused_input :
      ¬ ((input_answer pattern block).code ≡ 0) → answer ≡ input_answer pattern block → result ≡ zeros lent
      → StartByStartCall pattern block lent answer result
  answered :
      (input_answer pattern block).code ≡ 0
      → (numbers : List ℕ)
      → StartByStart (pattern_in pattern) (block_in block) (room_in lent) (record { answer = answer; numbers = numbers })
      → result ≡ result_of lent numbers
      → StartByStartCall pattern block lent answer result

-- Rule 7.7: from the bytes of pattern and block to the answer
pub data MeasureCall (pattern block : List ℕ) (answer : Answer) : Type 0 where
  refused_input :
      ¬ ((input_answer pattern block).code ≡ 0) → answer ≡ input_answer pattern block → MeasureCall pattern block answer
  answered :
      (input_answer pattern block).code ≡ 0 → Measure (pattern_in pattern) (block_in block) answer
      → MeasureCall pattern block answer

-- Rule 7.5
abbrev pub work_per_reading : ℕ
work_per_reading = 160

-- Rule 7.5
abbrev pub most_live : ℕ
most_live = 256

-- Rule 7.8: the longest result slice of a C call, which the match program lends too
abbrev pub most_result_bytes : ℕ
most_result_bytes = 65536

-- Rule 8.8: limit and working memory are in order
pub record LimitInOrder (limit lent : ℕ) : Type 0 where
  pub some : 1 ≤ limit
  pub few : limit ≤ most_live
  pub room : work_per_reading * limit ≤ lent

-- Rule 7.5: from the bytes of pattern and block, the limit and the lengths of lent memory to the answer and the memory
-- after the call
pub data ForwardCall (pattern block : List ℕ) (limit lent_work lent_result : ℕ) (answer : Answer)
    (work result : List ℕ) : Type 0 where
  refused_input :
      ¬ ((input_answer pattern block).code ≡ 0) → answer ≡ input_answer pattern block → work ≡ zeros lent_work
      → result ≡ zeros lent_result
      → ForwardCall pattern block limit lent_work lent_result answer work result
  refused_limit :
      (input_answer pattern block).code ≡ 0 → ¬ LimitInOrder limit lent_work → answer ≡ refused 8 0 → work ≡ zeros lent_work
      → result ≡ zeros lent_result
      → ForwardCall pattern block limit lent_work lent_result answer work result
  answered :
      (input_answer pattern block).code ≡ 0 → LimitInOrder limit lent_work
      → (numbers : List ℕ)
      → Forward (pattern_in pattern) (block_in block) limit (room_in lent_result)
      (record { answer = answer; numbers = numbers })
      → work ≡ zeros lent_work
      → result ≡ result_of lent_result numbers
      → ForwardCall pattern block limit lent_work lent_result answer work result
