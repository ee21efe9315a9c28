-- What the maker of indexes and the search promise, from the caller's bytes to the answer and every byte of lent
-- memory.
use Rattle.std.specs.Prelude.{◌≡◌, true, false, List, ℕ}
use Rattle.records.specs.declared.Answer.{Answer}
use Rattle.records.specs.Blocks.{refused, block_answer}
use Rattle.patterns.specs.Checked.{pattern_answer}
use Rattle.rule.specs.Calls.{input_answer, pattern_in, zeros, LimitInOrder, ForwardCall}
use Rattle.index.specs.Index.{index_bytes, index_broken, index_of, CannotMatch}

-- Rule 7.10: the answer of a maker that succeeds
abbrev pub index_made : Answer
index_made = record { code = 0; place = 0; used = index_bytes; readings = 0; peak = 0 }

-- Rules 7.10, 8.19, 8.20: from the bytes of the block and the length of the slice to the answer and the slice after
-- the call
pub data MakePromise (block : List ℕ) (lent : ℕ) (answer : Answer) (index : List ℕ) : Type 0 where
  refused_slice :
      ¬ (lent ≡ index_bytes) → answer ≡ refused 15 0 → index ≡ zeros lent → MakePromise block lent answer index
  refused_block :
      lent ≡ index_bytes → ¬ ((block_answer block).code ≡ 0) → answer ≡ block_answer block → index ≡ zeros lent
      → MakePromise block lent answer index
  made :
      lent ≡ index_bytes → (block_answer block).code ≡ 0 → answer ≡ index_made → index ≡ index_of block
      → MakePromise block lent answer index

-- Rule 7.11: success, and nothing is reported
abbrev pub nothing : Answer
nothing = record { code = 0; place = 0; used = 0; readings = 0; peak = 0 }

-- Rules 7.11, 8.19, 8.20: from the bytes of pattern, index and block, the limit and the lengths of lent memory to the
-- answer and the memory after the call
pub data SearchCall (pattern index block : List ℕ) (limit lent_work lent_result : ℕ) (answer : Answer)
    (work result : List ℕ) : Type 0 where
  refused_index :
      (pattern_answer pattern).code ≡ 0 → index_broken index ≡ true → answer ≡ refused 15 0 → work ≡ zeros lent_work
      → result ≡ zeros lent_result
      → SearchCall pattern index block limit lent_work lent_result answer work result
  cannot_match :
      (input_answer pattern block).code ≡ 0 → index_broken index ≡ false → LimitInOrder limit lent_work
      → CannotMatch (pattern_in pattern) index
      → answer ≡ nothing
      → work ≡ zeros lent_work
      → result ≡ zeros lent_result
      → SearchCall pattern index block limit lent_work lent_result answer work result
  forwarded :
      ((pattern_answer pattern).code ≡ 0 → index_broken index ≡ false)
      → ((input_answer pattern block).code ≡ 0 → LimitInOrder limit lent_work → ¬ CannotMatch (pattern_in pattern) index)
      → ForwardCall pattern block limit lent_work lent_result answer work result
      → SearchCall pattern index block limit lent_work lent_result answer work result
