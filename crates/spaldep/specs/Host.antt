-- What the C calls that write promise: the packed answer and every byte of the host's memory.
use Rattle.std.specs.Prelude.{◌≡◌, Bool, true, false, List, Result, Ok, Err, eqb, ℕ, ◌%◌, ◌≤◌}
use Rattle.records.specs.declared.Answer.{Answer}
use Rattle.records.specs.Blocks.{refused}
use Rattle.records.specs.declared.refusals.Refusal.{Refusal}
use Rattle.records.specs.Refusals.{code_of, place_of}
use Rattle.patterns.specs.Checked.{pattern_answer}
use Rattle.automaton.specs.Listing.{ListingPromise}
use Rattle.form.specs.Promises.{ReadPromise, WritePromise}
use Rattle.rule.specs.Calls.{most_result_bytes, input_answer, zeros, StartByStartCall, ForwardCall}
use Rattle.index.specs.Index.{index_broken}
use Rattle.index.specs.Upto.{first_refusal}
use Rattle.index.specs.Promises.{MakePromise, SearchCall}
use Rattle.spaldep.specs.Packed.{packed_answer}

-- Rules 7.8, 8.8
pub record ResultInOrder (lent : ℕ) : Type 0 where
  pub even : lent % 2 ≡ 0
  pub short : lent ≤ most_result_bytes

-- the test of a result slice
pub record Fitness (lent : ℕ) (unfit : Bool) : Type 0 where
  pub good : unfit ≡ false → ResultInOrder lent
  pub bad : unfit ≡ true → ¬ ResultInOrder lent

-- Rule 8.8: the answer where the result slice is not in order: pattern and block come first
unfoldable pub unfit_answer : List ℕ → List ℕ → Answer
unfit_answer pattern block =
    elim (eqb (input_answer pattern block).code 0) [ true ↦ refused 8 0 | false ↦ input_answer pattern block ]

-- the same, by what the judges of pattern, index and block say
abbrev pub unfit_of : Result ℕ Refusal → Answer
unfit_of (Ok count) = refused 8 0
unfit_of (Err r) = refused (code_of r) (place_of r)

-- Rule 7.8: spaldep_start_by_start, the packed answer and the result after it
pub data StartByStartHost (pattern block : List ℕ) (lent word : ℕ) (result : List ℕ) : Type 0 where
  refused_result :
      (input_answer pattern block).code ≡ 0 → ¬ ResultInOrder lent → word ≡ packed_answer (refused 8 0)
      → result ≡ zeros lent
      → StartByStartHost pattern block lent word result
  called :
      ((input_answer pattern block).code ≡ 0 → ResultInOrder lent)
      → (answer : Answer) → StartByStartCall pattern block lent answer result → word ≡ packed_answer answer
      → StartByStartHost pattern block lent word result

-- Rule 7.8: spaldep_forward, the packed answer, and working memory and result after it
pub data ForwardHost (pattern block : List ℕ) (limit lent_work lent_result word : ℕ) (work result : List ℕ) : Type 0 where
  refused_result :
      (input_answer pattern block).code ≡ 0 → ¬ ResultInOrder lent_result → word ≡ packed_answer (refused 8 0)
      → work ≡ zeros lent_work → result ≡ zeros lent_result
      → ForwardHost pattern block limit lent_work lent_result word work result
  called :
      ((input_answer pattern block).code ≡ 0 → ResultInOrder lent_result)
      → (answer : Answer) → ForwardCall pattern block limit lent_work lent_result answer work result
      → word ≡ packed_answer answer
      → ForwardHost pattern block limit lent_work lent_result word work result

-- Rule 7.8: spaldep_list_automaton, the packed answer and the listing after it
pub record ListingHost (pattern : List ℕ) (lent word : ℕ) (listing : List ℕ) : Type 0 where
  pub answer : Answer
  pub listed : ListingPromise pattern lent answer listing
  pub packed : word ≡ packed_answer answer

-- Rule 7.8: spaldep_read_text, the packed answer and the slice of the pattern after it
pub record ReadHost (text : List ℕ) (lent word : ℕ) (pattern : List ℕ) : Type 0 where
  pub answer : Answer
  pub read : ReadPromise text lent answer pattern
  pub packed : word ≡ packed_answer answer

-- Rule 7.8: spaldep_write_text, the packed answer and the slice of the text after it
pub record WriteHost (pattern : List ℕ) (lent word : ℕ) (text : List ℕ) : Type 0 where
  pub answer : Answer
  pub wrote : WritePromise pattern lent answer text
  pub packed : word ≡ packed_answer answer

-- Rule 7.8: spaldep_make_index, the packed answer and the slice of the index after it
pub record MakeHost (block : List ℕ) (lent word : ℕ) (index : List ℕ) : Type 0 where
  pub answer : Answer
  pub made : MakePromise block lent answer index
  pub packed : word ≡ packed_answer answer

-- Rules 7.8, 8.8, 8.20: spaldep_search, the packed answer, and working memory and result after it
pub data SearchHost (pattern index block : List ℕ) (limit lent_work lent_result word : ℕ) (work result : List ℕ)
    : Type 0 where
  refused_result :
      (input_answer pattern block).code ≡ 0 → index_broken index ≡ false → ¬ ResultInOrder lent_result
      → word ≡ packed_answer (refused 8 0)
      → work ≡ zeros lent_work
      → result ≡ zeros lent_result
      → SearchHost pattern index block limit lent_work lent_result word work result
  called :
      ((input_answer pattern block).code ≡ 0 → index_broken index ≡ false → ResultInOrder lent_result)
      → (answer : Answer) → SearchCall pattern index block limit lent_work lent_result answer work result
      → word ≡ packed_answer answer
      → SearchHost pattern index block limit lent_work lent_result word work result

-- Serves rule 8.20: the answer of a search where the result slice is not in order
unfoldable pub unfit_search : List ℕ → List ℕ → List ℕ → Answer
unfit_search pattern index block =
    elim (eqb (first_refusal (pattern_answer pattern).code (pattern_answer pattern).place (index_broken index)).code 0) [
      | false ↦ first_refusal (pattern_answer pattern).code (pattern_answer pattern).place (index_broken index)
      | true ↦ unfit_answer pattern block
    ]
