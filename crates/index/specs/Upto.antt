-- What the maker has counted on its way through a block, and what the search asks of pattern and index.
use Rattle.std.specs.Prelude.{◌≡◌, Bool, true, false, ◌&&◌, List, [], ◌∷◌, map, Result, Ok, Err, ℕ, ◌+◌, ◌-◌, ◌/◌, ◌≤◌, ◌<◌, eqb, get_or}
use Rattle.numbers.specs.Numbers.{upto, count}
use Rattle.numbers.specs.Bits.{mask}
use Rattle.records.specs.declared.Answer.{Answer}
use Rattle.records.specs.Records.{record_at, record_count, event_kind}
use Rattle.records.specs.Blocks.{refused, record_refusal, block_answer}
use Rattle.records.specs.declared.refusals.Refusal.{Refusal}
use Rattle.records.specs.Refusals.{code_of, place_of}
use Rattle.patterns.specs.declared.Pattern.{Pattern}
use Rattle.index.specs.Index.{index_bytes, index_of, classes, cores, count_up_to, has_up_to, CannotMatch}

-- the counts of the first n records, class by class
unfoldable pub counts_up_to : List ℕ → ℕ → List ℕ
counts_up_to block n = map (count_up_to block n) (upto 0 classes)

-- record i is an event of the b-th sixteen types
unfoldable pub is_of_types : List ℕ → ℕ → ℕ → Bool
is_of_types block b i = eqb (record_at block i).kind event_kind && eqb ((record_at block i).event_type / 16) b

-- the events of the first n records by sixteen types, of which a class has one or more
unfoldable pub types_up_to : List ℕ → ℕ → List ℕ
types_up_to block n = map (λ b. count (is_of_types block b) n) (upto 0 16)

-- counts by sixteen types, put together class by class
unfoldable pub fold_types : List ℕ → List ℕ
fold_types l =
    get_or l 0 0
    ∷ get_or l 1 0
    ∷ (get_or l 2 0 + get_or l 3 0)
    ∷ (get_or l 4 0 + get_or l 5 0)
    ∷ (get_or l 6 0 + get_or l 7 0)
    ∷ (get_or l 8 0 + get_or l 9 0 + get_or l 10 0 + get_or l 11 0 + get_or l 12 0 + get_or l 13 0 + get_or l 14 0 + get_or l 15 0)
    ∷ []

-- for each core whether the first n records have an event of it
unfoldable pub seen_up_to : List ℕ → ℕ → List Bool
seen_up_to block n = map (has_up_to block n) (upto 0 cores)

-- the bits of those cores that are marked
unfoldable pub marked_bits : List Bool → ℕ
marked_bits l = mask (λ j. get_or l (cores - 1 - j) false) cores

-- how far the maker has come: the records below n are in order and counted
pub record Counted (block : List ℕ) (n : ℕ) (types : List ℕ) (seen : List Bool) : Type 0 where
  pub inside : n ≤ record_count block
  pub good : (j : ℕ) → j < n → record_refusal block j ≡ 0
  -- a type is a byte
  pub small : (j : ℕ) → j < n → (record_at block j).event_type < 256
  pub counted : types ≡ types_up_to block n
  pub marked : seen ≡ seen_up_to block n

-- what the maker leaves in a slice that is as long as an index
abbrev pub Filled : List ℕ → List ℕ → List ℕ → Result ℕ Refusal → Type 0
Filled block old new (Ok n) = (n ≡ index_bytes) × ((block_answer block).code ≡ 0) × (new ≡ index_of block)
Filled block old new (Err r) =
    (block_answer block ≡ refused (code_of r) (place_of r)) × (¬ (code_of r ≡ 0)) × (new ≡ old)

-- what pattern and index are refused by, the pattern by code and place: it comes first
unfoldable pub first_refusal : ℕ → ℕ → Bool → Answer
first_refusal code place broken =
    elim (eqb code 0) [
      | false ↦ refused code place
      | true ↦ elim broken [ true ↦ refused 15 0 | false ↦ refused 0 0 ]
    ]

-- the test whether a pattern cannot match
pub record Decided (p : Pattern) (index : List ℕ) (cannot : Bool) : Type 0 where
  pub yes : cannot ≡ true → CannotMatch p index
  pub no : cannot ≡ false → ¬ CannotMatch p index
