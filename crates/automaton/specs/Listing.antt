-- What the listing of the automaton promises, from the bytes of the pattern to the answer and the bytes of
-- the slice lent.
use Rattle.std.specs.Prelude.{◌≡◌, List, ◌++◌, ℕ, ◌-◌, ◌*◌, ◌/◌, ◌≤◌, ◌<◌, length, replicate}
use Rattle.numbers.specs.Bytes.{word_size, word_bytes}
use Rattle.records.specs.declared.Answer.{Answer}
use Rattle.records.specs.Blocks.{refused}
use Rattle.patterns.specs.Checked.{pattern_answer, pattern_of}
use Rattle.automaton.specs.Filtering.{collect}
use Rattle.automaton.specs.Automaton.{IsListing}

-- Rule 7.1
abbrev pub step_bytes : ℕ
step_bytes = word_size

-- Rule 7.1: the bytes of a listing
abbrev pub listing_bytes : List ℕ → List ℕ
listing_bytes l = collect word_bytes l

-- Rule 7.1: how many steps a slice of so many bytes has room for
abbrev pub step_room : ℕ → ℕ
step_room lent = lent / step_bytes

-- Rule 7.1: so many bytes that are 0
abbrev pub all_zero : ℕ → List ℕ
all_zero lent = replicate lent 0

-- Rule 7.4: the answer of a success
abbrev pub steps_listed : ℕ → Answer
steps_listed count = record { code = 0; place = 0; used = count; readings = 0; peak = 0 }

-- Rules 7.4, 8.12: for the bytes of a pattern and a slice of `lent` bytes, the answer and the bytes of the slice after
-- the call
pub data ListingPromise (pattern : List ℕ) (lent : ℕ) (answer : Answer) (after : List ℕ) : Type 0 where
  bad_pattern :
      ¬ ((pattern_answer pattern).code ≡ 0) →
      answer ≡ refused (pattern_answer pattern).code (pattern_answer pattern).place →
      after ≡ all_zero lent →
      ListingPromise pattern lent answer after
  -- 12: listing slice too short
  no_room :
      (pattern_answer pattern).code ≡ 0 →
      (l : List ℕ) →
      IsListing (pattern_of pattern) l →
      step_room lent < length l →
      answer ≡ refused 12 0 →
      after ≡ all_zero lent →
      ListingPromise pattern lent answer after
  listed :
      (pattern_answer pattern).code ≡ 0 →
      (l : List ℕ) →
      IsListing (pattern_of pattern) l →
      length l ≤ step_room lent →
      answer ≡ steps_listed (length l) →
      after ≡ listing_bytes l ++ all_zero (lent - step_bytes * length l) →
      ListingPromise pattern lent answer after
