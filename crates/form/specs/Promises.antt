-- What the reader and the writer of texts promise: from the bytes given to the answer and every byte of the slice lent.
use Rattle.std.specs.Prelude.{◌≡◌, List, ◌++◌, ℕ, ◌-◌, ◌^◌, ◌≤◌, ◌<◌, min, length, replicate}
use Rattle.numbers.specs.Numbers.{upto}
use Rattle.records.specs.declared.Answer.{Answer}
use Rattle.records.specs.Blocks.{refused}
use Rattle.patterns.specs.Checked.{pattern_answer}
use Rattle.patterns.specs.Patterns.{variable_count}
use Rattle.form.specs.Form.{Making, names, text_of, first_letter, InOrder, InForm}
use Rattle.form.specs.Lines.{FirstBad}
use Rattle.form.specs.Packed.{pattern_bytes, Fits}

-- Rule 7.9: the answer of a success tells the bytes written
abbrev pub bytes_written : ℕ → Answer
bytes_written bytes = record { code = 0; place = 0; used = bytes; readings = 0; peak = 0 }

-- Rule 8.17: a place stops at the largest one
abbrev pub most_place : ℕ
most_place = 2 ^ 32 - 1

-- Rules 7.9, 8.12, 8.17, 8.18: for the bytes of a text and a slice of `lent` bytes, the answer and the slice after the
-- call
pub data ReadPromise (text : List ℕ) (lent : ℕ) (answer : Answer) (after : List ℕ) : Type 0 where
  -- 14: text outside the form
  outside :
      (place : ℕ) → FirstBad text place
      → answer ≡ refused 14 (min place most_place)
      → after ≡ replicate lent 0
      → ReadPromise text lent answer after
  -- 2: too many variables or conditions, or too long a duration
  too_large :
      (m : Making) → InForm text m → ¬ Fits m
      → answer ≡ refused 2 0
      → after ≡ replicate lent 0
      → ReadPromise text lent answer after
  -- 3: too many sets, or too large a set
  bad_set :
      (m : Making) → InForm text m → Fits m → (pattern_answer (pattern_bytes m)).code ≡ 3
      → answer ≡ refused 3 (pattern_answer (pattern_bytes m)).place
      → after ≡ replicate lent 0
      → ReadPromise text lent answer after
  -- 12: slice too short
  no_room :
      (m : Making) → InForm text m → Fits m → (pattern_answer (pattern_bytes m)).code ≡ 0 → lent < length (pattern_bytes m)
      → answer ≡ refused 12 0
      → after ≡ replicate lent 0
      → ReadPromise text lent answer after
  read :
      (m : Making) → InForm text m → Fits m → (pattern_answer (pattern_bytes m)).code ≡ 0 → length (pattern_bytes m) ≤ lent
      → answer ≡ bytes_written (length (pattern_bytes m))
      → after ≡ pattern_bytes m ++ replicate (lent - length (pattern_bytes m)) 0
      → ReadPromise text lent answer after

-- Rule 11.7: the making of a pattern, with a, b, c for its variables
pub record Names (pattern : List ℕ) (m : Making) : Type 0 where
  pub order : InOrder m
  pub fits : Fits m
  pub alphabet : names m.sets ≡ upto first_letter (variable_count pattern)
  pub same : pattern_bytes m ≡ pattern

-- Rule 11.7: the longest text of a pattern: eight set lines with twelve group variables, 32 conditions that ask an
-- amount for being at least the least one, and the longest duration
abbrev pub most_text : ℕ
most_text = 1017

-- Rules 7.9, 8.12, 8.18: for the bytes of a pattern and a slice of `lent` bytes, the answer and the slice after the
-- call
pub data WritePromise (pattern : List ℕ) (lent : ℕ) (answer : Answer) (after : List ℕ) : Type 0 where
  bad_pattern :
      ¬ ((pattern_answer pattern).code ≡ 0)
      → answer ≡ refused (pattern_answer pattern).code (pattern_answer pattern).place
      → after ≡ replicate lent 0
      → WritePromise pattern lent answer after
  -- 12: slice too short
  no_room :
      (pattern_answer pattern).code ≡ 0 → (m : Making) → Names pattern m → lent < length (text_of m)
      → answer ≡ refused 12 0
      → after ≡ replicate lent 0
      → WritePromise pattern lent answer after
  wrote :
      (pattern_answer pattern).code ≡ 0 → (m : Making) → Names pattern m → length (text_of m) ≤ lent
      → answer ≡ bytes_written (length (text_of m))
      → after ≡ text_of m ++ replicate (lent - length (text_of m)) 0
      → WritePromise pattern lent answer after
