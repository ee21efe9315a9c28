-- What the start-by-start pass has written and counted, and what a finding does to it. No promise of a public call
-- names this file.
use Rattle.std.specs.Prelude.{◌≡◌, true, false, List, [], ◌∷◌, ◌++◌, ℕ, ◌+◌, ◌-◌, ◌*◌, ◌/◌, ◌≤◌, ◌<◌, min, leb, ltb, length, take, replicate, Result, Ok, Err}
use Rattle.numbers.specs.Numbers.{bytes_of, written}
use Rattle.records.specs.declared.Answer.{Answer}
use Rattle.records.specs.Blocks.{refused, most_records}
use Rattle.records.specs.declared.refusals.Refusal.{Refusal}
use Rattle.records.specs.Refusals.{code_of, place_of}
use Rattle.patterns.specs.declared.Pattern.{Pattern}
use Rattle.rule.specs.Calls.{input_answer, pattern_in}
use Rattle.rule.specs.Promises.{most_counted}
use Rattle.rule.specs.Starts.{Found}
use Rattle.rule.specs.Starts.Found.{closed, over}
use Rattle.slots.specs.Results.{line_numbers}
use Rattle.starts.specs.declared.Counts.{Counts}

-- the lent result beside the counts: numbers, readings, and the least record at which a reading would take a binding
-- too many; and how long this start is being looked at
pub record Sink : Type 0 where
  pub memory : List ℕ
  pub used : ℕ
  pub readings : ℕ
  pub least : ℕ
  pub steps : ℕ

abbrev pub sink_of : List ℕ → Counts → Sink
sink_of memory counts =
    record {
      memory = memory;
      used = counts.used;
      readings = counts.readings;
      least = counts.least;
      steps = counts.steps;
    }

-- counts stop at the largest number of 64 bits, which is beyond any room
abbrev pub stop : ℕ
stop = 18446744073709551615

unfoldable pub sum : ℕ → ℕ → ℕ
sum a b = min (a + b) stop

-- bytes written at a place, where they fit
unfoldable pub put : List ℕ → ℕ → List ℕ → List ℕ
put memory at bytes =
    elim (leb (at + length bytes) (length memory)) [ true ↦ written memory at bytes | false ↦ memory ]

-- a reading that closed is written behind the numbers so far and counted; of the records with a binding too many the
-- least is kept
unfoldable pub emit : Sink → Found → Sink
emit s (closed mark r) =
    record {
      memory = put s.memory (2 * s.used) (bytes_of (line_numbers mark r));
      used = sum s.used (length r + 1);
      readings = sum s.readings 1;
      least = s.least;
      steps = s.steps;
    }
emit s (over j) =
    record {
      memory = s.memory;
      used = s.used;
      readings = s.readings;
      least = min s.least j;
      steps = s.steps;
    }

unfoldable pub emits : Sink → List Found → Sink
emits s [] = s
emits s (e ∷ l) = emits (emit s e) l

-- nothing counted; the number of no record stands for none with a binding too many
abbrev pub none_yet : Counts
none_yet = record { used = 0; readings = 0; least = most_records; steps = 0 }

-- ## Sinks that give the same answer

-- reports change the answer no more: there is no room for the numbers so far, and both counts have come to `most`,
-- beyond which the answer does not tell them
pub record Told (most : ℕ) (s : Sink) : Type 0 where
  pub room : length s.memory / 2 < s.used
  pub used : most ≤ s.used
  pub readings : most ≤ s.readings
  pub used_fits : s.used ≤ stop
  pub readings_fit : s.readings ≤ stop

-- the answer by s is that by t, whatever both come upon next: they have the same least record with a binding too many,
-- and beside it the same bytes and counts, unless that record decides or reports change nothing any more
pub data Same (most : ℕ) (s t : Sink) : Type 0 where
  equal : s.memory ≡ t.memory → s.used ≡ t.used → s.readings ≡ t.readings → s.least ≡ t.least → Same most s t
  known :
      length s.memory ≡ length t.memory → s.least ≡ t.least → s.least < most_records → Same most s t
  told :
      length s.memory ≡ length t.memory → s.least ≡ t.least → Told most s → Told most t → Same most s t

-- ## The answer

-- what is judged before the pass: the checked pattern of the bytes, where pattern and block are in order, or what they
-- are refused with
abbrev pub Accepted : List ℕ → List ℕ → Result Pattern Refusal → Type 0
Accepted pattern block (Ok p) = ((input_answer pattern block).code ≡ 0) × (p ≡ pattern_in pattern)
Accepted pattern block (Err r) =
    ¬ ((input_answer pattern block).code ≡ 0) × (refused (code_of r) (place_of r) ≡ input_answer pattern block)

-- 9, then 11, by what was counted
unfoldable pub answer_by : Counts → ℕ → Answer
answer_by counts room =
    elim (ltb counts.least most_records) [
      | true ↦ refused 9 counts.least
      | false ↦ elim (ltb room counts.used) [
        | true ↦ refused 11 0
        | false ↦ record { code = 0; place = 0; used = counts.used; readings = counts.readings; peak = 0 }
      ]
    ]

-- the lent bytes after it: all 0 with a refusal, else those behind what was written
unfoldable pub left_by : Counts → List ℕ → List ℕ
left_by counts memory =
    elim (ltb counts.least most_records) [
      | true ↦ replicate (length memory) 0
      | false ↦ elim (ltb (length memory / 2) counts.used) [
        | true ↦ replicate (length memory) 0
        | false ↦ take (2 * counts.used) memory ++ replicate (length memory - 2 * counts.used) 0
      ]
    ]

-- measure refuses as the pass does, but never 11; each count stops at 4,294,967,295
unfoldable pub measure_by : Counts → Answer
measure_by counts =
    elim (ltb counts.least most_records) [
      | true ↦ refused 9 counts.least
      | false ↦ record {
        code = 0;
        place = 0;
        used = min counts.used most_counted;
        readings = min counts.readings most_counted;
        peak = 0;
      }
    ]
