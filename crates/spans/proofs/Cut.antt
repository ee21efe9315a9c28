-- Input that does not fit the program's room is not cut short: the block is too long even so, and what is written is
-- the text of the whole input. Assumes nothing.
use mathlib.Core.Path.{◌≡◌, sym, ap, ap₂, ◌∙◌}
use mathlib.Core.Bool.{true}
use mathlib.Core.List.{List, [], ◌∷◌}
use Prim.Native.Nat.{ℕ, zero, suc, ◌+◌, ◌*◌, ◌%◌, ◌≤◌, ◌<◌}
use native.Mathlib.Omega.{arith}
use native.Mathlib.Decide.{ℕ_discrete}
use lib.ListN.{length, take, drop, get_or, length-take, length-drop}
use lib.Seq.{take_all, take-nil, take-take, get_or-take}
use Rattle.numbers.proofs.Cases.{by_order}
use Rattle.numbers.proofs.Numbers.{number-2}
use Rattle.records.specs.declared.Answer.{Answer}
use Rattle.records.specs.Records.{record_bytes}
use Rattle.records.specs.Blocks.{refused, most_records, misfit, block_answer}
use Rattle.records.proofs.Blocks.{misfit-odd, misfit-many, answer-misfit}
use Rattle.patterns.specs.Checked.{pattern_answer}
use Rattle.rule.specs.Calls.{input_answer, most_live, ForwardCall}
use Rattle.rule.proofs.Inputs.{input-pattern, input-block, input-accepts}
use Rattle.spans.specs.Program.{length_bytes, pattern_length, pattern_bytes, block_bytes, work_bytes, result_bytes}
use Rattle.spans.specs.Program.{input_room, Answered, Program}

-- ## A block that is too long

abbrev TooLong : List ℕ → Type 0
TooLong block = record_bytes * most_records < length block

long-misfit : (block : List ℕ) → TooLong block → misfit block ≡ true
long-misfit block h = go (ℕ_discrete (length block % record_bytes) 0)
  where
    go : Dec (length block % record_bytes ≡ 0) → misfit block ≡ true
    go (yes e) = misfit-many block e (omega arith)
    go (no n) = misfit-odd block n

module _ (pattern block : List ℕ) (h : TooLong block) where
  long-answer : block_answer block ≡ refused 5 0
  long-answer = answer-misfit block (long-misfit block h)

  long-refused : ¬ ((input_answer pattern block).code ≡ 0)
  long-refused z =
      let q = (input-accepts pattern block z).1 in
      let e = ap (λ (a : Answer). a.code) long-answer in
      omega arith

  -- the same as any other block that is too long
  same-refusal : (other : List ℕ) → TooLong other → input_answer pattern block ≡ input_answer pattern other
  same-refusal other g = go (ℕ_discrete (pattern_answer pattern).code 0)
    where
      go : Dec ((pattern_answer pattern).code ≡ 0) → input_answer pattern block ≡ input_answer pattern other
      go (yes e) = input-block pattern block e ∙ long-answer ∙ sym (answer-misfit other (long-misfit other g)) ∙ sym (input-block pattern other e)
      go (no n) = input-pattern pattern block n ∙ sym (input-pattern pattern other n)

long-call :
    (pattern block other work result : List ℕ) (answer : Answer) → TooLong block → TooLong other
    → ForwardCall pattern block most_live work_bytes result_bytes answer work result
    → (¬ (answer.code ≡ 0)) × ForwardCall pattern other most_live work_bytes result_bytes answer work result
long-call pattern block other work result answer h g (ForwardCall.refused_input n e w r) =
    (λ z. n (sym (ap (λ (a : Answer). a.code) e) ∙ z), ForwardCall.refused_input (long-refused pattern other g) (e ∙ same-refusal pattern block h other g) w r)
long-call pattern block other work result answer h g (ForwardCall.refused_limit z n e w r) = absurd (long-refused pattern block h z)
long-call pattern block other work result answer h g (ForwardCall.answered z n numbers f w r) = absurd (long-refused pattern block h z)

-- ## The parts of an input that does not fit

take-drop-take : (n at low : ℕ) (l : List ℕ) → at + n ≤ low → take n (drop at (take low l)) ≡ take n (drop at l)
take-drop-take n zero low l h = take-take n low l (omega arith)
take-drop-take n (suc at) low [] h = ap (λ (t : List ℕ). take n (drop (suc at) t)) (take-nil low)
take-drop-take n (suc at) zero (x ∷ l) h = absurd (omega arith)
take-drop-take n (suc at) (suc low) (x ∷ l) h = take-drop-take n at low l (omega arith)

module _ (input : List ℕ) (bytes : (k : ℕ) → get_or input k 0 < 256) (long : input_room < length input) where
  abbrev part : List ℕ
  part = take input_room input

  length_part : length part ≡ input_room
  length_part = simp length-take (omega arith)

  same_length : pattern_length part ≡ pattern_length input
  same_length =
      number-2 part 0
      ∙ ap₂ (λ (a b : ℕ). a * 256 + b) (get_or-take input_room input 0 0 (omega arith)) (get_or-take input_room input 1 0 (omega arith))
      ∙ sym (number-2 input 0)

  few : pattern_length input < 65536
  few = omega (arith, number-2 input 0, bytes 0, bytes 1)

  same-pattern : pattern_bytes part ≡ pattern_bytes input
  same-pattern =
      ap (λ (n : ℕ). take n (drop length_bytes part)) same_length
      ∙ take-drop-take (pattern_length input) length_bytes input_room input (omega (arith, few))

  part-long : TooLong (block_bytes part)
  part-long = simp length-drop (omega (arith, length_part, same_length, few))

  whole_long : TooLong (block_bytes input)
  whole_long = simp length-drop (omega (arith, few))

  whole-answered :
      (answer : Answer) (result : List ℕ) → Answered part answer result
      → (¬ (answer.code ≡ 0)) × Answered input answer result
  whole-answered answer result (Answered.short h e) = absurd (omega (arith, length_part, same_length, few))
  whole-answered answer result (Answered.called h work call) =
      let q = long-call (pattern_bytes part) (block_bytes part) (block_bytes input) work result answer part-long whole_long call in
      (q.0, Answered.called (omega (arith, few)) work (rw same-pattern at q.1))

  whole-program : (text : List ℕ) → Program part text → Program input text
  whole-program text p =
      let q = whole-answered p.answer p.result p.answered in
      record {
        answer = p.answer;
        result = p.result;
        lines = p.lines;
        answered = q.1;
        report = λ z. absurd (q.0 z);
        written = p.written;
      }

-- what is written of as much as the program reads is written of the whole input
pub cut :
    (input text : List ℕ) → ((k : ℕ) → get_or input k 0 < 256) → Program (take input_room input) text → Program input text
cut input text bytes p =
    by_order input_room (length input)
    (λ long. whole-program input bytes long text p)
    (λ fits. rw (take_all input_room input fits) at p)
