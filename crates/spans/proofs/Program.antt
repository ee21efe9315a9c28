-- The parts of an input as the program takes them; the lines that it reads from the result are the report's; and what
-- it writes is determined by the input. Assumes nothing.
use mathlib.Core.Path.{◌≡◌, sym, ap, subst, ◌∙◌}
use mathlib.Core.List.{List}
use Prim.Native.Nat.{ℕ, ◌+◌, ◌-◌, ◌*◌, ◌≤◌}
use native.Mathlib.Omega.{arith}
use native.Mathlib.Decide.{ℕ_discrete}
use borrow.Author.Tests.{ne_eqb}
use lib.ListN.{length, take, drop, length-drop}
use lib.Seq.{take_all}
use Rattle.records.specs.declared.Answer.{Answer}
use Rattle.records.specs.Blocks.{refused}
use Rattle.rule.specs.Rule.{Line, Report}
use Rattle.rule.specs.Calls.{pattern_in, block_in, most_live, ForwardCall}
use Rattle.rule.proofs.Accepted.{CallTold, forward-call-told}
use Rattle.rule.proofs.Calls.{forward-one}
use Rattle.rule.proofs.OneReport.{one-report}
use Rattle.lines.specs.Text.{answer_text}
use Rattle.lines.specs.Results.{place_of, lines_in}
use Rattle.lines.proofs.Told.{told-lines, told-place}
use Rattle.spans.specs.Program.{length_bytes, pattern_length, pattern_bytes, block_bytes, work_bytes, result_bytes}
use Rattle.spans.specs.Program.{Answered, Program}

-- ## Parts of the input

pub pass-called :
    (input work result : List ℕ) (answer : Answer) (n lent_work lent_result : ℕ) → n ≡ pattern_length input
    → length_bytes + n ≤ length input
    → lent_work ≡ work_bytes
    → lent_result ≡ result_bytes
    → ForwardCall (take (length_bytes + n - length_bytes) (drop length_bytes input))
    (take (length input - (length_bytes + n)) (drop (length_bytes + n) input)) most_live lent_work lent_result answer work
    result
    → Answered input answer result
pass-called input work result answer n lent_work lent_result e h w r call =
    let p : length_bytes + n - length_bytes ≡ n = omega arith in
    let b : take (length input - (length_bytes + n)) (drop (length_bytes + n) input) ≡ drop (length_bytes + n) input =
    take_all (length input - (length_bytes + n)) (drop (length_bytes + n) input) (simp length-drop (omega arith)) in
    Answered.called (omega arith) work (rw (p, b, w, r, e) at call)

-- ## Lines of the result

not-refused : {P : Type 0} (answer : Answer) → answer ≡ refused 1 0 → answer.code ≡ 0 → P
not-refused answer e z = let q = ap (λ (a : Answer). a.code) e in absurd (omega arith)

call-told :
    (input result work : List ℕ) (answer : Answer)
    → ForwardCall (pattern_bytes input) (block_bytes input) most_live work_bytes result_bytes answer work result
    → answer.code ≡ 0
    → CallTold (pattern_bytes input) (block_bytes input) result_bytes answer result
call-told input result work answer call z = forward-call-told (pattern_bytes input) (block_bytes input) most_live work_bytes result_bytes answer work result call z

-- all lines of an answer stand in the result
pub answered-place :
    (input result : List ℕ) (answer : Answer) → Answered input answer result → answer.code ≡ 0
    → 2 * place_of result answer.readings ≤ length result
answered-place input result answer (Answered.short h e) z = not-refused answer e z
answered-place input result answer (Answered.called h work call) z =
    told-place (pattern_bytes input) (block_bytes input) result_bytes answer result (call-told input result work answer call z)

abbrev ReportOf : List ℕ → List Line → Type 0
ReportOf input lines = Report (pattern_in (pattern_bytes input)) (block_in (block_bytes input)) (length (block_in (block_bytes input))) lines

-- and are those of the report
answered-report :
    (input result : List ℕ) (answer : Answer) → Answered input answer result → answer.code ≡ 0
    → ReportOf input (lines_in result answer.readings)
answered-report input result answer (Answered.short h e) z = not-refused answer e z
answered-report input result answer (Answered.called h work call) z =
    let told = call-told input result work answer call z in
    subst (ReportOf input) (sym (told-lines (pattern_bytes input) (block_bytes input) result_bytes answer result told)) told.told.report

pub program-written :
    (input result text : List ℕ) (answer : Answer) → Answered input answer result
    → text ≡ answer_text answer (lines_in result answer.readings)
    → Program input text
program-written input result text answer a e =
    record {
      answer = answer;
      result = result;
      lines = lines_in result answer.readings;
      answered = a;
      report = answered-report input result answer a;
      written = e;
    }

-- ## One text for each input

-- of a refusal one line is written, whatever lines there are
refused-text : (answer : Answer) (l m : List Line) → ¬ (answer.code ≡ 0) → answer_text answer l ≡ answer_text answer m
unfolding answer_text
refused-text answer l m n = rw (answer_text, ne_eqb answer.code 0 n)

one_answer : (input result other : List ℕ) (a b : Answer) → Answered input a result → Answered input b other → a ≡ b
one_answer input result other a b (Answered.short h e) (Answered.short g d) = e ∙ sym d
one_answer input result other a b (Answered.short h e) (Answered.called g work call) = absurd (omega arith)
one_answer input result other a b (Answered.called h work call) (Answered.short g d) = absurd (omega arith)
one_answer input result other a b (Answered.called h work call) (Answered.called g work' call') =
    (forward-one (pattern_bytes input) (block_bytes input) most_live work_bytes result_bytes a b work work' result other call call').0

pub one-text : (input text other : List ℕ) → Program input text → Program input other → text ≡ other
one-text input text other p q =
    let e = one_answer input p.result q.result p.answer q.answer p.answered q.answered in
    p.written ∙ same (ℕ_discrete p.answer.code 0) e ∙ ap (λ (a : Answer). answer_text a q.lines) e ∙ sym q.written
  where
    same :
        Dec (p.answer.code ≡ 0) → p.answer ≡ q.answer
        → answer_text p.answer p.lines ≡ answer_text p.answer q.lines
    same (yes z) e =
        ap (answer_text p.answer)
        (one-report (pattern_in (pattern_bytes input)) (block_in (block_bytes input)) (length (block_in (block_bytes input))) p.lines q.lines (p.report z) (q.report (ap (λ (a : Answer). a.code) (sym e) ∙ z)))
    same (no n) e = refused-text p.answer p.lines q.lines n
