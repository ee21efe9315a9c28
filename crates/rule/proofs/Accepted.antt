-- What it means that a pass accepts: its numbers are the packed report of the whole block, followed by zeros.
-- Assumes nothing.
use mathlib.Core.Path.{◌≡◌, refl, sym, ap, ◌∙◌}
use mathlib.Core.List.{List, ◌++◌}
use Prim.Native.Nat.{ℕ, zero, suc, ◌-◌, ◌≤◌}
use native.Mathlib.Omega.{arith}
use lib.ListN.{length, replicate}
use Rattle.numbers.proofs.Cases.{by_order}
use Rattle.records.specs.declared.Answer.{Answer}
use Rattle.patterns.specs.declared.Pattern.{Pattern}
use Rattle.rule.specs.Rule.{Block, Line, Report, TimesNeverFall, pack}
use Rattle.rule.specs.Promises.{Outcome, Forward, StartByStart, TooLong, refused_with, success}
use Rattle.rule.specs.Calls.{input_answer, pattern_in, block_in, room_in, result_of, StartByStartCall, ForwardCall}
use Rattle.rule.proofs.EveryReading.{never-twice}
use Rattle.rule.proofs.FoundTooLong.{long-in}
use Rattle.rule.proofs.Inputs.{input-in-order, times-never-fall}

-- ## A pass over a checked pattern and block

-- no reading has a binding too many, and the report of the whole block has room: it is told in the outcome
pub record Told (p : Pattern) (B : Block) (room : ℕ) (o : Outcome) : Type 0 where
  pub lines : List Line
  pub short : (i : ℕ) → ¬ TooLong p B i
  pub report : Report p B (length B) lines
  pub fits : length (pack lines) ≤ room
  pub used : o.answer.used ≡ length (pack lines)
  pub readings : o.answer.readings ≡ length lines
  pub numbers : o.numbers ≡ pack lines ++ replicate (room - length (pack lines)) 0

module _ (p : Pattern) (B : Block) (room : ℕ) where
  not-refused :
      {P : Type 0} (o : Outcome) (code place : ℕ) → o ≡ refused_with room (suc code) place → o.answer.code ≡ 0 → P
  not-refused o code place e z = let q = ap (λ (x : Outcome). x.answer.code) e in absurd (omega arith)

  told_of :
      (o : Outcome) (lines : List Line) (peak : ℕ) → ((i : ℕ) → ¬ TooLong p B i)
      → Report p B (length B) lines → length (pack lines) ≤ room → o ≡ success room lines peak
      → Told p B room o
  told_of o lines peak short report fits e =
      record {
        lines = lines;
        short = short;
        report = report;
        fits = fits;
        used = ap (λ (x : Outcome). x.answer.used) e;
        readings = ap (λ (x : Outcome). x.answer.readings) e;
        numbers = ap (λ (x : Outcome). x.numbers) e;
      }

  pub start-told : (o : Outcome) → StartByStart p B room o → o.answer.code ≡ 0 → Told p B room o
  start-told o (StartByStart.long j t f e) z = not-refused o 8 j e z
  start-told o (StartByStart.twice j n t f e) z = not-refused o 12 j e z
  start-told o (StartByStart.full_up n m r e) z = not-refused o 10 0 e z
  start-told o (StartByStart.done l n m r h e) z = told_of o l 0 n r h e

  -- what is told, the start-by-start pass answers, with peak 0
  pub told-start : (o : Outcome) (told : Told p B room o) → StartByStart p B room (success room told.lines 0)
  told-start o told = StartByStart.done told.lines told.short (never-twice p B) told.report told.fits refl

  module _ (L : ℕ) where
    pub forward-told : TimesNeverFall B → (o : Outcome) → Forward p B L room o → o.answer.code ≡ 0 → Told p B room o
    forward-told mono o (Forward.refuses j zero i h f e) z = not-refused o 10 0 e z
    forward-told mono o (Forward.refuses j (suc zero) i h f e) z = not-refused o 8 j e z
    forward-told mono o (Forward.refuses j (suc (suc zero)) i h f e) z = not-refused o 12 j e z
    forward-told mono o (Forward.refuses j (suc (suc (suc t))) i h f e) z = not-refused o 9 j e z
    forward-told mono o (Forward.succeeds l m n r k e) z = told_of o l m short r (by_order room (length (pack l)) (λ q. absurd (n (length B) 0 (omega arith) (record { lines = l; report = r; more = q }))) (λ q. q)) e
      where
        short : (i : ℕ) → ¬ TooLong p B i
        short i t = n i 1 (omega (arith, long-in p B mono i t)) t

-- ## The calls

-- pattern and block are in order, and the result tells of the report of the whole block
pub record CallTold (pattern block : List ℕ) (lent : ℕ) (answer : Answer) (result : List ℕ) : Type 0 where
  pub accepted : (input_answer pattern block).code ≡ 0
  pub numbers : List ℕ
  pub told : Told (pattern_in pattern) (block_in block) (room_in lent) (record { answer = answer; numbers = numbers })
  pub bytes : result ≡ result_of lent numbers

module _ (pattern block : List ℕ) where
  pub start-by-start-told :
      (lent : ℕ) (answer : Answer) (result : List ℕ)
      → StartByStartCall pattern block lent answer result → answer.code ≡ 0
      → CallTold pattern block lent answer result
  start-by-start-told lent answer result (StartByStartCall.refused_input n e r) z = absurd (n (sym (ap (λ (a : Answer). a.code) e) ∙ z))
  start-by-start-told lent answer result (StartByStartCall.answered a numbers h r) z =
      record { accepted = a; numbers = numbers; told = start-told (pattern_in pattern) (block_in block) (room_in lent) (record { answer = answer; numbers = numbers }) h z; bytes = r }

  pub forward-call-told :
      (limit lent_work lent_result : ℕ) (answer : Answer) (work result : List ℕ)
      → ForwardCall pattern block limit lent_work lent_result answer work result → answer.code ≡ 0
      → CallTold pattern block lent_result answer result
  forward-call-told limit lent_work lent_result answer work result (ForwardCall.refused_input n e w r) z = absurd (n (sym (ap (λ (a : Answer). a.code) e) ∙ z))
  forward-call-told limit lent_work lent_result answer work result (ForwardCall.refused_limit a n e w r) z = let q = ap (λ (a : Answer). a.code) e in absurd (omega arith)
  forward-call-told limit lent_work lent_result answer work result (ForwardCall.answered a l numbers h w r) z =
      record {
        accepted = a;
        numbers = numbers;
        told = forward-told (pattern_in pattern) (block_in block) (room_in lent_result) limit (times-never-fall block (input-in-order pattern block a).ordered) (record { answer = answer; numbers = numbers }) h z;
        bytes = r;
      }
