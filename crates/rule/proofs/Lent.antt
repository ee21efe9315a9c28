-- What the calls leave in lent memory: it keeps its length, a refusal clears the result and has no counts, and working
-- memory is cleared by every call (rules 7.1, 7.2). Assumes nothing.
use mathlib.Core.Path.{◌≡◌, refl, sym, ap, subst, ◌∙◌}
use mathlib.Core.List.{List, [], ◌∷◌, ◌++◌}
use Prim.Native.Nat.{ℕ, zero, suc, ◌+◌, ◌-◌, ◌*◌, ◌≤◌}
use native.Mathlib.Omega.{arith}
use native.Mathlib.Decide.{dec_le}
use lib.ListN.{length, length-append, length-replicate, replicate-append-replicate}
use Rattle.numbers.specs.Numbers.{bytes_of}
use Rattle.records.specs.declared.Answer.{Answer}
use Rattle.records.specs.Blocks.{refused}
use Rattle.patterns.specs.declared.Pattern.{Pattern}
use Rattle.rule.specs.Rule.{Block, Line, pack}
use Rattle.rule.specs.Promises.{Outcome, Forward, StartByStart, Measure, refused_with, refusal, success}
use Rattle.rule.specs.Calls.{input_answer, pattern_in, block_in, zeros, room_in, result_of, StartByStartCall}
use Rattle.rule.specs.Calls.{MeasureCall, ForwardCall}
use Rattle.rule.proofs.Inputs.{RefusedFrom, input-refused}

-- ## What a pass refuses with

-- its number and place, all counts 0, and the numbers of the result all 0
record Refusal (room : ℕ) (o : Outcome) : Type 0 where
  answer : RefusedFrom 9 13 o.answer
  numbers : o.numbers ≡ zeros room

coded : (code place : ℕ) → 9 ≤ code → code ≤ 13 → RefusedFrom 9 13 (refused code place)
coded code place l m = record { from = l; up_to = m; used = refl; readings = refl; peak = refl }

module _ (room : ℕ) where
  refused-is : (code place : ℕ) → 9 ≤ code → code ≤ 13 → Refusal room (refused_with room code place)
  refused-is code place l m = record { answer = coded code place l m; numbers = refl }

  refusal_is : (j t : ℕ) → Refusal room (refusal room j t)
  refusal_is j zero = refused-is 11 0 (omega arith) (omega arith)
  refusal_is j (suc zero) = refused-is 9 j (omega arith) (omega arith)
  refusal_is j (suc (suc zero)) = refused-is 13 j (omega arith) (omega arith)
  refusal_is j (suc (suc (suc t))) = refused-is 10 j (omega arith) (omega arith)

module _ (p : Pattern) (B : Block) (room : ℕ) where
  start-pass-refused : (o : Outcome) → StartByStart p B room o → ¬ (o.answer.code ≡ 0) → Refusal room o
  start-pass-refused o (StartByStart.long j t f e) n = subst (Refusal room) (sym e) (refused-is room 9 j (omega arith) (omega arith))
  start-pass-refused o (StartByStart.twice j m t f e) n = subst (Refusal room) (sym e) (refused-is room 13 j (omega arith) (omega arith))
  start-pass-refused o (StartByStart.full_up m k r e) n = subst (Refusal room) (sym e) (refused-is room 11 0 (omega arith) (omega arith))
  start-pass-refused o (StartByStart.done l m k r h e) n = absurd (n (ap (λ (x : Outcome). x.answer.code) e))

  forward-pass-refused : (L : ℕ) (o : Outcome) → Forward p B L room o → ¬ (o.answer.code ≡ 0) → Refusal room o
  forward-pass-refused L o (Forward.refuses j t i h f e) n = subst (Refusal room) (sym e) (refusal_is room j t)
  forward-pass-refused L o (Forward.succeeds l m k r q e) n = absurd (n (ap (λ (x : Outcome). x.answer.code) e))

bytes-zeros : (n : ℕ) → bytes_of (zeros n) ≡ zeros (2 * n)
unfolding bytes_of
bytes-zeros zero = refl
bytes-zeros (suc n) = let e : 2 * suc n ≡ suc (suc (2 * n)) = omega arith in rw e (ap (λ l. 0 ∷ 0 ∷ l) (bytes-zeros n))

pub result-zeros : (lent : ℕ) → result_of lent (zeros (room_in lent)) ≡ zeros lent
result-zeros lent =
    let e : 2 * room_in lent + (lent - 2 * room_in lent) ≡ lent = omega arith in
    ap (λ n. bytes_of (zeros (room_in lent)) ++ zeros (lent - 2 * n)) (length-replicate (room_in lent) 0)
    ∙ ap (λ l. l ++ zeros (lent - 2 * room_in lent)) (bytes-zeros (room_in lent))
    ∙ replicate-append-replicate (2 * room_in lent) (lent - 2 * room_in lent) 0
    ∙ ap zeros e

-- ## Refusals of the calls

wider : (a b c d : ℕ) (answer : Answer) → RefusedFrom b c answer → a ≤ b → c ≤ d → RefusedFrom a d answer
wider a b c d answer h l m = record { from = omega (arith, h.from); up_to = omega (arith, h.up_to); used = h.used; readings = h.readings; peak = h.peak }

of-pass : (answer : Answer) → RefusedFrom 9 13 answer → RefusedFrom 1 13 answer
of-pass answer h = wider 1 9 13 13 answer h (omega arith) (omega arith)

of-input :
    (pattern block : List ℕ) (answer : Answer) → answer ≡ input_answer pattern block → ¬ (answer.code ≡ 0)
    → RefusedFrom 1 13 answer
of-input pattern block answer e n =
    wider 1 1 7 13 answer (subst (RefusedFrom 1 7) (sym e) (input-refused pattern block (λ z. n (ap (λ (a : Answer). a.code) e ∙ z)))) (omega arith) (omega arith)

-- ## How many numbers and bytes

pub length-bytes : (l : List ℕ) → length (bytes_of l) ≡ 2 * length l
unfolding bytes_of
length-bytes [] = refl
length-bytes (x ∷ l) = omega (arith, length-bytes l)

length-result : (lent : ℕ) (numbers : List ℕ) → length numbers ≡ room_in lent → length (result_of lent numbers) ≡ lent
length-result lent numbers e = simp (length-append, length-replicate) (omega (arith, length-bytes numbers))

module _ (p : Pattern) (B : Block) (room : ℕ) where
  length-success : (l : List Line) (peak : ℕ) → length (pack l) ≤ room → length (success room l peak).numbers ≡ room
  length-success l peak h = simp (length-append, length-replicate) (omega arith)

  start-pass-length : (o : Outcome) → StartByStart p B room o → length o.numbers ≡ room
  start-pass-length o (StartByStart.long j t f e) = ap (λ (x : Outcome). length x.numbers) e ∙ length-replicate room 0
  start-pass-length o (StartByStart.twice j n t f e) = ap (λ (x : Outcome). length x.numbers) e ∙ length-replicate room 0
  start-pass-length o (StartByStart.full_up n m r e) = ap (λ (x : Outcome). length x.numbers) e ∙ length-replicate room 0
  start-pass-length o (StartByStart.done l n m r h e) = ap (λ (x : Outcome). length x.numbers) e ∙ length-success l 0 h

  forward-pass-length : (L : ℕ) (o : Outcome) → Forward p B L room o → length o.numbers ≡ room
  forward-pass-length L o (Forward.refuses j t i h f e) = ap (λ (x : Outcome). length x.numbers) e ∙ ap length (refusal_is room j t).numbers ∙ length-replicate room 0
  forward-pass-length L o (Forward.succeeds l m n r k e) = ap (λ (x : Outcome). length x.numbers) e ∙ length-success l m (fits (dec_le (length (pack l)) room))
    where
      fits : Dec (length (pack l) ≤ room) → length (pack l) ≤ room
      fits (yes q) = q
      fits (no q) = absurd (n (length B) 0 (omega arith) (record { lines = l; report = r; more = omega arith }))

-- ## What the calls leave

module _ (pattern block : List ℕ) where
  pub start-by-start-length :
      (lent : ℕ) (answer : Answer) (result : List ℕ) → StartByStartCall pattern block lent answer result
      → length result ≡ lent
  start-by-start-length lent answer result (StartByStartCall.refused_input n e r) = ap length r ∙ length-replicate lent 0
  start-by-start-length lent answer result (StartByStartCall.answered z numbers h r) =
      ap length r ∙ length-result lent numbers (start-pass-length (pattern_in pattern) (block_in block) (room_in lent) _ h)

  -- a refusal has one of the numbers of section 8, no counts, and a result that is cleared
  pub start-by-start-refused :
      (lent : ℕ) (answer : Answer) (result : List ℕ)
      → StartByStartCall pattern block lent answer result → ¬ (answer.code ≡ 0)
      → RefusedFrom 1 13 answer × (result ≡ zeros lent)
  start-by-start-refused lent answer result (StartByStartCall.refused_input n e r) m = (of-input pattern block answer e m, r)
  start-by-start-refused lent answer result (StartByStartCall.answered z numbers h r) m =
      let q = start-pass-refused (pattern_in pattern) (block_in block) (room_in lent) _ h m in (of-pass answer q.answer, r ∙ ap (result_of lent) q.numbers ∙ result-zeros lent)

  pub measure-refused :
      (answer : Answer) → MeasureCall pattern block answer → ¬ (answer.code ≡ 0) → RefusedFrom 1 13 answer
  measure-refused answer (MeasureCall.refused_input n e) m = of-input pattern block answer e m
  measure-refused answer (MeasureCall.answered z h) m = of-pass answer (counts answer h m)
    where
      counts :
          (answer : Answer) → Measure (pattern_in pattern) (block_in block) answer → ¬ (answer.code ≡ 0)
          → RefusedFrom 9 13 answer
      counts a (Measure.long j t f e) n = subst (RefusedFrom 9 13) (sym e) (coded 9 j (omega arith) (omega arith))
      counts a (Measure.twice j k t f e) n = subst (RefusedFrom 9 13) (sym e) (coded 13 j (omega arith) (omega arith))
      counts a (Measure.done l k t r e) n = absurd (n (ap (λ (x : Answer). x.code) e))

  module _ (limit lent_work lent_result : ℕ) (answer : Answer) (work result : List ℕ) where
    pub forward-lengths :
        ForwardCall pattern block limit lent_work lent_result answer work result
        → (length work ≡ lent_work) × (length result ≡ lent_result)
    forward-lengths (ForwardCall.refused_input n e w r) = (ap length w ∙ length-replicate lent_work 0, ap length r ∙ length-replicate lent_result 0)
    forward-lengths (ForwardCall.refused_limit z n e w r) = (ap length w ∙ length-replicate lent_work 0, ap length r ∙ length-replicate lent_result 0)
    forward-lengths (ForwardCall.answered z l numbers h w r) =
        (ap length w ∙ length-replicate lent_work 0, ap length r ∙ length-result lent_result numbers (forward-pass-length (pattern_in pattern) (block_in block) (room_in lent_result) limit _ h))

    -- with success as with a refusal
    pub forward-work : ForwardCall pattern block limit lent_work lent_result answer work result → work ≡ zeros lent_work
    forward-work (ForwardCall.refused_input n e w r) = w
    forward-work (ForwardCall.refused_limit z n e w r) = w
    forward-work (ForwardCall.answered z l numbers h w r) = w

    pub forward-refused :
        ForwardCall pattern block limit lent_work lent_result answer work result → ¬ (answer.code ≡ 0)
        → RefusedFrom 1 13 answer × (result ≡ zeros lent_result)
    forward-refused (ForwardCall.refused_input n e w r) m = (of-input pattern block answer e m, r)
    forward-refused (ForwardCall.refused_limit z n e w r) m = (subst (RefusedFrom 1 13) (sym e) (record { from = omega arith; up_to = omega arith; used = refl; readings = refl; peak = refl }), r)
    forward-refused (ForwardCall.answered z l numbers h w r) m =
        let q = forward-pass-refused (pattern_in pattern) (block_in block) (room_in lent_result) limit _ h m in
        (of-pass answer q.answer, r ∙ ap (result_of lent_result) q.numbers ∙ result-zeros lent_result)
