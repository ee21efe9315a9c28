-- The promises of the calls fix what they answer: any two answers and memories that meet the promise of one call are
-- equal, and for every input there are some that do. Assumes nothing.
use mathlib.Core.Path.{◌≡◌, refl, sym, ap, ◌∙◌}
use mathlib.Core.List.{List}
use Prim.Native.Nat.{ℕ, ◌*◌, ◌≤◌}
use native.Mathlib.Decide.{ℕ_discrete, dec_le}
use Rattle.records.specs.declared.Answer.{Answer}
use Rattle.records.specs.Blocks.{refused}
use Rattle.rule.specs.Rule.{TimesNeverFall}
use Rattle.rule.specs.Promises.{Outcome}
use Rattle.rule.specs.Calls.{input_answer, pattern_in, block_in, zeros, room_in, result_of, StartByStartCall}
use Rattle.rule.specs.Calls.{MeasureCall, LimitInOrder, ForwardCall, work_per_reading, most_live}
use Rattle.rule.specs.Computed.{forward}
use Rattle.rule.specs.Starts.{start_answer, measure_answer}
use Rattle.rule.proofs.StartAnswers.{one-start, start-answer-is, measure-answer-is, one-measure}
use Rattle.rule.proofs.ForwardAnswers.{forward-is, one_answer}
use Rattle.rule.proofs.Inputs.{input-in-order, times-never-fall}

-- ## Each promise fixes its answer

module _ (pattern block : List ℕ) where
  pub start-by-start-one :
      (lent : ℕ) (a b : Answer) (result other : List ℕ)
      → StartByStartCall pattern block lent a result → StartByStartCall pattern block lent b other
      → (a ≡ b) × (result ≡ other)
  start-by-start-one lent a b result other (StartByStartCall.refused_input n e r) (StartByStartCall.refused_input m d s) = (e ∙ sym d, r ∙ sym s)
  start-by-start-one lent a b result other (StartByStartCall.refused_input n e r) (StartByStartCall.answered z numbers h s) = absurd (n z)
  start-by-start-one lent a b result other (StartByStartCall.answered z numbers h r) (StartByStartCall.refused_input m d s) = absurd (m z)
  start-by-start-one lent a b result other (StartByStartCall.answered z numbers h r) (StartByStartCall.answered y numbers' g s) =
      let q = one-start (pattern_in pattern) (block_in block) (room_in lent) _ _ h g in
      (ap (λ (o : Outcome). o.answer) q, r ∙ ap (λ (o : Outcome). result_of lent o.numbers) q ∙ sym s)

  pub measure-one : (a b : Answer) → MeasureCall pattern block a → MeasureCall pattern block b → a ≡ b
  measure-one a b (MeasureCall.refused_input n e) (MeasureCall.refused_input m d) = e ∙ sym d
  measure-one a b (MeasureCall.refused_input n e) (MeasureCall.answered z h) = absurd (n z)
  measure-one a b (MeasureCall.answered z h) (MeasureCall.refused_input m d) = absurd (m z)
  measure-one a b (MeasureCall.answered z h) (MeasureCall.answered y g) =
      one-measure (pattern_in pattern) (block_in block) (times-never-fall block (input-in-order pattern block z).ordered) a b h g

  module _ (limit lent_work lent_result : ℕ) where
    pub forward-one :
        (a b : Answer) (work other_work result other : List ℕ)
        → ForwardCall pattern block limit lent_work lent_result a work result
        → ForwardCall pattern block limit lent_work lent_result b other_work other
        → (a ≡ b) × (work ≡ other_work) × (result ≡ other)
    forward-one a b work other_work result other (ForwardCall.refused_input n e w r) (ForwardCall.refused_input m d v s) = (e ∙ sym d, w ∙ sym v, r ∙ sym s)
    forward-one a b work other_work result other (ForwardCall.refused_input n e w r) (ForwardCall.refused_limit z m d v s) = absurd (n z)
    forward-one a b work other_work result other (ForwardCall.refused_input n e w r) (ForwardCall.answered z l numbers h v s) = absurd (n z)
    forward-one a b work other_work result other (ForwardCall.refused_limit z n e w r) (ForwardCall.refused_input m d v s) = absurd (m z)
    forward-one a b work other_work result other (ForwardCall.refused_limit z n e w r) (ForwardCall.refused_limit y m d v s) = (e ∙ sym d, w ∙ sym v, r ∙ sym s)
    forward-one a b work other_work result other (ForwardCall.refused_limit z n e w r) (ForwardCall.answered y l numbers h v s) = absurd (n l)
    forward-one a b work other_work result other (ForwardCall.answered z l numbers h w r) (ForwardCall.refused_input m d v s) = absurd (m z)
    forward-one a b work other_work result other (ForwardCall.answered z l numbers h w r) (ForwardCall.refused_limit y m d v s) = absurd (m l)
    forward-one a b work other_work result other (ForwardCall.answered z l numbers h w r) (ForwardCall.answered y k numbers' g v s) =
        let q = one_answer (pattern_in pattern) (block_in block) limit (room_in lent_result) _ _ h g in
        (ap (λ (o : Outcome). o.answer) q, w ∙ sym v, r ∙ ap (λ (o : Outcome). result_of lent_result o.numbers) q ∙ sym s)

  -- ## Every input gets an answer

  times : (input_answer pattern block).code ≡ 0 → TimesNeverFall (block_in block)
  times z = times-never-fall block (input-in-order pattern block z).ordered

  pub by_code : {P : Type 0} → ((input_answer pattern block).code ≡ 0 → P) → (¬ ((input_answer pattern block).code ≡ 0) → P) → P
  by_code {P} accepted refused = go (ℕ_discrete (input_answer pattern block).code 0)
    where
      go : Dec ((input_answer pattern block).code ≡ 0) → P
      go (yes z) = accepted z
      go (no n) = refused n

  pub start-by-start-met :
      (lent : ℕ) → (answer : Answer) × (result : List ℕ) × StartByStartCall pattern block lent answer result
  start-by-start-met lent =
      by_code
      (λ z. let o = start_answer (pattern_in pattern) (block_in block) (room_in lent) in (o.answer, result_of lent o.numbers, StartByStartCall.answered z o.numbers (start-answer-is (pattern_in pattern) (block_in block) (times z) (room_in lent)) refl))
      (λ n. (input_answer pattern block, zeros lent, StartByStartCall.refused_input n refl refl))

  pub measure-met : (answer : Answer) × MeasureCall pattern block answer
  measure-met =
      by_code
      (λ z. (measure_answer (pattern_in pattern) (block_in block), MeasureCall.answered z (measure-answer-is (pattern_in pattern) (block_in block) (times z))))
      (λ n. (input_answer pattern block, MeasureCall.refused_input n refl))

  module _ (limit lent_work lent_result : ℕ) where
    pub by-limit : {P : Type 0} → (LimitInOrder limit lent_work → P) → (¬ LimitInOrder limit lent_work → P) → P
    by-limit {P} ordered broken = go (dec_le 1 limit) (dec_le limit most_live) (dec_le (work_per_reading * limit) lent_work)
      where
        go : Dec (1 ≤ limit) → Dec (limit ≤ most_live) → Dec (work_per_reading * limit ≤ lent_work) → P
        go (yes a) (yes b) (yes c) = ordered (record { some = a; few = b; room = c })
        go (no a) b c = broken (λ l. a l.some)
        go (yes a) (no b) c = broken (λ l. b l.few)
        go (yes a) (yes b) (no c) = broken (λ l. c l.room)

    pub forward-met :
        (answer : Answer) × (work : List ℕ) × (result : List ℕ)
        × ForwardCall pattern block limit lent_work lent_result answer work result
    forward-met =
        by_code
        (λ z.
        by-limit
        (λ l. let o = forward (pattern_in pattern) (block_in block) limit (room_in lent_result) in (o.answer, zeros lent_work, result_of lent_result o.numbers, ForwardCall.answered z l o.numbers (forward-is (pattern_in pattern) (block_in block) (times z) limit (room_in lent_result)) refl refl))
        (λ n. (refused 8 0, zeros lent_work, zeros lent_result, ForwardCall.refused_limit z n refl refl refl)))
        (λ n. (input_answer pattern block, zeros lent_work, zeros lent_result, ForwardCall.refused_input n refl refl refl))
