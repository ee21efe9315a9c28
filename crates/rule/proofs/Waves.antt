-- A pass sees no wave that no condition asks for: of a block, and of the block without the waves of its events, the two
-- passes and measure promise the same answer and the same bytes of lent memory, if no condition of the pattern has the
-- wave on either side. Assumes nothing.
use mathlib.Core.Path.{◌≡◌, sym, ap, ap₂, ◌∙◌}
use mathlib.Core.Bool.{Bool, true, false, ◌&&◌}
use mathlib.Core.List.{List, Memᴰ}
use Prim.Native.Nat.{ℕ, ◌<◌}
use native.Mathlib.Omega.{arith}
use lib.Dec.{eqb, ltb}
use lib.IntN.{ℤ, pos}
use lib.ListN.{length}
use borrow.Author.Tests.{eqb-true, eqb-false}
use Rattle.numbers.specs.Numbers.{upto}
use Rattle.numbers.proofs.Cases.{by-test}
use Rattle.records.specs.declared.Answer.{Answer}
use Rattle.records.specs.declared.Record.{Record}
use Rattle.records.specs.Records.{class_of}
use Rattle.records.specs.Blocks.{refused}
use Rattle.patterns.specs.declared.Condition.{Condition}
use Rattle.patterns.specs.declared.Pattern.{Pattern}
use Rattle.patterns.specs.Checked.{InOrder, condition_at, pattern_answer}
use Rattle.patterns.specs.Comparison.{signed, value, order_of, meets, compared_with, holds}
use Rattle.patterns.proofs.Comparison.{compared-constant, compared-value}
use Rattle.automaton.specs.Filtering.{implies, all}
use Rattle.automaton.specs.Automaton.{conditions, leaves, marked, carries}
use Rattle.automaton.proofs.All.{all_same}
use Rattle.automaton.proofs.Membership.{mem-map, upto-below}
use Rattle.rule.specs.Rule.{Block, Binding, Reading, record_in, time_at, binds, choices, passes, in_order, allowed}
use Rattle.rule.specs.Rule.{fires}
use Rattle.rule.specs.Calls.{input_answer, pattern_in, block_in, room_in, StartByStartCall, MeasureCall, ForwardCall}
use Rattle.rule.specs.Waves.{wave_attribute, AsksNoWave, without_waves}
use Rattle.rule.proofs.Inputs.{input-in-order}
use Rattle.rule.proofs.Calls.{start-by-start-one, measure-one, forward-one}
use Rattle.rule.proofs.Alike.{Alike, forward-alike, start-by-start-alike, measure-alike}
use Rattle.rule.proofs.WithoutWaves.{SameButWave, answer-same, size_same, records-same}

-- ## Conditions

-- an attribute before the wave
value_same : (attribute : ℕ) (r s : Record) → attribute < wave_attribute → SameButWave r s
    → value attribute r ≡ value attribute s
unfolding value
value_same attribute r s l h =
    by-test (eqb attribute 0)
    (λ e. rw (e, value) (ap pos h.core))
    (λ e. by-test (eqb attribute 1)
    (λ f. rw (e, f, value) (ap pos h.event_type))
    (λ f. by-test (eqb attribute 2)
    (λ g. rw (e, f, g, value) (ap (λ (t : ℕ). pos (class_of t)) h.event_type))
    (λ g. by-test (eqb attribute 3)
    (λ k. rw (e, f, g, k, value) (ap pos h.slot))
    (λ k. by-test (eqb attribute 4)
    (λ m. rw (e, f, g, k, m, value) (ap signed h.amount))
    (λ m. absurd (omega (arith, eqb-false attribute 0 e, eqb-false attribute 1 f, eqb-false attribute 2 g, eqb-false attribute 3 k, eqb-false attribute 4 m)))))))

-- a condition with no wave on either side
record NoWave (k : Condition) : Type 0 where
  attribute : k.attribute < wave_attribute
  attribute2 : k.attribute2 < wave_attribute

compared_same : (k : Condition) (r s : Record) → NoWave k → SameButWave r s → compared_with k r ≡ compared_with k s
compared_same k r s n h =
    by-test (eqb k.form 0)
    (λ e. compared-constant k r (eqb-true _ _ e) ∙ sym (compared-constant k s (eqb-true _ _ e)))
    (λ e.
    compared-value k r (eqb-false _ _ e)
    ∙ value_same k.attribute2 r s n.attribute2 h
    ∙ sym (compared-value k s (eqb-false _ _ e)))

holds_same : (k : Condition) (q r s t : Record) → NoWave k → SameButWave q s → SameButWave r t
    → holds k q r ≡ holds k s t
unfolding holds
holds_same k q r s t n h g =
    ap₂ (λ (x y : ℤ). meets k.operator (order_of x y)) (value_same k.attribute q s n.attribute h)
    (compared_same k r t n g)

-- of a checked pattern
asked : (p : Pattern) → InOrder p → AsksNoWave p → (k : Condition) → Memᴰ k (conditions p) → NoWave k
asked p ordered none k m =
    let q = mem-map (condition_at p) (upto 0 p.c) m in
    let i = q.0 in
    let l : i < p.c = omega (arith, upto-below 0 p.c q.1) in
    record {
      attribute = omega (arith, ap (λ (x : Condition). x.attribute) q.2, ordered.attribute i l, none.attribute i l);
      attribute2 = omega (arith, ap (λ (x : Condition). x.attribute2) q.2, ordered.attribute2 i l, none.attribute2 i l);
    }

-- ## Steps

-- condition k of two records of the block
abbrev holds_in : Block → Condition → ℕ → ℕ → Bool
holds_in B k i j = holds k (record_in B i) (record_in B j)

module _ (B C : Block) (same : (i : ℕ) → SameButWave (record_in B i) (record_in C i)) where
  holds-in-same : (k : Condition) → NoWave k → holds_in B k ≡ holds_in C k
  holds-in-same k n = λ z i j. holds_same k _ _ _ _ n (same i) (same j) z

  passes_same : (r : Reading) (v j : ℕ) (k : Condition) → NoWave k → passes B r v j k ≡ passes C r v j k
  unfolding passes
  passes_same r v j k n =
      λ z. elim (eqb k.form 0) [
        | true ↦ holds-in-same k n z j j
        | false ↦ all (λ a. all (holds-in-same k n z a) (choices r v j k.variable2)) (choices r v j k.variable)
      ]

  times-same : time_at B ≡ time_at C
  times-same = λ z i. (same i).time z

  in-order-same : (p : Pattern) (r : Reading) (v j : ℕ) → in_order p B r v j ≡ in_order p C r v j
  unfolding in_order
  in-order-same p r v j =
      λ z. implies (marked p (binds r) v) (all (λ (b : Binding). ltb (times-same z b.at) (times-same z j)) r)

  module _ (p : Pattern) (ordered : InOrder p) (none : AsksNoWave p) where
    allowed_same : (r : Reading) (v j : ℕ) → allowed p B r v j ≡ allowed p C r v j
    unfolding allowed
    allowed_same r v j =
        all_same (λ k. implies (carries (binds r) v k) (passes B r v j k))
        (λ k. implies (carries (binds r) v k) (passes C r v j k))
        (conditions p)
        (λ k m. ap (implies (carries (binds r) v k)) (passes_same r v j k (asked p ordered none k m)))

    fires-same : (r : Reading) (v j : ℕ) → fires p B r v j ≡ fires p C r v j
    unfolding fires
    fires-same r v j =
        ap₂ (λ (s t : Bool). leaves p (binds r) v && (s && t)) (in-order-same p r v j) (allowed_same r v j)

    same_alike : length B ≡ length C → Alike p B C
    same_alike size = record { size = size; kind = λ i. (same i).kind; time = λ i. (same i).time; fire = fires-same }

-- ## Calls

module _ (pattern block : List ℕ) where
  pub input-same : input_answer pattern (without_waves block) ≡ input_answer pattern block
  unfolding input_answer
  input-same =
      λ z. elim (eqb (pattern_answer pattern).code 0) [
        | false ↦ refused (pattern_answer pattern).code (pattern_answer pattern).place
        | true ↦ answer-same block z
      ]

  pub code_same : (input_answer pattern (without_waves block)).code ≡ (input_answer pattern block).code
  code_same = ap (λ (a : Answer). a.code) input-same

  module _ (none : AsksNoWave (pattern_in pattern)) where
    alike : (input_answer pattern block).code ≡ 0
        → Alike (pattern_in pattern) (block_in (without_waves block)) (block_in block)
    alike z =
        same_alike (block_in (without_waves block)) (block_in block) (records-same block) (pattern_in pattern)
        (input-in-order pattern block z).checked
        none
        (size_same block)

    -- what meets the promise without the waves meets it with them
    pub start-by-start-with :
        (lent : ℕ) (a : Answer) (result : List ℕ)
        → StartByStartCall pattern (without_waves block) lent a result
        → StartByStartCall pattern block lent a result
    start-by-start-with lent a result (StartByStartCall.refused_input n e r) =
        StartByStartCall.refused_input (λ z. n (code_same ∙ z)) (e ∙ input-same) r
    start-by-start-with lent a result (StartByStartCall.answered z numbers h r) =
        let y = sym code_same ∙ z in
        StartByStartCall.answered y numbers (start-by-start-alike _ _ _ (alike y) (room_in lent) _ h) r

    measure-with : (a : Answer) → MeasureCall pattern (without_waves block) a → MeasureCall pattern block a
    measure-with a (MeasureCall.refused_input n e) =
        MeasureCall.refused_input (λ z. n (code_same ∙ z)) (e ∙ input-same)
    measure-with a (MeasureCall.answered z h) =
        let y = sym code_same ∙ z in MeasureCall.answered y (measure-alike _ _ _ (alike y) a h)

    pub forward-with :
        (limit lent_work lent_result : ℕ) (a : Answer) (work result : List ℕ)
        → ForwardCall pattern (without_waves block) limit lent_work lent_result a work result
        → ForwardCall pattern block limit lent_work lent_result a work result
    forward-with limit lent_work lent_result a work result (ForwardCall.refused_input n e w r) =
        ForwardCall.refused_input (λ z. n (code_same ∙ z)) (e ∙ input-same) w r
    forward-with limit lent_work lent_result a work result (ForwardCall.refused_limit z n e w r) =
        ForwardCall.refused_limit (sym code_same ∙ z) n e w r
    forward-with limit lent_work lent_result a work result (ForwardCall.answered z l numbers h w r) =
        let y = sym code_same ∙ z in
        ForwardCall.answered y l numbers (forward-alike _ _ _ (alike y) limit (room_in lent_result) _ h) w r

    -- ## The same answer and the same bytes

    pub start-by-start-waves :
        (lent : ℕ) (a b : Answer) (result other : List ℕ)
        → StartByStartCall pattern block lent a result
        → StartByStartCall pattern (without_waves block) lent b other
        → (a ≡ b) × (result ≡ other)
    start-by-start-waves lent a b result other f g =
        start-by-start-one pattern block lent a b result other f (start-by-start-with lent b other g)

    pub measure-waves :
        (a b : Answer) → MeasureCall pattern block a → MeasureCall pattern (without_waves block) b → a ≡ b
    measure-waves a b f g = measure-one pattern block a b f (measure-with b g)

    pub forward-waves :
        (limit lent_work lent_result : ℕ) (a b : Answer) (work other_work result other : List ℕ)
        → ForwardCall pattern block limit lent_work lent_result a work result
        → ForwardCall pattern (without_waves block) limit lent_work lent_result b other_work other
        → (a ≡ b) × (work ≡ other_work) × (result ≡ other)
    forward-waves limit lent_work lent_result a b work other_work result other f g =
        forward-one pattern block limit lent_work lent_result a b work other_work result other f
        (forward-with limit lent_work lent_result b other_work other g)
