-- The bytes that a call leaves, and the promise of the call in each of its cases. Assumes nothing.
use mathlib.Core.Path.{◌≡◌, refl, sym, ap, subst, ◌∙◌}
use mathlib.Core.Bool.{true, false, ◌||◌}
use mathlib.Core.List.{List, ◌∷◌, ◌++◌, append_assoc}
use Prim.Native.Nat.{ℕ, zero, suc, ◌+◌, ◌-◌, ◌*◌, ◌/◌, ◌≤◌}
use native.Mathlib.Omega.{arith}
use borrow.Author.Tests.{le-ltb, ltb-false, eqb-true, eqb-false}
use lib.Dec.{eqb, ltb}
use lib.ListN.{length, take, replicate, length-append, length-replicate, replicate-append-replicate}
use Rattle.numbers.specs.Numbers.{bytes_of, written}
use Rattle.numbers.proofs.Cases.{by-test, by_order, neither}
use Rattle.std.specs.Prelude.{Result, Ok, Err, MatchResult}
use Rattle.records.specs.declared.Answer.{Answer}
use Rattle.records.specs.Blocks.{refused, block_answer}
use Rattle.records.specs.declared.refusals.Refusal.{Refusal}
use Rattle.records.specs.declared.refusals.Refusal.TheVariants.{PatternLength, Header, Variable, Condition, BlockLength}
use Rattle.records.specs.declared.refusals.Refusal.TheVariants.{Record, Time, Limit, Bindings, Live, ResultRoom, SliceRoom}
use Rattle.records.specs.declared.refusals.Refusal.TheVariants.{Line, Index}
use Rattle.records.specs.Refusals.{code_of, place_of, judged_as}
use Rattle.records.proofs.Blocks
use Rattle.patterns.specs.declared.Pattern.{Pattern}
use Rattle.patterns.specs.declared.Checked.{Checked}
use Rattle.patterns.specs.Checked.{pattern_answer, checked_of, InOrder}
use Rattle.rule.specs.Rule.{pack}
use Rattle.rule.specs.Promises.{Outcome, Forward}
use Rattle.rule.specs.Computed.{forward}
use Rattle.rule.specs.Calls.{input_answer, pattern_in, block_in, zeros, room_in, result_of, most_live, work_per_reading}
use Rattle.rule.specs.Calls.{LimitInOrder, ForwardCall, refused_input, refused_limit, answered}
use Rattle.rule.proofs.ForwardAnswers.{forward-is}
use Rattle.rule.proofs.Inputs.{input-pattern, input-block, input-in-order, times-never-fall}
use Rattle.slots.proofs.Results.{length-bytes_of, bytes_of-append, take-written-all, length-written}
use Rattle.plans.specs.Plan.{IsPlan}
use Rattle.forward.specs.Passes.{Prepared, Ran, limit_broken, Finished, answer_of, Called}

-- ## Bytes that are 0

zero-bytes : (k : ℕ) → bytes_of (replicate k 0) ≡ replicate (2 * k) 0
unfolding bytes_of
zero-bytes zero = refl
zero-bytes (suc k) =
    let e : suc (suc (2 * k)) ≡ 2 * suc k = omega arith in
    ap (λ (l : List ℕ). 0 ∷ 0 ∷ l) (zero-bytes k) ∙ ap (λ (n : ℕ). replicate n 0) e

-- a result that holds the numbers and then 0
result-of :
    (lent : ℕ) (numbers : List ℕ) → length numbers ≤ lent / 2
    → bytes_of numbers ++ replicate (lent - 2 * length numbers) 0
    ≡ result_of lent (numbers ++ replicate (lent / 2 - length numbers) 0)
result-of lent numbers h =
    let spare : ℕ = lent / 2 - length numbers in
    let all : List ℕ = numbers ++ replicate spare 0 in
    let size : length all ≡ length numbers + spare = length-append numbers (replicate spare 0) ∙ ap (λ (n : ℕ). length numbers + n) (length-replicate spare 0) in
    let e : lent - 2 * length numbers ≡ 2 * spare + (lent - 2 * length all) = omega arith in
    ap (λ (n : ℕ). bytes_of numbers ++ replicate n 0) e
    ∙ ap (λ (l : List ℕ). bytes_of numbers ++ l) (sym (replicate-append-replicate (2 * spare) (lent - 2 * length all) 0))
    ∙ sym (append_assoc (bytes_of numbers) (replicate (2 * spare) 0) (replicate (lent - 2 * length all) 0))
    ∙ ap (λ (l : List ℕ). l ++ replicate (lent - 2 * length all) 0) (ap (λ (l : List ℕ). bytes_of numbers ++ l) (sym (zero-bytes spare)) ∙ sym (bytes_of-append numbers (replicate spare 0)))

result-none : (lent : ℕ) → replicate lent 0 ≡ result_of lent (replicate (lent / 2) 0)
result-none lent =
    let none : List ℕ = replicate (lent / 2) 0 in
    let size : length none ≡ lent / 2 = length-replicate (lent / 2) 0 in
    let e : lent ≡ 2 * (lent / 2) + (lent - 2 * length none) = omega arith in
    ap (λ (n : ℕ). replicate n 0) e
    ∙ sym (replicate-append-replicate (2 * (lent / 2)) (lent - 2 * length none) 0)
    ∙ ap (λ (l : List ℕ). l ++ replicate (lent - 2 * length none) 0) (sym (zero-bytes (lent / 2)))

-- what was told, and then 0
done-bytes :
    (lent result numbers : List ℕ) (used : ℕ) → used ≡ length numbers → result ≡ written lent 0 (bytes_of numbers)
    → take (2 * used) result ≡ bytes_of numbers
done-bytes lent result numbers used u w =
    let e : 2 * used ≡ 0 + length (bytes_of numbers) = omega (arith, length-bytes_of numbers) in
    (λ z. take (e z) (w z)) ∙ take-written-all lent 0 (bytes_of numbers) (omega arith)

-- ## Row 8

pub limit-bad : (limit lent : ℕ) → limit_broken limit lent ≡ true → ¬ LimitInOrder limit lent
unfolding limit_broken
limit-bad limit lent e o =
    by_order limit 1 (λ l. omega (arith, o.some))
    (λ l. by_order most_live limit (λ m. omega (arith, o.few))
    (λ m. by_order lent (work_per_reading * limit) (λ n. omega (arith, o.room))
    (λ n. let z : ◌≡◌ {A = ℕ} 0 1 = cc (le-ltb limit 1 l, le-ltb most_live limit m, le-ltb lent (work_per_reading * limit) n) in omega arith)))

pub limit-good : (limit lent : ℕ) → limit_broken limit lent ≡ false → LimitInOrder limit lent
unfolding limit_broken
limit-good limit lent e =
    let a = neither (ltb limit 1) (ltb most_live limit || ltb lent (work_per_reading * limit)) e in
    let b = neither (ltb most_live limit) (ltb lent (work_per_reading * limit)) a.1 in
    record { some = ltb-false limit 1 a.0; few = ltb-false most_live limit b.0; room = ltb-false lent (work_per_reading * limit) b.1 }

-- ## The promise

module _ (pattern block : List ℕ) (limit lent_work lent_result : ℕ) (answer : Answer) (work result : List ℕ)
    (w : work ≡ zeros lent_work) where
  pub call-pattern :
      ¬ ((pattern_answer pattern).code ≡ 0)
      → answer ≡ refused (pattern_answer pattern).code (pattern_answer pattern).place → result ≡ zeros lent_result
      → ForwardCall pattern block limit lent_work lent_result answer work result
  call-pattern n e r =
      let i = input-pattern pattern block n in
      refused_input (λ z. n (sym (ap (λ (a : Answer). a.code) i) ∙ z)) (e ∙ sym i) w r

  pub call-block :
      (pattern_answer pattern).code ≡ 0 → ¬ ((block_answer block).code ≡ 0) → answer ≡ block_answer block
      → result ≡ zeros lent_result
      → ForwardCall pattern block limit lent_work lent_result answer work result
  call-block p n e r =
      let i = input-block pattern block p in
      refused_input (λ z. n (sym (ap (λ (a : Answer). a.code) i) ∙ z)) (e ∙ sym i) w r

  module _ (p : (pattern_answer pattern).code ≡ 0) (b : (block_answer block).code ≡ 0) where
    accepts : (input_answer pattern block).code ≡ 0
    accepts = ap (λ (a : Answer). a.code) (input-block pattern block p) ∙ b

    pub call-limit :
        limit_broken limit lent_work ≡ true → answer ≡ refused 8 0 → result ≡ zeros lent_result
        → ForwardCall pattern block limit lent_work lent_result answer work result
    call-limit l e r = refused_limit accepts (limit-bad limit lent_work l) e w r

    module _ (lent told : List ℕ) (size : length lent ≡ lent_result) (kept : length told ≡ lent_result)
        (l : limit_broken limit lent_work ≡ false) (ran : Ran (pattern_in pattern) block limit lent told answer)
        (f : Finished answer told result) where
      meets :
          (o : Outcome) → forward (pattern_in pattern) (block_in block) limit (length lent / 2) ≡ o
          → Forward (pattern_in pattern) (block_in block) limit (room_in lent_result) o
      meets o e =
          subst (λ (n : ℕ). Forward (pattern_in pattern) (block_in block) limit (n / 2) o) size
          (subst (λ (a : Outcome). Forward (pattern_in pattern) (block_in block) limit (length lent / 2) a) e
          (forward-is (pattern_in pattern) (block_in block) (times-never-fall block (input-in-order pattern block accepts).ordered) limit (length lent / 2)))

      call-done : answer.code ≡ 0 → ForwardCall pattern block limit lent_work lent_result answer work result
      call-done z =
          let d = ran.succeeds z in
          let numbers : List ℕ = pack d.lines in
          let bytes : result ≡ bytes_of numbers ++ replicate (length lent - 2 * length numbers) 0 =
          f.done z ∙ (λ i. done-bytes lent told numbers answer.used d.used d.told i ++ replicate ((kept ∙ sym size) i - 2 * d.used i) 0) in
          answered accepts (limit-good limit lent_work l) (numbers ++ replicate (length lent / 2 - length numbers) 0)
          (meets (record { answer = answer; numbers = numbers ++ replicate (length lent / 2 - length numbers) 0 }) d.is) w
          (bytes ∙ result-of (length lent) numbers d.fits ∙ ap (λ (n : ℕ). result_of n (numbers ++ replicate (length lent / 2 - length numbers) 0)) size)

      call-refused : ¬ (answer.code ≡ 0) → ForwardCall pattern block limit lent_work lent_result answer work result
      call-refused n =
          answered accepts (limit-good limit lent_work l) (replicate (length lent / 2) 0)
          (meets (record { answer = answer; numbers = replicate (length lent / 2) 0 }) (ran.refuses n)) w
          (f.cleared n ∙ ap (λ (m : ℕ). replicate m 0) (kept ∙ sym size) ∙ result-none (length lent) ∙ ap (λ (m : ℕ). result_of m (replicate (length lent / 2) 0)) size)

      pub call-ran : ForwardCall pattern block limit lent_work lent_result answer work result
      call-ran =
          by-test (eqb answer.code 0)
          (λ t. call-done (eqb-true answer.code 0 t))
          (λ t. call-refused (eqb-false answer.code 0 t))

-- ## From the calls of the checks

pub block-prepared :
    (block : List ℕ) (judged : Answer) (p : Pattern) (plan : List ℕ) → InOrder p → IsPlan p plan
    → judged ≡ block_answer block → judged.code ≡ 0
    → Prepared p plan block
block-prepared block judged p plan o is e z =
    let b = Blocks.accepted-in-order block (ap (λ (a : Answer). a.code) (sym e) ∙ z) in
    record { pattern = o; made = is; times = times-never-fall block b; few = b.few }

pub done-room :
    {p : Pattern} {bytes lent result : List ℕ} {limit : ℕ} {answer : Answer}
    → Ran p bytes limit lent result answer → answer.code ≡ 0
    → 2 * answer.used ≤ length result
done-room {lent = lent} {answer = answer} ran z =
    let d = ran.succeeds z in
    let numbers : List ℕ = pack d.lines in
    let size = ap length d.told ∙ length-written lent 0 (bytes_of numbers) (omega arith) (omega (arith, length-bytes_of numbers, d.fits)) in
    omega (arith, d.used, d.fits)

-- a call that made no pass
pub code-some : (r : Refusal) → ¬ (code_of r ≡ 0)
code-some PatternLength z = omega arith
code-some Header z = omega arith
code-some (Variable v) z = omega arith
code-some (Condition j) z = omega arith
code-some BlockLength z = omega arith
code-some (Record i) z = omega arith
code-some (Time i) z = omega arith
code-some Limit z = omega arith
code-some (Bindings i) z = omega arith
code-some (Live i) z = omega arith
code-some ResultRoom z = omega arith
code-some SliceRoom z = omega arith
code-some (Line l) z = omega arith
code-some Index z = omega arith

pub answer-of :
    (r : Result Answer Refusal) (a : Answer) → MatchResult r (λ x. a ≡ x) (λ e. a ≡ refused (code_of e) (place_of e))
    → a ≡ answer_of r
answer-of (Ok x) a h = h
answer-of (Err e) a h = h

module _ {pattern block : List ℕ} {limit lent_work : ℕ} {lent : List ℕ} where
  pub called-pattern :
      (r : Refusal) → checked_of (Err r) ≡ pattern_answer pattern
      → Called pattern block limit lent_work lent lent (answer_of (Err r))
  called-pattern r e =
      Called.bad_pattern (λ z. code-some r (ap (λ (k : Checked). k.code) e ∙ z)) (ap (λ (k : Checked). refused k.code k.place) e) refl

  pub called-block :
      (r : Refusal) → (pattern_answer pattern).code ≡ 0 → judged_as (Err r) ≡ block_answer block
      → Called pattern block limit lent_work lent lent (answer_of (Err r))
  called-block r p e = Called.bad_block p (λ z. code-some r (ap (λ (a : Answer). a.code) e ∙ z)) e refl

  -- a call that succeeds told no more than there is room
  pub called-room :
      {told : List ℕ} {answer : Answer} → Called pattern block limit lent_work lent told answer → answer.code ≡ 0
      → 2 * answer.used ≤ length told
  called-room (Called.bad_pattern n e k) z = absurd (n (sym (ap (λ (a : Answer). a.code) e) ∙ z))
  called-room (Called.bad_block p n e k) z = absurd (n (sym (ap (λ (a : Answer). a.code) e) ∙ z))
  called-room (Called.bad_limit p b l e k) z = absurd (let q = ap (λ (a : Answer). a.code) e in omega arith)
  called-room (Called.passed p b l ran k) z = done-room ran z

  -- lent memory is cleared behind it
  pub call-made :
      {told : List ℕ} {answer : Answer} {work result : List ℕ} → work ≡ zeros lent_work
      → Called pattern block limit lent_work lent told answer → Finished answer told result
      → ForwardCall pattern block limit lent_work (length lent) answer work result
  call-made {told} {answer} {work} {result} w (Called.bad_pattern n e k) f =
      call-pattern pattern block limit lent_work (length lent) answer work result w n e
      (f.cleared (λ z. n (sym (ap (λ (a : Answer). a.code) e) ∙ z)) ∙ ap (λ (m : ℕ). replicate m 0) k)
  call-made {told} {answer} {work} {result} w (Called.bad_block p n e k) f =
      call-block pattern block limit lent_work (length lent) answer work result w p n e
      (f.cleared (λ z. n (sym (ap (λ (a : Answer). a.code) e) ∙ z)) ∙ ap (λ (m : ℕ). replicate m 0) k)
  call-made {told} {answer} {work} {result} w (Called.bad_limit p b l e k) f =
      call-limit pattern block limit lent_work (length lent) answer work result w p b l e
      (f.cleared (λ z. let q = ap (λ (a : Answer). a.code) e in omega arith) ∙ ap (λ (m : ℕ). replicate m 0) k)
  call-made {told} {answer} {work} {result} w (Called.passed p b l ran k) f =
      call-ran pattern block limit lent_work (length lent) answer work result w p b lent told refl k l ran f
