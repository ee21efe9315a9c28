-- The two passes agree, of any answers that meet the promises of their C calls: what
-- Rattle.rule.proofs.Demand3 says of the Rattle calls, read off the packed answers. Assumes nothing.
use mathlib.Core.Path.{◌≡◌, ◌∙◌, refl, sym, ap, subst}
use mathlib.Core.Logic.{◌⊎◌, inl, inr, ◌↔◌}
use mathlib.Core.List.{List}
use Prim.Native.Nat.{ℕ, ◌<◌, ◌≤◌, min}
use native.Mathlib.Omega.{arith}
use borrow.Author.Tests.{eq-eqb, ne_eqb}
use Rattle.records.specs.declared.Answer.{Answer}
use Rattle.records.specs.Blocks.{most_records, refused}
use Rattle.rule.specs.Calls.{pattern_in, block_in, LimitInOrder}
use Rattle.rule.proofs.Demand3.{SameNumbers, TooManyFirst, forward-then-start, start-then-forward, room-refused}
use Rattle.rule.proofs.Demand3.{many-inside}
use Rattle.rule.proofs.Inputs.{input-in-order, times-never-fall}
use Rattle.rule.proofs.Results.{checked-input}
use Rattle.spaldep.specs.Packed.{capped, place_or_used, packed_answer, code_in, place_or_used_in, readings_in}
use Rattle.spaldep.specs.Host.{ResultInOrder, StartByStartHost, ForwardHost}
use Rattle.spaldep.proofs.Fields.{packed-code, packed-place, packed-readings}

-- ## The code of a packed answer, and what goes with it

module _ (a : Answer) (word : ℕ) (w : word ≡ packed_answer a) where
  word-code : code_in word ≡ min a.code 255
  word-code = ap code_in w ∙ packed-code a

  -- a code below 255 is the answer's
  pub code-back : (code : ℕ) → code < 255 → code_in word ≡ code → a.code ≡ code
  code-back code h e = omega (arith, word-code)

  pub code-on : (code : ℕ) → code < 255 → a.code ≡ code → code_in word ≡ code
  code-on code h e = omega (arith, word-code)

  word-used : a.code ≡ 0 → place_or_used_in word ≡ capped 24 a.used
  unfolding place_or_used
  word-used e = ap place_or_used_in w ∙ packed-place a ∙ ap (capped 24) (rw (eq-eqb a.code 0 e, place_or_used))

  word-place : ¬ (a.code ≡ 0) → place_or_used_in word ≡ capped 24 a.place
  unfolding place_or_used
  word-place n = ap place_or_used_in w ∙ packed-place a ∙ ap (capped 24) (rw (ne_eqb a.code 0 n, place_or_used))

-- two calls write the same numbers: the same result, used and readings
pub record SameWords (word other : ℕ) (result after : List ℕ) : Type 0 where
  pub bytes : result ≡ after
  pub used : place_or_used_in word ≡ place_or_used_in other
  pub readings : readings_in word ≡ readings_in other

module _ (a b : Answer) (word other : ℕ) (v : word ≡ packed_answer a) (w : other ≡ packed_answer b)
    (result after : List ℕ) where
  pub same-words : a.code ≡ 0 → b.code ≡ 0 → SameNumbers a b result after → SameWords word other result after
  same-words d e s =
      record {
        bytes = s.bytes;
        used = word-used a word v d ∙ ap (capped 24) s.used ∙ sym (word-used b other w e);
        readings = ap readings_in v ∙ packed-readings a ∙ ap (capped 16) s.readings ∙ sym (packed-readings b) ∙ sym (ap readings_in w);
      }

-- ## The refusal of a result slice is 8

pub not_eight : (word code : ℕ) → word ≡ packed_answer (refused 8 0) → code_in word ≡ code → code ≡ 8
not_eight word code w e = sym e ∙ code-on (refused 8 0) word w 8 (omega arith) refl

module _ (pattern block : List ℕ) (limit lent_work lent_result word other : ℕ) (work result after : List ℕ) where
  -- what the forward call accepts: on the same pattern and block, with the same length of result
  pub host-forward-then-start :
      ForwardHost pattern block limit lent_work lent_result word work result
      → StartByStartHost pattern block lent_result other after
      → code_in word ≡ 0
      → (code_in other ≡ 0) × SameWords word other result after
  host-forward-then-start (ForwardHost.refused_result i n w y r) s z = absurd (let e = not_eight word 0 w z in omega arith)
  host-forward-then-start (ForwardHost.called e a f v) (StartByStartHost.refused_result i n w r) z =
      absurd (n (e i))
  host-forward-then-start (ForwardHost.called e a f v) (StartByStartHost.called d b s w) z =
      let accepted = code-back a word v 0 (omega arith) z in
      let q = forward-then-start pattern block limit lent_work lent_result a b work result after f s accepted in
      (code-on b other w 0 (omega arith) q.0, same-words a b word other v w result after accepted q.0 q.1)

  -- what the start-by-start call accepts: with limit and working memory in order, the forward call can only say 10
  pub host-start-then-forward :
      ForwardHost pattern block limit lent_work lent_result word work result
      → StartByStartHost pattern block lent_result other after
      → code_in other ≡ 0
      → LimitInOrder limit lent_work
      → ((code_in word ≡ 0) × SameWords word other result after) ⊎ (code_in word ≡ 10)
  host-start-then-forward f (StartByStartHost.refused_result i n w r) z limited = absurd (let e = not_eight other 0 w z in omega arith)
  host-start-then-forward (ForwardHost.refused_result i n w y r) (StartByStartHost.called d b s v) z limited = absurd (n (d i))
  host-start-then-forward (ForwardHost.called e a f v) (StartByStartHost.called d b s w) z limited =
      go (start-then-forward pattern block limit lent_work lent_result a b work result after f s accepted limited)
    where
      accepted : b.code ≡ 0
      accepted = code-back b other w 0 (omega arith) z

      go :
          ((a.code ≡ 0) × SameNumbers a b result after) ⊎ (a.code ≡ 10)
          → ((code_in word ≡ 0) × SameWords word other result after) ⊎ (code_in word ≡ 10)
      go (inl q) = inl (code-on a word v 0 (omega arith) q.0, same-words a b word other v w result after q.0 accepted q.1)
      go (inr q) = inr (code-on a word v 10 (omega arith) q)

-- ## When the forward call says 10

module _ (pattern block : List ℕ) (limit lent_work lent_result word : ℕ) (work result : List ℕ) where
  -- a record of the block, so its number fits the field
  place-fits : (j : ℕ) → TooManyFirst pattern block limit lent_work lent_result j → j ≤ most_records
  place-fits j h =
      let inputs = input-in-order pattern block h.accepted in
      omega (arith, many-inside (pattern_in pattern) (block_in block) (times-never-fall block inputs.ordered) limit j h.many, (checked-input pattern block inputs).few)

  -- 10 at record j, exactly where more readings than the limit are live after it and no other refusal comes first, that
  -- of the result slice among them
  pub host-room-refused :
      ForwardHost pattern block limit lent_work lent_result word work result
      → (j : ℕ)
      → ((code_in word ≡ 10) × (place_or_used_in word ≡ j)) ↔
      (ResultInOrder lent_result × TooManyFirst pattern block limit lent_work lent_result j)
  host-room-refused (ForwardHost.refused_result i n w y r) j =
      ((λ h. absurd (let e = not_eight word 10 w h.0 in omega arith)), (λ h. absurd (n h.0)))
  host-room-refused (ForwardHost.called e a f w) j = (only, always)
    where
      refused-here : a.code ≡ 10 → place_or_used_in word ≡ capped 24 a.place
      refused-here z = word-place a word w (λ q. omega arith)

      only :
          (code_in word ≡ 10) × (place_or_used_in word ≡ j)
          → ResultInOrder lent_result × TooManyFirst pattern block limit lent_work lent_result j
      only h =
          let z = code-back a word w 10 (omega arith) h.0 in
          let first = (room-refused pattern block limit lent_work lent_result a work result f a.place).0 (z, refl) in
          let same : a.place ≡ j = omega (arith, refused-here z, h.1, place-fits a.place first) in
          (e first.accepted, subst (TooManyFirst pattern block limit lent_work lent_result) same first)

      always :
          ResultInOrder lent_result × TooManyFirst pattern block limit lent_work lent_result j
          → (code_in word ≡ 10) × (place_or_used_in word ≡ j)
      always h =
          let q = (room-refused pattern block limit lent_work lent_result a work result f j).1 h.1 in
          (code-on a word w 10 (omega arith) q.0, omega (arith, refused-here q.0, q.1, place-fits j h.1))
