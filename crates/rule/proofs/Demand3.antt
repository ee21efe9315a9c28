-- The two passes agree (the customer's third demand): of any answers that meet their promises, from the caller's bytes.
-- Assumes nothing.
use mathlib.Core.Path.{◌≡◌, refl, sym, ap, subst, ◌∙◌}
use mathlib.Core.Logic.{◌⊎◌, inl, inr, ◌↔◌}
use mathlib.Core.List.{List, [], ◌∷◌, ◌++◌, Memᴰ}
use Prim.Native.Nat.{ℕ, zero, suc, ◌+◌, ◌-◌, ◌≤◌, ◌<◌}
use native.Mathlib.Omega.{arith}
use lib.ListN.{length, replicate, length-append}
use Rattle.records.specs.declared.Answer.{Answer}
use Rattle.patterns.specs.declared.Pattern.{Pattern}
use Rattle.numbers.proofs.Cases.{by_order}
use Rattle.rule.specs.Rule.{Block, Reading, LiveAfter, Report, TimesNeverFall, pack}
use Rattle.rule.specs.Promises.{Outcome, Forward, Meets, NoRoom, TooMany, refusal, success}
use Rattle.rule.specs.Calls.{input_answer, pattern_in, block_in, zeros, room_in, result_of, StartByStartCall}
use Rattle.rule.specs.Calls.{LimitInOrder, ForwardCall}
use Rattle.rule.specs.Computed.{live, closed, closing}
use Rattle.rule.proofs.EveryReading.{never-twice}
use Rattle.rule.proofs.OneReport.{one-report}
use Rattle.rule.proofs.Report.{closed_is}
use Rattle.rule.proofs.SkipBranch.{pack-append}
use Rattle.rule.proofs.Written.{report-written, live_inside}
use Rattle.rule.proofs.Inputs.{input-in-order, input-refused, times-never-fall}
use Rattle.rule.proofs.Calls.{start-by-start-one, forward-one}
use Rattle.rule.proofs.Accepted.{CallTold, told-start, start-by-start-told, forward-call-told}

-- ## What has closed by a record needs no more numbers than the whole

module _ (p : Pattern) (B : Block) (mono : TimesNeverFall B) where
  closed-more :
      (k : ℕ)
      → length (pack (closed p B (suc k))) ≡ length (pack (closed p B k)) + length (pack (closing p B k (live p B k)))
  unfolding closed
  closed-more k = ap length (pack-append (closed p B k) (closing p B k (live p B k))) ∙ length-append (pack (closed p B k)) (pack (closing p B k (live p B k)))

  closed-grows : (n k : ℕ) → k ≤ n → length (pack (closed p B k)) ≤ length (pack (closed p B n))
  closed-grows zero k h = let e : k ≡ 0 = omega arith in omega (arith, ap (λ i. length (pack (closed p B i))) e)
  closed-grows (suc n) k h =
      by_order k (suc n)
      (λ l. omega (arith, closed-grows n k (omega arith), closed-more n))
      (λ l. let e : k ≡ suc n = omega arith in omega (arith, ap (λ i. length (pack (closed p B i))) e))

  no-room-grows : (room j : ℕ) → j ≤ length B → NoRoom p B room j → NoRoom p B room (length B)
  no-room-grows room j h n =
      record {
        lines = closed p B (suc (length B));
        report = whole (length B);
        more = omega (arith, n.more, ap (λ l. length (pack l)) (one-report p B j n.lines (closed p B (suc j)) n.report (whole j)), closed-grows (suc (length B)) (suc j) (omega arith));
      }
    where
      whole : (k : ℕ) → Report p B k (closed p B (suc k))
      whole k = (report-written p B mono k (closed p B (suc k))).0 (closed_is p B mono k)

-- ## What one accepts, the other accepts

-- two calls write the same numbers: the same result, used and readings
pub record SameNumbers (a b : Answer) (result other : List ℕ) : Type 0 where
  pub bytes : result ≡ other
  pub used : a.used ≡ b.used
  pub readings : a.readings ≡ b.readings

module _ (pattern block : List ℕ) (limit lent_work lent_result : ℕ) where
  -- what is told fixes the numbers
  told_same :
      (a b : Answer) (result other : List ℕ) → CallTold pattern block lent_result a result
      → CallTold pattern block lent_result b other
      → SameNumbers a b result other
  told_same a b result other c d =
      let e = one-report (pattern_in pattern) (block_in block) (length (block_in block)) c.told.lines d.told.lines c.told.report d.told.report in
      let room = room_in lent_result in
      record {
        bytes = c.bytes ∙ ap (result_of lent_result) (c.told.numbers ∙ ap (λ l. pack l ++ replicate (room - length (pack l)) 0) e ∙ sym d.told.numbers) ∙ sym d.bytes;
        used = c.told.used ∙ ap (λ l. length (pack l)) e ∙ sym d.told.used;
        readings = c.told.readings ∙ ap length e ∙ sym d.told.readings;
      }

  -- what the forward pass accepts: on the same pattern and block, with the same length of result
  pub forward-then-start :
      (a b : Answer) (work result other : List ℕ) → ForwardCall pattern block limit lent_work lent_result a work result
      → StartByStartCall pattern block lent_result b other → a.code ≡ 0
      → (b.code ≡ 0) × SameNumbers a b result other
  forward-then-start a b work result other f s z =
      let c = forward-call-told pattern block limit lent_work lent_result a work result f z in
      let o = success (room_in lent_result) c.told.lines 0 in
      let meets = StartByStartCall.answered c.accepted o.numbers (told-start (pattern_in pattern) (block_in block) (room_in lent_result) (record { answer = a; numbers = c.numbers }) c.told) refl in
      let code = ap (λ (x : Answer). x.code) (start-by-start-one pattern block lent_result b o.answer other (result_of lent_result o.numbers) s meets).0 in
      (code, told_same a b result other c (start-by-start-told pattern block lent_result b other s code))

  -- what the start-by-start pass accepts: with limit and working memory in order, the forward pass can only say 10
  pub start-then-forward :
      (a b : Answer) (work result other : List ℕ) → ForwardCall pattern block limit lent_work lent_result a work result
      → StartByStartCall pattern block lent_result b other → b.code ≡ 0 → LimitInOrder limit lent_work
      → ((a.code ≡ 0) × SameNumbers a b result other) ⊎ (a.code ≡ 10)
  start-then-forward a b work result other f s z limited = go f
    where
      d : CallTold pattern block lent_result b other
      d = start-by-start-told pattern block lent_result b other s z

      mono : TimesNeverFall (block_in block)
      mono = times-never-fall block (input-in-order pattern block d.accepted).ordered

      no_room :
          (j : ℕ) → j ≤ length (block_in block) → ¬ NoRoom (pattern_in pattern) (block_in block) (room_in lent_result) j
      no_room j h n =
          let q = no-room-grows (pattern_in pattern) (block_in block) mono (room_in lent_result) j h n in
          omega (arith, q.more, ap (λ l. length (pack l)) (one-report (pattern_in pattern) (block_in block) (length (block_in block)) q.lines d.told.lines q.report d.told.report), d.told.fits)

      same : a.code ≡ 0 → ((a.code ≡ 0) × SameNumbers a b result other) ⊎ (a.code ≡ 10)
      same e = inl (e, told_same a b result other (forward-call-told pattern block limit lent_work lent_result a work result f e) d)

      go :
          ForwardCall pattern block limit lent_work lent_result a work result
          → ((a.code ≡ 0) × SameNumbers a b result other) ⊎ (a.code ≡ 10)
      go (ForwardCall.refused_input n e w r) = absurd (n d.accepted)
      go (ForwardCall.refused_limit i n e w r) = absurd (n limited)
      go (ForwardCall.answered i l numbers (Forward.succeeds q m n r k e) w v) = same (ap (λ (x : Outcome). x.answer.code) e)
      go (ForwardCall.answered i l numbers (Forward.refuses j zero h m n e) w v) = absurd (no_room j h m)
      go (ForwardCall.answered i l numbers (Forward.refuses j (suc zero) h m n e) w v) = absurd (d.told.short j m)
      go (ForwardCall.answered i l numbers (Forward.refuses j (suc (suc zero)) h m n e) w v) = absurd (never-twice (pattern_in pattern) (block_in block) j m)
      go (ForwardCall.answered i l numbers (Forward.refuses j (suc (suc (suc t))) h m n e) w v) = inr (ap (λ (x : Outcome). x.answer.code) e)

-- ## When the forward pass says 10

-- more readings than the limit stand live after record j, and no other refusal precedes: pattern, block, limit and
-- working memory are in order, and no row holds at an earlier record, nor 11, 9 or 13 at this one
pub record TooManyFirst (pattern block : List ℕ) (limit lent_work lent_result j : ℕ) : Type 0 where
  pub accepted : (input_answer pattern block).code ≡ 0
  pub limited : LimitInOrder limit lent_work
  pub many : TooMany (pattern_in pattern) (block_in block) limit j
  pub earliest :
      (i u : ℕ) → (i < j) ⊎ ((i ≡ j) × (u < 3))
      → ¬ Meets (pattern_in pattern) (block_in block) limit (room_in lent_result) i u

-- what is counted live after record j is there, so record j is one of the block
pub many-inside : (p : Pattern) (B : Block) → TimesNeverFall B → (L j : ℕ) → TooMany p B L j → j < length B
many-inside p B mono L j m = go m.count.readings (omega (arith, m.more, m.count.size)) m.count.sound
  where
    go : (l : List Reading) → 1 ≤ length l → ((r : Reading) → Memᴰ r l → LiveAfter p B r j) → j < length B
    go [] h s = absurd (omega arith)
    go (r ∷ l) h s = live_inside p B mono r j (s r (Memᴰ.head refl))

module _ (pattern block : List ℕ) (limit lent_work lent_result : ℕ) (a : Answer) (work result : List ℕ) where
  -- a 10 has its cause: at its place more readings are live than the limit allows,
  pub room-refused-only :
      ForwardCall pattern block limit lent_work lent_result a work result → a.code ≡ 10
      → TooManyFirst pattern block limit lent_work lent_result a.place
  room-refused-only (ForwardCall.refused_input n e w r) z = let q = ap (λ (x : Answer). x.code) e in absurd (omega (arith, (input-refused pattern block n).up_to))
  room-refused-only (ForwardCall.refused_limit i n e w r) z = let q = ap (λ (x : Answer). x.code) e in absurd (omega arith)
  room-refused-only (ForwardCall.answered i l numbers (Forward.succeeds q m n r k e) w v) z = let q = ap (λ (x : Outcome). x.answer.code) e in absurd (omega arith)
  room-refused-only (ForwardCall.answered i l numbers (Forward.refuses j zero h m n e) w v) z = let q = ap (λ (x : Outcome). x.answer.code) e in absurd (omega arith)
  room-refused-only (ForwardCall.answered i l numbers (Forward.refuses j (suc zero) h m n e) w v) z = let q = ap (λ (x : Outcome). x.answer.code) e in absurd (omega arith)
  room-refused-only (ForwardCall.answered i l numbers (Forward.refuses j (suc (suc zero)) h m n e) w v) z = let q = ap (λ (x : Outcome). x.answer.code) e in absurd (omega arith)
  room-refused-only (ForwardCall.answered i l numbers (Forward.refuses j (suc (suc (suc zero))) h m n e) w v) z =
      subst (TooManyFirst pattern block limit lent_work lent_result) (sym (ap (λ (x : Outcome). x.answer.place) e)) (record { accepted = i; limited = l; many = m; earliest = n })
  room-refused-only (ForwardCall.answered i l numbers (Forward.refuses j (suc (suc (suc (suc t)))) h m n e) w v) z = absurd m

  -- and the cause has its 10, unless another refusal comes first (rules 8.14, 8.15)
  pub room-refused-always :
      ForwardCall pattern block limit lent_work lent_result a work result
      → (j : ℕ) → TooManyFirst pattern block limit lent_work lent_result j
      → (a.code ≡ 10) × (a.place ≡ j)
  room-refused-always f j h =
      let mono = times-never-fall block (input-in-order pattern block h.accepted).ordered in
      let o = refusal (room_in lent_result) j 3 in
      let inside = many-inside (pattern_in pattern) (block_in block) mono limit j h.many in
      let meets = ForwardCall.answered h.accepted h.limited o.numbers (Forward.refuses j 3 (omega arith) h.many h.earliest refl) refl refl in
      let e = (forward-one pattern block limit lent_work lent_result a o.answer work (zeros lent_work) result (result_of lent_result o.numbers) f meets).0 in
      (ap (λ (x : Answer). x.code) e, ap (λ (x : Answer). x.place) e)

  -- both ways
  pub room-refused :
      ForwardCall pattern block limit lent_work lent_result a work result → (j : ℕ)
      → ((a.code ≡ 10) × (a.place ≡ j)) ↔ TooManyFirst pattern block limit lent_work lent_result j
  room-refused f j = (
    (λ h. subst (TooManyFirst pattern block limit lent_work lent_result) h.1 (room-refused-only f h.0)),
    (λ h. room-refused-always f j h),
  )

  -- The same of any record after which more stand live: if neither 11, 9 nor 13 holds there or before, the refusal is
  -- 10, at that record or an earlier one.
  pub room-refused-some : ForwardCall pattern block limit lent_work lent_result a work result
      → (input_answer pattern block).code ≡ 0
      → LimitInOrder limit lent_work
      → (j : ℕ)
      → TooMany (pattern_in pattern) (block_in block) limit j
      → ((i u : ℕ) → i ≤ j → u < 3 → ¬ Meets (pattern_in pattern) (block_in block) limit (room_in lent_result) i u)
      → (a.code ≡ 10) × (a.place ≤ j)
  room-refused-some f accepted limited j many none = go f
    where
      inside : j < length (block_in block)
      inside = many-inside (pattern_in pattern) (block_in block) (times-never-fall block (input-in-order pattern block accepted).ordered) limit j many

      not_after :
          (k t : ℕ) → ((i u : ℕ) → (i < k) ⊎ ((i ≡ k) × (u < t))
          → ¬ Meets (pattern_in pattern) (block_in block) limit (room_in lent_result) i u)
          → k ≤ j
      not_after k t n = by_order j k (λ l. absurd (n j 3 (inl l) many)) (λ l. l)

      go : ForwardCall pattern block limit lent_work lent_result a work result → (a.code ≡ 10) × (a.place ≤ j)
      go (ForwardCall.refused_input n e w r) = absurd (n accepted)
      go (ForwardCall.refused_limit i n e w r) = absurd (n limited)
      go (ForwardCall.answered i l numbers (Forward.succeeds q m n r k e) w v) = absurd (n j 3 (omega (arith, inside)) many)
      go (ForwardCall.answered i l numbers (Forward.refuses k zero h m n e) w v) = absurd (none k 0 (not_after k 0 n) (omega arith) m)
      go (ForwardCall.answered i l numbers (Forward.refuses k (suc zero) h m n e) w v) = absurd (none k 1 (not_after k 1 n) (omega arith) m)
      go (ForwardCall.answered i l numbers (Forward.refuses k (suc (suc zero)) h m n e) w v) = absurd (none k 2 (not_after k 2 n) (omega arith) m)
      go (ForwardCall.answered i l numbers (Forward.refuses k (suc (suc (suc t))) h m n e) w v) =
          let q = ap (λ (x : Outcome). x.answer.place) e in
          (ap (λ (x : Outcome). x.answer.code) e, omega (arith, not_after k (suc (suc (suc t))) n))
