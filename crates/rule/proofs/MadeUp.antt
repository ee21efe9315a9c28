-- Made-up counts and room refusals of a forward pass are shut out, whatever it is asked: peak and readings are counts
-- over the reading rule, and a refusal for want of room is given only where the rule wants it. Assumes nothing.
use mathlib.Core.Path.{◌≡◌, refl, sym, ap, subst, ◌∙◌}
use mathlib.Core.Logic.{◌⊎◌, inl, inr}
use mathlib.Core.List.Memᴰ
use mathlib.Core.List.{List, []}
use Prim.Native.Nat.{ℕ, zero, suc, ◌<◌}
use native.Mathlib.Omega.{arith}
use lib.ListN.{length}
use Rattle.records.specs.declared.Answer.{Answer}
use Rattle.records.specs.Blocks.{refused}
use Rattle.rule.specs.Rule.{Line, Report}
use Rattle.rule.specs.Promises.{Outcome, LiveCount, IsPeak, TooMany, NoRoom, Forward, refusal}
use Rattle.rule.specs.Calls.{pattern_in, block_in, zeros, room_in, result_of, ForwardCall}
use Rattle.rule.specs.Bench.{bench_pattern, bench_block, bench_numbers, full_result, gives, P3, P4}
use Rattle.rule.proofs.OneReport.{one-report}
use Rattle.rule.proofs.Inputs.{input-refused}
use Rattle.rule.proofs.Calls.{forward-one}
use Rattle.rule.proofs.Accepted.{forward-call-told}
use Rattle.rule.proofs.Demand3.{room-refused-only}
use Rattle.rule.proofs.Rows.{rows}

refusal-code : (room j t : ℕ) → ¬ ((refusal room j t).answer.code ≡ 0)
refusal-code room j zero e = omega arith
refusal-code room j (suc zero) e = omega arith
refusal-code room j (suc (suc zero)) e = omega arith
refusal-code room j (suc (suc (suc t))) e = omega arith

-- an answer with other counts of readings and peak
abbrev pub with_counts : ℕ → ℕ → Answer → Answer
with_counts readings peak a =
    record { code = a.code; place = a.place; used = a.used; readings = readings; peak = peak }

-- ## Of any input

module _ (pattern block : List ℕ) (limit lent_work lent_result : ℕ) (a : Answer) (work result : List ℕ) where
  -- the peak is the greatest count that the rule gives
  pub peak-counted : ForwardCall pattern block limit lent_work lent_result a work result → a.code ≡ 0
      → IsPeak (pattern_in pattern) (block_in block) a.peak
  peak-counted (ForwardCall.refused_input n e w r) z = absurd (n (sym (ap (λ (x : Answer). x.code) e) ∙ z))
  peak-counted (ForwardCall.refused_limit y n e w r) z = let q = ap (λ (x : Answer). x.code) e in absurd (omega arith)
  peak-counted (ForwardCall.answered y l numbers (Forward.refuses j t k h f e) w r) z =
      absurd (refusal-code (room_in lent_result) j t (sym (ap (λ (x : Outcome). x.answer.code) e) ∙ z))
  peak-counted (ForwardCall.answered y l numbers (Forward.succeeds lines peak n rep most e) w r) z =
      subst (IsPeak (pattern_in pattern) (block_in block)) (sym (ap (λ (x : Outcome). x.answer.peak) e)) most

  -- readings: as many as the rule reports
  pub readings-counted : ForwardCall pattern block limit lent_work lent_result a work result → a.code ≡ 0
      → (l : List Line) → Report (pattern_in pattern) (block_in block) (length (block_in block)) l → a.readings ≡ length l
  readings-counted met z l r =
      let q = (forward-call-told pattern block limit lent_work lent_result a work result met z).told in
      q.readings
      ∙ ap length (one-report (pattern_in pattern) (block_in block) (length (block_in block)) q.lines l q.report r)

  -- counts of readings or a peak other than the right ones
  pub made-up-counts : (readings peak : ℕ) (other_work other_result : List ℕ)
      → ¬ ((readings ≡ a.readings) × (peak ≡ a.peak))
      → ForwardCall pattern block limit lent_work lent_result a work result
      → ¬ ForwardCall pattern block limit lent_work lent_result (with_counts readings peak a) other_work other_result
  made-up-counts readings peak other_work other_result n right wrong =
      let q = forward-one pattern block limit lent_work lent_result _ a other_work work other_result result wrong right in
      n (ap (λ (x : Answer). x.readings) q.0, ap (λ (x : Answer). x.peak) q.0)

  -- one more than the right peak
  pub raised-peak : ForwardCall pattern block limit lent_work lent_result a work result
      → ¬ ForwardCall pattern block limit lent_work lent_result (with_counts a.readings (suc a.peak) a) work result
  raised-peak = made-up-counts a.readings (suc a.peak) work result (λ e. omega (arith, e.1))

  -- one more reading than the right count
  pub raised-readings : ForwardCall pattern block limit lent_work lent_result a work result
      → ¬ ForwardCall pattern block limit lent_work lent_result (with_counts (suc a.readings) a.peak a) work result
  raised-readings = made-up-counts (suc a.readings) a.peak work result (λ e. omega (arith, e.0))

  -- a made-up room refusal: 10 with a record after which not more than L stand live
  pub made-up-room : a.code ≡ 10 → ¬ TooMany (pattern_in pattern) (block_in block) limit a.place
      → ¬ ForwardCall pattern block limit lent_work lent_result a work result
  made-up-room z n met =
      n (room-refused-only pattern block limit lent_work lent_result a work result met z).many

  -- 11: what has closed at some record needs more numbers than lent
  no_room : ForwardCall pattern block limit lent_work lent_result a work result → a.code ≡ 11
      → (j : ℕ) × NoRoom (pattern_in pattern) (block_in block) (room_in lent_result) j
  no_room (ForwardCall.refused_input n e w r) z =
      absurd (omega (arith, ap (λ (x : Answer). x.code) e, (input-refused pattern block n).up_to))
  no_room (ForwardCall.refused_limit y n e w r) z = let q = ap (λ (x : Answer). x.code) e in absurd (omega arith)
  no_room (ForwardCall.answered y l numbers (Forward.succeeds lines peak n rep most e) w r) z =
      let q = ap (λ (x : Outcome). x.answer.code) e in absurd (omega arith)
  no_room (ForwardCall.answered y l numbers (Forward.refuses j zero k h f e) w r) z = (j, h)
  no_room (ForwardCall.answered y l numbers (Forward.refuses j (suc zero) k h f e) w r) z =
      let q = ap (λ (x : Outcome). x.answer.code) e in absurd (omega arith)
  no_room (ForwardCall.answered y l numbers (Forward.refuses j (suc (suc zero)) k h f e) w r) z =
      let q = ap (λ (x : Outcome). x.answer.code) e in absurd (omega arith)
  no_room (ForwardCall.answered y l numbers (Forward.refuses j (suc (suc (suc t))) k h f e) w r) z =
      let q = ap (λ (x : Outcome). x.answer.code) e in absurd (omega arith)

  -- 11 where what has closed at any record fits the result
  pub made-up-full : a.code ≡ 11
      → ((j : ℕ) → ¬ NoRoom (pattern_in pattern) (block_in block) (room_in lent_result) j)
      → ¬ ForwardCall pattern block limit lent_work lent_result a work result
  made-up-full z n met = let q = no_room met z in n q.0 q.1

-- ## Of the bench block, with limits 5 and 4

abbrev pub OfLimit5 : Answer → List ℕ → List ℕ → Type 0
OfLimit5 answer work result = ForwardCall bench_pattern bench_block 5 800 full_result answer work result

abbrev pub OfLimit4 : Answer → List ℕ → List ℕ → Type 0
OfLimit4 answer work result = ForwardCall bench_pattern bench_block 4 640 full_result answer work result

-- P3
limit5-row : OfLimit5 (gives 14 3 5 []).answer (zeros 800) (result_of full_result bench_numbers)
limit5-row = (rows P3 (search (Memᴰ.head, Memᴰ.tail) depth 16)).0

-- P4
limit4-row : OfLimit4 (refused 10 5) (zeros 640) (result_of full_result [])
limit4-row = (rows P4 (search (Memᴰ.head, Memᴰ.tail) depth 16)).0

-- five readings are live after some record of the block
pub five-live : (j : ℕ) × LiveCount (pattern_in bench_pattern) (block_in bench_block) j 5
five-live = go (peak-counted bench_pattern bench_block 5 800 full_result _ _ _ limit5-row refl).reached
  where
    go : (◌≡◌ {A = ℕ} 5 0)
        ⊎ ((j : ℕ) × (j < length (block_in bench_block)) × LiveCount (pattern_in bench_pattern) (block_in bench_block) j 5)
        → (j : ℕ) × LiveCount (pattern_in bench_pattern) (block_in bench_block) j 5
    go (inl e) = absurd (omega arith)
    go (inr (j, l, c)) = (j, c)

module _ (answer : Answer) (work result : List ℕ) where
  -- so one that gives 10 where as many as L stand live is shut out,
  pub refuses-at-limit : answer.code ≡ 10 → ¬ OfLimit5 answer work result
  refuses-at-limit z met =
      let q = forward-one bench_pattern bench_block 5 800 full_result answer _ work _ result _ met limit5-row in
      omega (arith, z, ap (λ (a : Answer). a.code) q.0)

  -- and one that never gives 10
  pub never-short : ¬ (answer.code ≡ 10) → ¬ OfLimit4 answer work result
  never-short n met =
      let q = forward-one bench_pattern bench_block 4 640 full_result answer _ work _ result _ met limit4-row in
      n (ap (λ (a : Answer). a.code) q.0)
