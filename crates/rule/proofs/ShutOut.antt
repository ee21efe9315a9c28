-- Wrong forward passes are shut out: one that refuses all, that reports nothing or a fixed list, or that leaves the
-- slices untouched. Each of them answers the bench block or a block without records as the promise does not allow;
-- pattern and block are bytes (proofs/BenchBytes). Assumes nothing.
use mathlib.Core.Path.{◌≡◌, refl, sym, ap, ◌∙◌}
use mathlib.Core.List.Memᴰ
use mathlib.Core.List.{List, []}
use Prim.Native.Nat.{ℕ}
use native.Mathlib.Omega.{arith}
use lib.ListN.{get_or, replicate}
use Rattle.numbers.specs.Numbers.{bytes_of}
use Rattle.records.specs.declared.Answer.{Answer}
use Rattle.rule.specs.Calls.{zeros, result_of, ForwardCall}
use Rattle.rule.specs.Bench.{bench_pattern, bench_block, bench_numbers, full_limit, full_work, full_result, gives}
use Rattle.rule.specs.Bench.{P1, P7}
use Rattle.rule.proofs.Calls.{forward-one}
use Rattle.rule.proofs.Rows.{rows}

-- ## What is right of the bench block and of no records

-- the answer and the slices after a call, of the bench block with the limit and the slices that the match program lends
abbrev pub OfBench : Answer → List ℕ → List ℕ → Type 0
OfBench answer work result = ForwardCall bench_pattern bench_block full_limit full_work full_result answer work result

-- the same of a block without records
abbrev pub OfNothing : Answer → List ℕ → List ℕ → Type 0
OfNothing answer work result = ForwardCall bench_pattern [] full_limit full_work full_result answer work result

module _ (answer : Answer) (work result : List ℕ) where
  -- row P1
  pub bench-told : OfBench answer work result
      → (answer ≡ (gives 14 3 5 []).answer) × (work ≡ zeros full_work) × (result ≡ result_of full_result bench_numbers)
  bench-told met =
      forward-one bench_pattern bench_block full_limit full_work full_result answer _ work _ result _ met
      (rows P1 (Memᴰ.head refl)).0

  -- row P7
  nothing-told : OfNothing answer work result
      → (answer ≡ (gives 0 0 0 []).answer) × (work ≡ zeros full_work) × (result ≡ result_of full_result [])
  nothing-told met =
      forward-one bench_pattern [] full_limit full_work full_result answer _ work _ result _ met
      (rows P7 (search (Memᴰ.head, Memᴰ.tail) depth 16)).0

-- their results differ
pub bench-not-empty : ¬ (result_of full_result bench_numbers ≡ result_of full_result [])
unfolding bytes_of
bench-not-empty e = let q : ◌≡◌ {A = ℕ} 64 0 = ap (λ l. get_or l 0 0) e in omega arith

-- ## What is shut out

module _ (answer : Answer) (work result : List ℕ) where
  -- a pass that refuses all
  pub refuses-all : ¬ (answer.code ≡ 0) → ¬ OfBench answer work result
  refuses-all n met = n (ap (λ (a : Answer). a.code) (bench-told answer work result met).0)

  -- one that always reports nothing: no readings, or no number written
  pub reports-nothing : answer.readings ≡ 0 → ¬ OfBench answer work result
  reports-nothing z met =
      omega (arith, z, ap (λ (a : Answer). a.readings) (bench-told answer work result met).0)

  pub writes_nothing : result ≡ zeros full_result → ¬ OfBench answer work result
  unfolding bytes_of
  writes_nothing z met = bench-not-empty (sym (bench-told answer work result met).2 ∙ z)

  -- one that leaves the slices untouched, each byte of them 1 before the call: the working memory, or the result
  pub untouched-work : work ≡ replicate full_work 1 → ¬ OfBench answer work result
  untouched-work e met =
      let q : ◌≡◌ {A = ℕ} 1 0 = ap (λ l. get_or l 0 0) (sym e ∙ (bench-told answer work result met).1) in
      omega arith

  pub untouched-result : result ≡ replicate full_result 1 → ¬ OfBench answer work result
  unfolding bytes_of
  untouched-result e met =
      let q : ◌≡◌ {A = ℕ} 1 64 = ap (λ l. get_or l 0 0) (sym e ∙ (bench-told answer work result met).2) in
      omega arith

-- One with a fixed list: of the bench block and of no records it must succeed, and neither its answer nor its result
-- may be the same.
module _ (answer other : Answer) (work other_work result other_result : List ℕ) where
  pub fixed-accepts : OfBench answer work result → OfNothing other other_work other_result
      → (answer.code ≡ 0) × (other.code ≡ 0)
  fixed-accepts met also_met = (
    ap (λ (a : Answer). a.code) (bench-told answer work result met).0,
    ap (λ (a : Answer). a.code) (nothing-told other other_work other_result also_met).0,
  )

  pub fixed_answer : answer ≡ other → OfBench answer work result → ¬ OfNothing other other_work other_result
  fixed_answer e met also_met =
      let q = sym (bench-told answer work result met).0 ∙ e ∙ (nothing-told other other_work other_result also_met).0 in
      let r : ◌≡◌ {A = ℕ} 3 0 = ap (λ (a : Answer). a.readings) q in
      omega arith

  pub fixed-list : result ≡ other_result → OfBench answer work result → ¬ OfNothing other other_work other_result
  fixed-list e met also_met =
      bench-not-empty
      (sym (bench-told answer work result met).2 ∙ e ∙ (nothing-told other other_work other_result also_met).2)
