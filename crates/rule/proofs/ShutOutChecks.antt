-- Wrong measures, checks of patterns and blocks, and listings are shut out: one that refuses all, that accepts all,
-- that counts nothing or always the same, makes its counts up, or leaves the slice untouched. Each of them answers the
-- bytes of the bench, no bytes or one byte as the promise does not allow (proofs/BenchBytes). Assumes nothing.
use mathlib.Core.Path.{◌≡◌, refl, sym, ap, ◌∙◌}
use mathlib.Core.List.Memᴰ
use mathlib.Core.List.{List, [], ◌∷◌}
use Prim.Native.Nat.{ℕ, min}
use native.Mathlib.Omega.{arith}
use lib.ListN.{length, get_or, replicate}
use Rattle.records.specs.declared.Answer.{Answer}
use Rattle.records.specs.Blocks.{misfit, block_answer}
use Rattle.patterns.specs.declared.Checked.{Checked}
use Rattle.patterns.specs.Checked.{pattern_answer}
use Rattle.automaton.specs.Filtering.{collect}
use Rattle.numbers.specs.Bytes.{word_bytes}
use Rattle.automaton.specs.Listing.{steps_listed, ListingPromise}
use Rattle.automaton.proofs.Promise.{listing-promise-unique}
use Rattle.rule.specs.Rule.{Line, Report, pack}
use Rattle.rule.specs.Promises.{Measure, most_counted}
use Rattle.rule.specs.Calls.{input_answer, pattern_in, block_in, MeasureCall}
use Rattle.rule.specs.Bench.{bench_pattern, bench_block, one_pattern, bench_steps, gives, listing_of}
use Rattle.rule.specs.Bench.{P1, P2, P7, one_step}
use Rattle.rule.proofs.OneReport.{one-report}
use Rattle.rule.proofs.Inputs.{input-accepts, input-refused}
use Rattle.rule.proofs.Calls.{measure-one}
use Rattle.rule.proofs.Rows.{rows}

-- ## Measure

bench-call : MeasureCall bench_pattern bench_block (gives 14 3 0 []).answer
bench-call = (rows P1 (Memᴰ.head refl)).2

nothing-call : MeasureCall bench_pattern [] (gives 0 0 0 []).answer
nothing-call = (rows P7 (search (Memᴰ.head, Memᴰ.tail) depth 16)).2

module _ (a : Answer) where
  bench-told : MeasureCall bench_pattern bench_block a → a ≡ (gives 14 3 0 []).answer
  bench-told met = measure-one bench_pattern bench_block a (gives 14 3 0 []).answer met bench-call

  nothing-told : MeasureCall bench_pattern [] a → a ≡ (gives 0 0 0 []).answer
  nothing-told met = measure-one bench_pattern [] a (gives 0 0 0 []).answer met nothing-call

  -- one that refuses all
  pub measure-refuses-all : ¬ (a.code ≡ 0) → ¬ MeasureCall bench_pattern bench_block a
  measure-refuses-all n met = n (ap (λ (x : Answer). x.code) (bench-told met))

  -- one that always counts nothing: no readings, or no numbers
  pub measure-counts-nothing : a.readings ≡ 0 → ¬ MeasureCall bench_pattern bench_block a
  measure-counts-nothing z met = omega (arith, z, ap (λ (x : Answer). x.readings) (bench-told met))

  pub measure-uses-nothing : a.used ≡ 0 → ¬ MeasureCall bench_pattern bench_block a
  measure-uses-nothing z met = omega (arith, z, ap (λ (x : Answer). x.used) (bench-told met))

-- or always the same: of the bench block and of no records it must succeed, and with answers that differ
module _ (a b : Answer) where
  pub measure-fixed-accepts : MeasureCall bench_pattern bench_block a → MeasureCall bench_pattern [] b
      → (a.code ≡ 0) × (b.code ≡ 0)
  measure-fixed-accepts met also_met =
      (ap (λ (x : Answer). x.code) (bench-told a met), ap (λ (x : Answer). x.code) (nothing-told b also_met))

  pub measure-fixed : a ≡ b → MeasureCall bench_pattern bench_block a → ¬ MeasureCall bench_pattern [] b
  measure-fixed e met also_met =
      let q = sym (bench-told a met) ∙ e ∙ nothing-told b also_met in
      let r : ◌≡◌ {A = ℕ} 3 0 = ap (λ (x : Answer). x.readings) q in
      omega arith

-- ## Made-up counts of measure, of any input

-- a measure with other counts
abbrev pub with_measured : ℕ → ℕ → Answer → Answer
with_measured used readings a =
    record { code = a.code; place = a.place; used = used; readings = readings; peak = a.peak }

module _ (pattern block : List ℕ) (a : Answer) where
  -- used and readings are counted by the rule, and stop where rule 7.7 says
  pub measure-counted : MeasureCall pattern block a → a.code ≡ 0
      → (l : List Line) → Report (pattern_in pattern) (block_in block) (length (block_in block)) l
      → (a.readings ≡ min (length l) most_counted) × (a.used ≡ min (length (pack l)) most_counted)
  measure-counted (MeasureCall.refused_input n e) z l r = absurd (n (sym (ap (λ (x : Answer). x.code) e) ∙ z))
  measure-counted (MeasureCall.answered y (Measure.long j t f e)) z l r =
      let q = ap (λ (x : Answer). x.code) e in absurd (omega arith)
  measure-counted (MeasureCall.answered y (Measure.twice j n t f e)) z l r =
      let q = ap (λ (x : Answer). x.code) e in absurd (omega arith)
  measure-counted (MeasureCall.answered y (Measure.done m n k rep e)) z l r =
      let q = one-report (pattern_in pattern) (block_in block) (length (block_in block)) m l rep r in (
        ap (λ (x : Answer). x.readings) e ∙ ap (λ (x : List Line). min (length x) most_counted) q,
        ap (λ (x : Answer). x.used) e ∙ ap (λ (x : List Line). min (length (pack x)) most_counted) q,
      )

  -- made-up counts: any that differ from the right ones
  pub measure-made-up : (used readings : ℕ) → ¬ ((used ≡ a.used) × (readings ≡ a.readings))
      → MeasureCall pattern block a
      → ¬ MeasureCall pattern block (with_measured used readings a)
  measure-made-up used readings n right wrong =
      let q = measure-one pattern block (with_measured used readings a) a wrong right in
      n (ap (λ (x : Answer). x.used) q, ap (λ (x : Answer). x.readings) q)

  -- measure refuses as the start-by-start pass does, but never 11
  pub measure-full : a.code ≡ 11 → ¬ MeasureCall pattern block a
  measure-full z (MeasureCall.refused_input n e) =
      let q = input-refused pattern block n in omega (arith, q.up_to, ap (λ (x : Answer). x.code) e)
  measure-full z (MeasureCall.answered y (Measure.long j t f e)) =
      let q = ap (λ (x : Answer). x.code) e in omega arith
  measure-full z (MeasureCall.answered y (Measure.twice j n t f e)) =
      let q = ap (λ (x : Answer). x.code) e in omega arith
  measure-full z (MeasureCall.answered y (Measure.done m n k rep e)) =
      let q = ap (λ (x : Answer). x.code) e in omega arith

-- ## The checks

bench-accepted : (input_answer bench_pattern bench_block).code ≡ 0
bench-accepted = go bench-call
  where
    go : MeasureCall bench_pattern bench_block (gives 14 3 0 []).answer → (input_answer bench_pattern bench_block).code ≡ 0
    go (MeasureCall.refused_input n e) = sym (ap (λ (a : Answer). a.code) e)
    go (MeasureCall.answered z h) = z

-- check_pattern promises `pattern_answer` of every list of bytes: the bench pattern is accepted, no bytes at all are not
module _ (checked : Checked) where
  pub pattern-refuses-all : ¬ (checked.code ≡ 0) → ¬ (checked ≡ pattern_answer bench_pattern)
  pattern-refuses-all n e =
      n (ap (λ (a : Checked). a.code) e ∙ (input-accepts bench_pattern bench_block bench-accepted).0)

  pub pattern-accepts-all : checked.code ≡ 0 → ¬ (checked ≡ pattern_answer [])
  unfolding pattern_answer
  pattern-accepts-all z e = let q : checked.code ≡ 1 = ap (λ (a : Checked). a.code) e in omega arith

-- check_block promises `block_answer`: the bench block is accepted, a single byte is not
module _ (checked : Answer) where
  pub block-refuses-all : ¬ (checked.code ≡ 0) → ¬ (checked ≡ block_answer bench_block)
  block-refuses-all n e =
      n (ap (λ (a : Answer). a.code) e ∙ (input-accepts bench_pattern bench_block bench-accepted).1)

  pub block-accepts-all : checked.code ≡ 0 → ¬ (checked ≡ block_answer (0 ∷ []))
  unfolding block_answer misfit
  block-accepts-all z e = let q : checked.code ≡ 5 = ap (λ (a : Answer). a.code) e in omega arith

-- ## The listing

-- the answer and the slice after a call that lends 56 bytes, room for the bench pattern's seven steps
abbrev pub ListsBench : Answer → List ℕ → Type 0
ListsBench answer after = ListingPromise bench_pattern 56 answer after

-- of the pattern of one variable, which has one step
abbrev pub ListsOne : Answer → List ℕ → Type 0
ListsOne answer after = ListingPromise one_pattern 56 answer after

module _ (answer : Answer) (after : List ℕ) where
  bench-listed : ListsBench answer after → (answer ≡ steps_listed 7) × (after ≡ listing_of 56 bench_steps)
  bench-listed met =
      listing-promise-unique bench_pattern 56 answer (steps_listed 7) after (listing_of 56 bench_steps) met
      (rows P2 (search (Memᴰ.head, Memᴰ.tail) depth 16))

  one-listed : ListsOne answer after → (answer ≡ steps_listed 1) × (after ≡ listing_of 56 (0 ∷ []))
  one-listed met =
      listing-promise-unique one_pattern 56 answer (steps_listed 1) after (listing_of 56 (0 ∷ [])) met
      (rows one_step (search (Memᴰ.head, Memᴰ.tail) depth 16))

  -- one that refuses all
  pub listing-refuses-all : ¬ (answer.code ≡ 0) → ¬ ListsBench answer after
  listing-refuses-all n met = n (ap (λ (a : Answer). a.code) (bench-listed met).0)

  -- one that leaves the slice untouched, each byte of it 1 before the call
  pub listing-untouched : after ≡ replicate 56 1 → ¬ ListsBench answer after
  unfolding collect word_bytes
  listing-untouched e met =
      let z : ◌≡◌ {A = ℕ} 1 0 = ap (λ l. get_or l 0 0) (sym e ∙ (bench-listed met).1) in omega arith

-- one that always lists the same: of both patterns it must succeed, and neither its answer nor its slice may be the
-- same
module _ (answer other : Answer) (after other_after : List ℕ) where
  pub listing-fixed-accepts : ListsBench answer after → ListsOne other other_after
      → (answer.code ≡ 0) × (other.code ≡ 0)
  listing-fixed-accepts met also_met = (
    ap (λ (a : Answer). a.code) (bench-listed answer after met).0,
    ap (λ (a : Answer). a.code) (one-listed other other_after also_met).0,
  )

  pub listing-fixed-answer : answer ≡ other → ListsBench answer after → ¬ ListsOne other other_after
  listing-fixed-answer e met also_met =
      let q = sym (bench-listed answer after met).0 ∙ e ∙ (one-listed other other_after also_met).0 in
      let r : ◌≡◌ {A = ℕ} 7 1 = ap (λ (a : Answer). a.used) q in
      omega arith

  pub listing-fixed : after ≡ other_after → ListsBench answer after → ¬ ListsOne other other_after
  unfolding collect word_bytes
  listing-fixed e met also_met =
      let q = sym (bench-listed answer after met).1 ∙ e ∙ (one-listed other other_after also_met).1 in
      let z : ◌≡◌ {A = ℕ} 1 0 = ap (λ l. get_or l 7 0) q in
      omega arith
