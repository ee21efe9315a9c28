-- Wrong start-by-start passes are shut out, as wrong forward passes are in proofs/ShutOut and proofs/MadeUp.
-- Assumes nothing.
use mathlib.Core.Path.{◌≡◌, refl, sym, ap, ◌∙◌}
use mathlib.Core.List.Memᴰ
use mathlib.Core.List.{List, []}
use Prim.Native.Nat.{ℕ, ◌≤◌}
use native.Mathlib.Omega.{arith}
use lib.ListN.{length, get_or, replicate}
use Rattle.numbers.specs.Numbers.{bytes_of}
use Rattle.records.specs.declared.Answer.{Answer}
use Rattle.records.specs.Blocks.{refused}
use Rattle.rule.specs.Rule.{Line, Report}
use Rattle.rule.specs.Promises.{Outcome, NoRoom, StartByStart}
use Rattle.rule.specs.Calls.{pattern_in, block_in, zeros, room_in, result_of, StartByStartCall}
use Rattle.rule.specs.Bench.{bench_pattern, bench_block, bench_numbers, full_result, gives, P1, P6, P7}
use Rattle.rule.proofs.OneReport.{one-report}
use Rattle.rule.proofs.Inputs.{input-refused}
use Rattle.rule.proofs.Calls.{start-by-start-one}
use Rattle.rule.proofs.Accepted.{start-by-start-told}
use Rattle.rule.proofs.Rows.{rows}
use Rattle.rule.proofs.ShutOut.{bench-not-empty}
use Rattle.rule.proofs.MadeUp.{with_counts}

-- ## What is right of the bench block and of no records

-- the answer and the result after a call, of the bench block with a result as the match program lends it
abbrev pub OfBench : Answer → List ℕ → Type 0
OfBench answer result = StartByStartCall bench_pattern bench_block full_result answer result

-- the same of a block without records
abbrev pub OfNothing : Answer → List ℕ → Type 0
OfNothing answer result = StartByStartCall bench_pattern [] full_result answer result

-- of the bench block, with room for 13 numbers
abbrev pub OfRoom13 : Answer → List ℕ → Type 0
OfRoom13 answer result = StartByStartCall bench_pattern bench_block 26 answer result

module _ (answer : Answer) (result : List ℕ) where
  -- row P1
  pub bench-told : OfBench answer result
      → (answer ≡ (gives 14 3 0 []).answer) × (result ≡ result_of full_result bench_numbers)
  bench-told met =
      start-by-start-one bench_pattern bench_block full_result answer _ result _ met (rows P1 (Memᴰ.head refl)).1

  -- row P7
  nothing-told : OfNothing answer result → (answer ≡ (gives 0 0 0 []).answer) × (result ≡ result_of full_result [])
  nothing-told met =
      start-by-start-one bench_pattern [] full_result answer _ result _ met
      (rows P7 (search (Memᴰ.head, Memᴰ.tail) depth 16)).1

  -- row P6
  room13-told : OfRoom13 answer result → (answer ≡ refused 11 0) × (result ≡ result_of 26 [])
  room13-told met =
      start-by-start-one bench_pattern bench_block 26 answer _ result _ met
      (rows P6 (search (Memᴰ.head, Memᴰ.tail) depth 16)).1

-- ## What is shut out

module _ (answer : Answer) (result : List ℕ) where
  -- a pass that refuses all
  pub refuses-all : ¬ (answer.code ≡ 0) → ¬ OfBench answer result
  refuses-all n met = n (ap (λ (a : Answer). a.code) (bench-told answer result met).0)

  -- one that always reports nothing: no readings, or no number written
  pub reports-nothing : answer.readings ≡ 0 → ¬ OfBench answer result
  reports-nothing z met = omega (arith, z, ap (λ (a : Answer). a.readings) (bench-told answer result met).0)

  pub writes_nothing : result ≡ zeros full_result → ¬ OfBench answer result
  unfolding bytes_of
  writes_nothing z met = bench-not-empty (sym (bench-told answer result met).1 ∙ z)

  -- one that leaves the slice untouched, each byte of it 1 before the call
  pub untouched-result : result ≡ replicate full_result 1 → ¬ OfBench answer result
  unfolding bytes_of
  untouched-result e met =
      let q : ◌≡◌ {A = ℕ} 1 64 = ap (λ l. get_or l 0 0) (sym e ∙ (bench-told answer result met).1) in
      omega arith

  -- one that never gives 11
  pub never-full : ¬ (answer.code ≡ 11) → ¬ OfRoom13 answer result
  never-full n met = n (ap (λ (a : Answer). a.code) (room13-told answer result met).0)

-- One with a fixed list: of the bench block and of no records it must succeed, and neither its answer nor its result
-- may be the same.
module _ (answer other : Answer) (result other_result : List ℕ) where
  pub fixed-accepts : OfBench answer result → OfNothing other other_result → (answer.code ≡ 0) × (other.code ≡ 0)
  fixed-accepts met also_met = (
    ap (λ (a : Answer). a.code) (bench-told answer result met).0,
    ap (λ (a : Answer). a.code) (nothing-told other other_result also_met).0,
  )

  pub fixed_answer : answer ≡ other → OfBench answer result → ¬ OfNothing other other_result
  fixed_answer e met also_met =
      let q = sym (bench-told answer result met).0 ∙ e ∙ (nothing-told other other_result also_met).0 in
      let r : ◌≡◌ {A = ℕ} 3 0 = ap (λ (a : Answer). a.readings) q in
      omega arith

  pub fixed-list : result ≡ other_result → OfBench answer result → ¬ OfNothing other other_result
  fixed-list e met also_met =
      bench-not-empty (sym (bench-told answer result met).1 ∙ e ∙ (nothing-told other other_result also_met).1)

-- ## Made-up counts and room refusals, of any input

module _ (pattern block : List ℕ) (lent : ℕ) (a : Answer) (result : List ℕ) where
  -- peak: 0 from this pass
  pub peak-zero : StartByStartCall pattern block lent a result → a.code ≡ 0 → a.peak ≡ 0
  peak-zero (StartByStartCall.refused_input n e r) z = absurd (n (sym (ap (λ (x : Answer). x.code) e) ∙ z))
  peak-zero (StartByStartCall.answered y numbers (StartByStart.long j t f e) r) z =
      ap (λ (x : Outcome). x.answer.peak) e
  peak-zero (StartByStartCall.answered y numbers (StartByStart.twice j m t f e) r) z =
      ap (λ (x : Outcome). x.answer.peak) e
  peak-zero (StartByStartCall.answered y numbers (StartByStart.full_up m n t e) r) z =
      ap (λ (x : Outcome). x.answer.peak) e
  peak-zero (StartByStartCall.answered y numbers (StartByStart.done lines m n rep h e) r) z =
      ap (λ (x : Outcome). x.answer.peak) e

  -- readings: as many as the rule reports
  pub readings-counted : StartByStartCall pattern block lent a result → a.code ≡ 0
      → (l : List Line) → Report (pattern_in pattern) (block_in block) (length (block_in block)) l → a.readings ≡ length l
  readings-counted met z l r =
      let q = (start-by-start-told pattern block lent a result met z).told in
      q.readings
      ∙ ap length (one-report (pattern_in pattern) (block_in block) (length (block_in block)) q.lines l q.report r)

  -- counts of readings or a peak other than the right ones
  pub made-up-counts : (readings peak : ℕ) (other_result : List ℕ) → ¬ ((readings ≡ a.readings) × (peak ≡ a.peak))
      → StartByStartCall pattern block lent a result
      → ¬ StartByStartCall pattern block lent (with_counts readings peak a) other_result
  made-up-counts readings peak other_result n right wrong =
      let q = start-by-start-one pattern block lent (with_counts readings peak a) a other_result result wrong right in
      n (ap (λ (x : Answer). x.readings) q.0, ap (λ (x : Answer). x.peak) q.0)

  -- 10 is never given, and 11 where the report needs more numbers than lent
  no_room : StartByStartCall pattern block lent a result → 10 ≤ a.code → a.code ≤ 11
      → NoRoom (pattern_in pattern) (block_in block) (room_in lent) (length (block_in block)) × (a.code ≡ 11)
  no_room (StartByStartCall.refused_input n e r) l m =
      let q = input-refused pattern block n in absurd (omega (arith, q.up_to, ap (λ (x : Answer). x.code) e))
  no_room (StartByStartCall.answered y numbers (StartByStart.long j t f e) r) l m =
      let q = ap (λ (x : Outcome). x.answer.code) e in absurd (omega arith)
  no_room (StartByStartCall.answered y numbers (StartByStart.twice j n t f e) r) l m =
      let q = ap (λ (x : Outcome). x.answer.code) e in absurd (omega arith)
  no_room (StartByStartCall.answered y numbers (StartByStart.full_up n k t e) r) l m =
      (t, ap (λ (x : Outcome). x.answer.code) e)
  no_room (StartByStartCall.answered y numbers (StartByStart.done lines n k rep h e) r) l m =
      let q = ap (λ (x : Outcome). x.answer.code) e in absurd (omega arith)

  -- a made-up room refusal: 10, which the pass has no limit for
  pub made-up-limit : a.code ≡ 10 → ¬ StartByStartCall pattern block lent a result
  made-up-limit z met = omega (arith, z, (no_room met (omega arith) (omega arith)).1)

  -- 11 where the report fits the result
  pub made-up-full : a.code ≡ 11
      → ¬ NoRoom (pattern_in pattern) (block_in block) (room_in lent) (length (block_in block))
      → ¬ StartByStartCall pattern block lent a result
  made-up-full z n met = n (no_room met (omega arith) (omega arith)).0
