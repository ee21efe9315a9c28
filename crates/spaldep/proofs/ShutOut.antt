-- Wrong C calls are shut out. Where the result slice is in order a C call answers the packed answer of the Rattle call
-- and leaves the same memory, so what that call's promise shuts out (Rattle.rule.proofs.ShutOut, MadeUp, ShutOutStart
-- and Pretends) is shut out of the C call; the bench row says so of a call that refuses all, that reports nothing, and
-- that leaves the slices untouched, each byte of them 1 before the call. Assumes nothing.
use mathlib.Core.Path.{◌≡◌, ◌∙◌, refl, sym, ap}
use mathlib.Core.List.Memᴰ
use mathlib.Core.List.{List, []}
use Prim.Native.Nat.{ℕ}
use native.Mathlib.Omega.{arith}
use lib.ListN.{get_or, replicate}
use Rattle.numbers.specs.Numbers.{bytes_of}
use Rattle.records.specs.declared.Answer.{Answer}
use Rattle.rule.specs.Calls.{zeros, result_of, ForwardCall, StartByStartCall}
use Rattle.rule.specs.Bench.{bench_pattern, bench_block, bench_numbers, full_limit, full_work, full_result, gives, P1}
use Rattle.rule.proofs.Rows.{rows}
use Rattle.spaldep.specs.Packed.{packed_answer, code_in, readings_in}
use Rattle.spaldep.specs.Host.{ResultInOrder, StartByStartHost, ForwardHost}
use Rattle.spaldep.proofs.Fields.{packed-code, packed-readings}
use Rattle.spaldep.proofs.One.{start-by-start-host-one, forward-host-one}

module _ (pattern block : List ℕ) (a : Answer) where
  pub forward-host-is :
      (limit lent_work lent_result word : ℕ) (work call_work result call_result : List ℕ)
      → ResultInOrder lent_result
      → ForwardHost pattern block limit lent_work lent_result word work result
      → ForwardCall pattern block limit lent_work lent_result a call_work call_result
      → (word ≡ packed_answer a) × (work ≡ call_work) × (result ≡ call_result)
  forward-host-is limit lent_work lent_result word work call_work result call_result fit h f =
      forward-host-one pattern block limit lent_work lent_result word (packed_answer a) work call_work result call_result h
      (ForwardHost.called (λ i. fit) a f refl)

  pub start-by-start-host-is :
      (lent word : ℕ) (result call_result : List ℕ)
      → ResultInOrder lent
      → StartByStartHost pattern block lent word result
      → StartByStartCall pattern block lent a call_result
      → (word ≡ packed_answer a) × (result ≡ call_result)
  start-by-start-host-is lent word result call_result fit h s =
      start-by-start-host-one pattern block lent word (packed_answer a) result call_result h
      (StartByStartHost.called (λ i. fit) a s refl)

-- ## The bench row, from C

bench-fits : ResultInOrder full_result
bench-fits = record { even = refl; short = omega arith }

-- the answer and the slices after a call, of the bench block with the limit and the slices that the match program lends
abbrev pub OfBench : ℕ → List ℕ → List ℕ → Type 0
OfBench word work result = ForwardHost bench_pattern bench_block full_limit full_work full_result word work result

module _ (word : ℕ) (work result : List ℕ) (met : OfBench word work result) where
  told : (word ≡ packed_answer (gives 14 3 5 []).answer) × (work ≡ zeros full_work)
      × (result ≡ result_of full_result bench_numbers)
  told =
      forward-host-is bench_pattern bench_block (gives 14 3 5 []).answer full_limit full_work full_result word work
      (zeros full_work)
      result
      (result_of full_result bench_numbers)
      bench-fits
      met
      (rows P1 (Memᴰ.head refl)).0

  pub forward-accepts : code_in word ≡ 0
  forward-accepts = ap code_in told.0 ∙ packed-code (gives 14 3 5 []).answer

  pub forward-reports : readings_in word ≡ 3
  forward-reports = ap readings_in told.0 ∙ packed-readings (gives 14 3 5 []).answer

  pub forward-clears-work : ¬ (work ≡ replicate full_work 1)
  forward-clears-work e = let q : ◌≡◌ {A = ℕ} 1 0 = ap (λ l. get_or l 0 0) (sym e ∙ told.1) in omega arith

  pub forward-writes-result : ¬ (result ≡ replicate full_result 1)
  unfolding bytes_of
  forward-writes-result e = let q : ◌≡◌ {A = ℕ} 1 64 = ap (λ l. get_or l 0 0) (sym e ∙ told.2) in omega arith

module _ (word : ℕ) (result : List ℕ) (met : StartByStartHost bench_pattern bench_block full_result word result) where
  started : (word ≡ packed_answer (gives 14 3 0 []).answer) × (result ≡ result_of full_result bench_numbers)
  started =
      start-by-start-host-is bench_pattern bench_block (gives 14 3 0 []).answer full_result word result _ bench-fits met
      (rows P1 (Memᴰ.head refl)).1

  pub start-by-start-accepts : code_in word ≡ 0
  start-by-start-accepts = ap code_in started.0 ∙ packed-code (gives 14 3 0 []).answer

  pub start-by-start-reports : readings_in word ≡ 3
  start-by-start-reports = ap readings_in started.0 ∙ packed-readings (gives 14 3 0 []).answer

  pub start-by-start-writes-result : ¬ (result ≡ replicate full_result 1)
  unfolding bytes_of
  start-by-start-writes-result e = let q : ◌≡◌ {A = ℕ} 1 64 = ap (λ l. get_or l 0 0) (sym e ∙ started.1) in omega arith
