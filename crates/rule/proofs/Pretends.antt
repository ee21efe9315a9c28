-- A pass that is right of the first k starts and pretends for later ones is shut out, for every k up to 4,094: whatever
-- it writes for them, and in whatever way it makes that of the first k records and of the lines of the first k starts.
-- The witnesses are k + 1 and k + 2 events under the pattern of one variable: all that such a pass looks at is the same
-- of both, and what it must write is not. Assumes nothing.
use mathlib.Core.Path.{◌≡◌, refl, sym, ap, ap₂, subst, ◌∙◌}
use mathlib.Core.Logic.{◌⊎◌, inl, inr}
use mathlib.Core.Bool.{Bool, true, false, not}
use mathlib.Core.List.{List, [], ◌∷◌, ◌++◌, append_assoc}
use mathlib.Core.List.Memᴰ
use mathlib.Core.List.{Memᴰ}
use Prim.Native.Nat.{ℕ, zero, suc, ◌+◌, ◌*◌, ◌≤◌, ◌<◌}
use native.Mathlib.Omega.{arith}
use lib.Dec.{eqb}
use lib.ListN.{length, get_or, take}
use lib.Seq.{take_at}
use Rattle.numbers.specs.Numbers.{bytes_of}
use borrow.Author.Tests.{ne_eqb}
use Rattle.records.specs.declared.Answer.{Answer}
use Rattle.records.specs.Records.{record_bytes}
use Rattle.records.specs.Blocks.{most_records}
use Rattle.automaton.specs.Filtering.{keep, filter}
use Rattle.rule.specs.Rule.{Line, start_of, past_mark, end_mark, Report, pack}
use Rattle.rule.specs.Calls.{pattern_in, block_in, result_of, ForwardCall, StartByStartCall}
use Rattle.rule.specs.Computed.{line}
use Rattle.rule.specs.Bench.{bench_pattern, one_pattern, event_bytes, bench_front, bench_block, bench_numbers}
use Rattle.rule.specs.Bench.{front_numbers, bench_lines, line_from0, full_limit, full_work, full_result}
use Rattle.rule.specs.Bench.{Says, bench_report, front, front_report}
use Rattle.rule.proofs.Accepted.{CallTold, forward-call-told, start-by-start-told}
use Rattle.rule.proofs.Results.{results-apart}
use Rattle.rule.proofs.Calls.{forward-one, start-by-start-one}
use Rattle.rule.proofs.Rows.{rows}
use Rattle.rule.proofs.ShutOut.{OfBench, bench-told}
use Rattle.rule.proofs.ShutOutStart.{OfBench as StartOfBench, bench-told as start-bench-told}
use Rattle.rule.proofs.BenchBytes.{Bytes}
use Rattle.rule.proofs.EventBlocks.{events, events-bytes, length-events}
use Rattle.rule.proofs.OneVariable.{one, single, passed, passed-more, OfOne, StartOfOne, told, report-of}
use Rattle.rule.proofs.OneVariable.{forward-code, start-code, lines-told, told-length}

-- ## What such a pass looks at

-- both lines begin at one record
abbrev same_start : Line → Line → Bool
same_start x y = eqb (start_of y.reading) (start_of x.reading)

-- the lines that begin at the first k starts of a report
unfoldable pub first_starts : ℕ → List Line → List Line
first_starts zero l = []
first_starts (suc k) [] = []
first_starts (suc k) (x ∷ l) =
    x ∷ (filter (same_start x) l ++ first_starts k (filter (λ y. not (same_start x y)) l))

filter_none : (f : Line → Bool) (l : List Line) → ((x : Line) → Memᴰ x l → f x ≡ false) → filter f l ≡ []
unfolding filter keep
filter_none f [] h = refl
filter_none f (x ∷ l) h =
    ap (λ b. keep b x (filter f l)) (h x (Memᴰ.head refl)) ∙ filter_none f l (λ y m. h y (Memᴰ.tail m))

filter-all : (f : Line → Bool) (l : List Line) → ((x : Line) → Memᴰ x l → f x ≡ true) → filter f l ≡ l
unfolding filter keep
filter-all f [] h = refl
filter-all f (x ∷ l) h =
    ap (λ b. keep b x (filter f l)) (h x (Memᴰ.head refl))
    ∙ ap (λ r. x ∷ r) (filter-all f l (λ y m. h y (Memᴰ.tail m)))

passed_later : (a n : ℕ) (x : Line) → Memᴰ x (passed a n) → a ≤ start_of x.reading
unfolding passed single
passed_later a zero x m = absurd (Memᴰ.not-nil m)
passed_later a (suc n) x (Memᴰ.head e) = omega (arith, ap (λ (y : Line). start_of y.reading) e)
passed_later a (suc n) x (Memᴰ.tail m) = omega (arith, passed_later (suc a) n x m)

-- every line from a on is of the first k starts, and none behind them is
first-starts : (k a : ℕ) (rest : List Line) → ((x : Line) → Memᴰ x rest → a + k ≤ start_of x.reading)
    → first_starts k (passed a k ++ rest) ≡ passed a k
unfolding first_starts passed single
first-starts zero a rest h = refl
first-starts (suc k) a rest h =
    let x = line past_mark (single a) in
    let behind = passed (suc a) k ++ rest in
    ap (λ l. x ∷ l)
    (ap₂ (λ m n. m ++ first_starts k n)
    (filter_none (same_start x) behind (λ y m. ne_eqb (start_of y.reading) a (differs y m)))
    (filter-all (λ y. not (same_start x y)) behind (λ y m. ap not (ne_eqb (start_of y.reading) a (differs y m))))
    ∙ first-starts k (suc a) rest (λ y m. omega (arith, h y m)))
  where
    later : (y : Line) → Memᴰ y (passed (suc a) k ++ rest) → a < start_of y.reading
    later y m = go (Memᴰ.append_cases (passed (suc a) k) m)
      where
        go : Memᴰ y (passed (suc a) k) ⊎ Memᴰ y rest → a < start_of y.reading
        go (inl i) = passed_later (suc a) k y i
        go (inr i) = omega (arith, h y i)

    differs : (y : Line) → Memᴰ y (passed (suc a) k ++ rest) → ¬ (start_of y.reading ≡ a)
    differs y m e = omega (arith, later y m)

later-end : (k mark : ℕ) (x : Line) → Memᴰ x (line mark (single k) ∷ []) → k ≤ start_of x.reading
unfolding single
later-end k mark x (Memᴰ.head e) = omega (arith, ap (λ (y : Line). start_of y.reading) e)
later-end k mark x (Memᴰ.tail m) = absurd (Memᴰ.not-nil m)

later-both : (k : ℕ) (x : Line) → Memᴰ x (line past_mark (single (0 + k)) ∷ line end_mark (single (suc k)) ∷ [])
    → 0 + k ≤ start_of x.reading
unfolding single
later-both k x (Memᴰ.head e) = omega (arith, ap (λ (y : Line). start_of y.reading) e)
later-both k x (Memᴰ.tail m) = omega (arith, later-end (suc k) end_mark x m)

-- Wherever a pass succeeds, its result is made of the first k records of the block and of the right lines of its first
-- k starts, in whatever way. Its answer and its result are functions of the block; the pattern is that of one variable.
abbrev pub Pretending : ℕ → (List ℕ → Answer) → (List ℕ → List ℕ) → (List ℕ → List Line → List ℕ) → Type 0
Pretending k answer result made =
    (block : List ℕ) (l : List Line) → Bytes block → Report one (block_in block) (length (block_in block)) l
    → (answer block).code ≡ 0
    → result block ≡ made (take (record_bytes * k) block) (first_starts k l)

-- ## k + 1 and k + 2 events

module _ (k : ℕ) (few : suc (suc k) ≤ most_records) where
  fewer : suc k ≤ most_records
  fewer = omega arith

  -- they are the same in their first k records,
  cut-less : take (record_bytes * k) (events (suc k)) ≡ events k
  unfolding events
  cut-less = take_at (events k) (event_bytes k 0 0) (record_bytes * k) (length-events k)

  cut-more : take (record_bytes * k) (events (suc (suc k))) ≡ events k
  unfolding events
  cut-more =
      ap (take (record_bytes * k)) (append_assoc (events k) (event_bytes k 0 0) (event_bytes (suc k) 0 0))
      ∙ take_at (events k) (event_bytes k 0 0 ++ event_bytes (suc k) 0 0) (record_bytes * k) (length-events k)

  -- and in the lines of their first k starts;
  first-less : first_starts k (told k fewer) ≡ passed 0 k
  first-less = first-starts k 0 (line end_mark (single k) ∷ []) (λ x m. omega (arith, later-end k end_mark x m))

  first_more : first_starts k (told (suc k) few) ≡ passed 0 k
  first_more =
      ap (first_starts k)
      (ap (λ l. l ++ (line end_mark (single (suc k)) ∷ [])) (passed-more 0 k)
      ∙ append_assoc (passed 0 k) (line past_mark (single (0 + k)) ∷ []) (line end_mark (single (suc k)) ∷ []))
      ∙ first-starts k 0 (line past_mark (single (0 + k)) ∷ line end_mark (single (suc k)) ∷ []) (later-both k)

  -- so a pass that pretends writes the same of both,
  same-result : (answer : List ℕ → Answer) (result : List ℕ → List ℕ) (made : List ℕ → List Line → List ℕ)
      → Pretending k answer result made
      → (answer (events (suc k))).code ≡ 0
      → (answer (events (suc (suc k)))).code ≡ 0
      → result (events (suc k)) ≡ result (events (suc (suc k)))
  same-result answer result made pretending z y =
      let bytes = events-bytes (suc (suc k)) in
      pretending (events (suc k)) (told k fewer) (events-bytes (suc k)) (report-of k fewer) z
      ∙ ap₂ made (cut-less ∙ sym cut-more) (first-less ∙ sym first_more)
      ∙ sym (pretending (events (suc (suc k))) (told (suc k) few) bytes (report-of (suc k) few) y)

  -- but no result serves both
  apart : (a b : Answer) (result other : List ℕ) → CallTold one_pattern (events (suc k)) full_result a result
      → CallTold one_pattern (events (suc (suc k))) full_result b other
      → ¬ (result ≡ other)
  apart a b result other c d e =
      let f = subst (CallTold one_pattern (events (suc k)) full_result a) e c in
      let q = results-apart one_pattern (events (suc k)) one_pattern (events (suc (suc k))) full_result a b other f d in
      let l = sym (lines-told k fewer a other f) ∙ q ∙ lines-told (suc k) few b other d in
      omega (arith, ap length l, told-length k fewer, told-length (suc k) few)

-- ## What is shut out

-- no forward pass that pretends meets the promise of every block of bytes
pub pretends : (k : ℕ) → k + 2 ≤ most_records
    → (answer : List ℕ → Answer) (work result : List ℕ → List ℕ) (made : List ℕ → List Line → List ℕ)
    → Pretending k answer result made
    → ¬ ((block : List ℕ) → Bytes block → OfOne block (answer block) (work block) (result block))
pretends k room answer work result made pretending meets =
    let few : suc (suc k) ≤ most_records = omega arith in
    let met = meets (events (suc k)) (events-bytes (suc k)) in
    let also = meets (events (suc (suc k))) (events-bytes (suc (suc k))) in
    let z = forward-code k (fewer k few) _ _ _ met in
    let y = forward-code (suc k) few _ _ _ also in
    apart k few _ _ _ _
    (forward-call-told one_pattern (events (suc k)) full_limit full_work full_result _ _ _ met z)
    (forward-call-told one_pattern (events (suc (suc k))) full_limit full_work full_result _ _ _ also y)
    (same-result k few answer result made pretending z y)

-- and no start-by-start pass
pub start-pretends : (k : ℕ) → k + 2 ≤ most_records
    → (answer : List ℕ → Answer) (result : List ℕ → List ℕ) (made : List ℕ → List Line → List ℕ)
    → Pretending k answer result made
    → ¬ ((block : List ℕ) → Bytes block → StartOfOne block (answer block) (result block))
start-pretends k room answer result made pretending meets =
    let few : suc (suc k) ≤ most_records = omega arith in
    let met = meets (events (suc k)) (events-bytes (suc k)) in
    let also = meets (events (suc (suc k))) (events-bytes (suc (suc k))) in
    let z = start-code k (fewer k few) _ _ met in
    let y = start-code (suc k) few _ _ also in
    apart k few _ _ _ _
    (start-by-start-told one_pattern (events (suc k)) full_result _ _ met z)
    (start-by-start-told one_pattern (events (suc (suc k))) full_result _ _ also y)
    (same-result k few answer result made pretending z y)

-- such as one that writes the lines of the first k starts and no others
pub first-starts-only : (k : ℕ) → k + 2 ≤ most_records
    → (answer : List ℕ → Answer) (work result : List ℕ → List ℕ)
    → Pretending k answer result (λ front l. result_of full_result (pack l))
    → ¬ ((block : List ℕ) → Bytes block → OfOne block (answer block) (work block) (result block))
first-starts-only k room answer work result =
    pretends k room answer work result (λ front l. result_of full_result (pack l))

pub start-first-starts-only : (k : ℕ) → k + 2 ≤ most_records
    → (answer : List ℕ → Answer) (result : List ℕ → List ℕ)
    → Pretending k answer result (λ front l. result_of full_result (pack l))
    → ¬ ((block : List ℕ) → Bytes block → StartOfOne block (answer block) (result block))
start-first-starts-only k room answer result =
    start-pretends k room answer result (λ front l. result_of full_result (pack l))

-- ## The first start of the bench block

-- the bench block and its part up to the gap have the same lines of the first start,
pub bench-lines : Report (pattern_in bench_pattern) (block_in bench_block) (length (block_in bench_block)) bench_lines
bench-lines = rows bench_report (search (Memᴰ.head, Memᴰ.tail) depth 16)

pub front-lines : Report (pattern_in bench_pattern) (block_in bench_front) (length (block_in bench_front)) (line_from0 ∷ [])
front-lines = rows front_report (search (Memᴰ.head, Memᴰ.tail) depth 16)

pub same-first-start : first_starts 1 bench_lines ≡ first_starts 1 (line_from0 ∷ [])
unfolding first_starts filter keep
same-first-start = refl

bench-not-front : ¬ (result_of full_result bench_numbers ≡ result_of full_result front_numbers)
unfolding bytes_of
bench-not-front e = let q : ◌≡◌ {A = ℕ} 32 0 = ap (λ l. get_or l 10 0) e in omega arith

front_row : Says front
front_row = rows front (search (Memᴰ.head, Memᴰ.tail) depth 16)

abbrev pub OfFront : Answer → List ℕ → List ℕ → Type 0
OfFront answer work result = ForwardCall bench_pattern bench_front full_limit full_work full_result answer work result

abbrev pub StartOfFront : Answer → List ℕ → Type 0
StartOfFront answer result = StartByStartCall bench_pattern bench_front full_result answer result

module _ (answer : Answer) (result : List ℕ) where
  front-told : (work : List ℕ) → OfFront answer work result → result ≡ result_of full_result front_numbers
  front-told work met =
      (forward-one bench_pattern bench_front full_limit full_work full_result answer _ work _ result _ met front_row.0).2

  start-front-told : StartOfFront answer result → result ≡ result_of full_result front_numbers
  start-front-told met = (start-by-start-one bench_pattern bench_front full_result answer _ result _ met front_row.1).1

-- but no result serves both
module _ (answer other : Answer) (result other_result : List ℕ) where
  pub bench-pretends : (work other_work : List ℕ) → result ≡ other_result → OfBench answer work result
      → ¬ OfFront other other_work other_result
  bench-pretends work other_work e met also =
      bench-not-front
      (sym (bench-told answer work result met).2 ∙ e ∙ front-told other other_result other_work also)

  pub start-bench-pretends : result ≡ other_result → StartOfBench answer result → ¬ StartOfFront other other_result
  start-bench-pretends e met also =
      bench-not-front (sym (start-bench-told answer result met).1 ∙ e ∙ start-front-told other other_result also)
