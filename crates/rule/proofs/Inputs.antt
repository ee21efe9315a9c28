-- What the caller's bytes stand for. A block in order is a list of records, each an event or a gap, whose times never
-- fall, and a gap has a time of its own; and the check of pattern and block accepts exactly what is in order, or gives a
-- refusal from 1 to 7 with all counts 0. Assumes nothing.
use mathlib.Core.Path.{◌≡◌, refl, sym, ap, subst, ◌∙◌}
use mathlib.Core.Bool.{false}
use mathlib.Core.Logic.{◌⊎◌, inl, inr, ⊎_elim}
use mathlib.Core.List.{List}
use Prim.Native.Nat.{ℕ, zero, suc, ◌≤◌, ◌<◌}
use native.Mathlib.Omega.{arith}
use native.Mathlib.Decide.{ℕ_discrete}
use lib.Dec.{eqb}
use lib.ListN.{length}
use borrow.Author.Tests.{lt-ltb, le-ltb, eqb-true, eqb-false, eq-eqb, ne_eqb}
use Rattle.numbers.proofs.Cases.{by-test, by_order}
use Rattle.records.specs.declared.Answer.{Answer}
use Rattle.records.specs.declared.Record.{Record}
use Rattle.records.specs.Records.{record_at, record_count, gap_kind}
use Rattle.records.specs.Blocks.{refused, most_records, misfit, broken, late, record_refusal, first_bad, block_answer}
use Rattle.records.specs.Blocks.{InOrder}
use Rattle.records.proofs.Listed.{length-records, record-listed}
use Rattle.records.proofs.Blocks.{refusal-6, refusal-7, refusal-none, answer-misfit}
use Rattle.records.proofs.Blocks.{accepted-in-order as block-accepted, in-order-accepted}
use Rattle.patterns.specs.declared.Checked.{Checked}
use Rattle.patterns.specs.Patterns.{header_bytes, header_broken, variable_count, condition_count}
use Rattle.patterns.specs.Checked.{pattern_answer, first_bad_variable, first_bad_condition, InOrder as PatternInOrder}
use Rattle.patterns.proofs.InOrder.{accepted-in-order as pattern-accepted}
use Rattle.patterns.proofs.Answers.{whole_length, answer-short, answer-header, answer-length, answer-variable}
use Rattle.patterns.proofs.Answers.{answer-condition, answer-pattern}
use Rattle.rule.specs.Rule.{record_in, time_at, TimesNeverFall, behind_end}
use Rattle.rule.specs.Calls.{input_answer, pattern_in, block_in}

-- ## The block

module _ (bytes : List ℕ) where
  -- A block has so many records, numbered from 0.
  pub block-length : length (block_in bytes) ≡ record_count bytes
  block-length = length-records bytes

  pub block-record : (i : ℕ) → i < record_count bytes → record_in (block_in bytes) i ≡ record_at bytes i
  block-record i h = record-listed bytes i behind_end h

  block-time : (i : ℕ) → i < record_count bytes → time_at (block_in bytes) i ≡ (record_at bytes i).time
  block-time i h = ap (λ (r : Record). r.time) (block-record i h)

  module _ (ordered : InOrder bytes) where
    climb : (i j : ℕ) → i ≤ j → j < record_count bytes → (record_at bytes i).time ≤ (record_at bytes j).time
    climb i zero l h = let e : i ≡ 0 = omega arith in rw e (omega arith)
    climb i (suc j) l h = go (climb i j) (ℕ_discrete i (suc j))
      where
        go :
            (i ≤ j → j < record_count bytes → (record_at bytes i).time ≤ (record_at bytes j).time) → Dec (i ≡ suc j)
            → (record_at bytes i).time ≤ (record_at bytes (suc j)).time
        go ih (yes e) = rw e (omega arith)
        go ih (no n) = omega (arith, ih (omega arith) (omega arith), ordered.climbing j h)

    -- rule 1.5, of any two records
    pub times-never-fall : TimesNeverFall (block_in bytes)
    times-never-fall i j l h = let c = block-length in omega (arith, climb i j l (omega arith), block-time i (omega arith), block-time j (omega arith))

    -- a gap has a time of its own: what stands before it is earlier, what stands behind it later
    beside :
        (i : ℕ) → suc i < record_count bytes
        → ((record_at bytes i).kind ≡ gap_kind) ⊎ ((record_at bytes (suc i)).kind ≡ gap_kind)
        → (record_at bytes i).time < (record_at bytes (suc i)).time
    beside i l gap =
        let up = ordered.climbing i l in
        by_order (record_at bytes i).time (record_at bytes (suc i)).time
        (λ m. m)
        (λ m.
        let events = ordered.together i l (omega arith) in
        absurd (⊎_elim (λ e. omega arith) (λ e. omega arith) gap))

    pub before-gap :
        (i j : ℕ) → i < j → j < length (block_in bytes) → (record_in (block_in bytes) j).kind ≡ gap_kind
        → time_at (block_in bytes) i < time_at (block_in bytes) j
    before-gap i zero l h gap = absurd (omega arith)
    before-gap i (suc j) l h gap =
        let c = block-length in
        let kind = sym (ap (λ (r : Record). r.kind) (block-record (suc j) (omega arith))) ∙ gap in
        let next = beside j (omega arith) (inr kind) in
        let before = climb i j (omega arith) (omega arith) in
        omega (arith, block-time i (omega arith), block-time (suc j) (omega arith))

    pub behind-gap :
        (i j : ℕ) → i < j → j < length (block_in bytes) → (record_in (block_in bytes) i).kind ≡ gap_kind
        → time_at (block_in bytes) i < time_at (block_in bytes) j
    behind-gap i j l h gap =
        let c = block-length in
        let kind = sym (ap (λ (r : Record). r.kind) (block-record i (omega arith))) ∙ gap in
        let next = beside i (omega arith) (inl kind) in
        let after = climb (suc i) j (omega arith) (omega arith) in
        omega (arith, block-time i (omega arith), block-time j (omega arith))

    pub few-records : length (block_in bytes) ≤ most_records
    few-records = let c = block-length in omega (arith, ordered.few)

-- ## What the checks answer

-- a refusal has a number from one to another, and all counts 0
pub record RefusedFrom (least most : ℕ) (answer : Answer) : Type 0 where
  pub from : least ≤ answer.code
  pub up_to : answer.code ≤ most
  pub used : answer.used ≡ 0
  pub readings : answer.readings ≡ 0
  pub peak : answer.peak ≡ 0

-- no refusal of a pattern has a number above 4
pub pattern-refusals : (bytes : List ℕ) → (pattern_answer bytes).code ≤ 4
pattern-refusals bytes =
    by_order (length bytes) header_bytes
    (λ h. coded (answer-short bytes h) (omega arith))
    (λ long. by-test (header_broken bytes)
    (λ h. coded (answer-header bytes long h) (omega arith))
    (λ head. by-test (eqb (length bytes) (whole_length bytes))
    (λ h. let whole = eqb-true (length bytes) (whole_length bytes) h in
    by_order (first_bad_variable bytes) (variable_count bytes)
    (λ l. coded (answer-variable bytes long head whole (first_bad_variable bytes) refl l) (omega arith))
    (λ variables. by_order (first_bad_condition bytes) (condition_count bytes)
    (λ l. coded (answer-condition bytes long head whole variables (first_bad_condition bytes) refl l) (omega arith))
    (λ conditions. coded (answer-pattern bytes long head whole variables conditions) (omega arith))))
    (λ h. coded (answer-length bytes long head (eqb-false (length bytes) (whole_length bytes) h)) (omega arith))))
  where
    coded : {a : Checked} → pattern_answer bytes ≡ a → a.code ≤ 4 → (pattern_answer bytes).code ≤ 4
    coded e l = subst (λ (a : Checked). a.code ≤ 4) (sym e) l

module _ (bytes : List ℕ) where
  bad-record :
      misfit bytes ≡ false → first_bad bytes < record_count bytes
      → block_answer bytes ≡ refused (record_refusal bytes (first_bad bytes)) (first_bad bytes)
  unfolding block_answer
  bad-record m l = rw (m, lt-ltb (first_bad bytes) (record_count bytes) l, block_answer)

  no-bad-record : misfit bytes ≡ false → record_count bytes ≤ first_bad bytes → (block_answer bytes).code ≡ 0
  unfolding block_answer
  no-bad-record m l = rw (m, le-ltb (first_bad bytes) (record_count bytes) l, block_answer)

  -- checking a block 5 to 7
  pub block-refusals : ¬ ((block_answer bytes).code ≡ 0) → RefusedFrom 5 7 (block_answer bytes)
  block-refusals n =
      by-test (misfit bytes)
      (λ m. told 5 0 (answer-misfit bytes m) (omega arith) (omega arith))
      (λ m. by_order (first_bad bytes) (record_count bytes) (λ l. of-record (bad-record m l)) (λ l. absurd (n (no-bad-record m l))))
    where
      told :
          (code place : ℕ) → block_answer bytes ≡ refused code place → 5 ≤ code → code ≤ 7
          → RefusedFrom 5 7 (block_answer bytes)
      told code place e l m = subst (RefusedFrom 5 7) (sym e) (record { from = l; up_to = m; used = refl; readings = refl; peak = refl })

      of-record : {i : ℕ} → block_answer bytes ≡ refused (record_refusal bytes i) i → RefusedFrom 5 7 (block_answer bytes)
      of-record {i} e =
          by-test (broken (record_at bytes i))
          (λ b. let q = refusal-6 bytes i b in told (record_refusal bytes i) i e (omega arith) (omega arith))
          (λ b. by-test (late bytes i)
          (λ l. let q = refusal-7 bytes i b l in told (record_refusal bytes i) i e (omega arith) (omega arith))
          (λ l. absurd (n (ap (λ (a : Answer). a.code) e ∙ refusal-none bytes i b l))))

-- ## Pattern and block

-- the pattern and the block keep their rules
pub record InputsInOrder (pattern block : List ℕ) : Type 0 where
  pub checked : PatternInOrder (pattern_in pattern)
  pub ordered : InOrder block

module _ (pattern block : List ℕ) where
  -- a refusal of the pattern comes first
  pub input-pattern :
      ¬ ((pattern_answer pattern).code ≡ 0)
      → input_answer pattern block ≡ refused (pattern_answer pattern).code (pattern_answer pattern).place
  unfolding input_answer
  input-pattern n = rw (ne_eqb (pattern_answer pattern).code 0 n, input_answer)

  -- then the block is judged
  pub input-block : (pattern_answer pattern).code ≡ 0 → input_answer pattern block ≡ block_answer block
  unfolding input_answer
  input-block e = rw (eq-eqb (pattern_answer pattern).code 0 e, input_answer)

  by-input :
      {P : Type 0} → (¬ ((pattern_answer pattern).code ≡ 0)
      → input_answer pattern block ≡ refused (pattern_answer pattern).code (pattern_answer pattern).place → P)
      → ((pattern_answer pattern).code ≡ 0 → input_answer pattern block ≡ block_answer block → P)
      → P
  by-input {P} first then = go (ℕ_discrete (pattern_answer pattern).code 0)
    where
      go : Dec ((pattern_answer pattern).code ≡ 0) → P
      go (yes e) = then e (input-block e)
      go (no n) = first n (input-pattern n)

  -- code 0: both are accepted
  pub input-accepts :
      (input_answer pattern block).code ≡ 0 → ((pattern_answer pattern).code ≡ 0) × ((block_answer block).code ≡ 0)
  input-accepts z = by-input
      (λ n e. absurd (n (sym (ap (λ (a : Answer). a.code) e) ∙ z)))
      (λ p e. (p, sym (ap (λ (a : Answer). a.code) e) ∙ z))

  pub input-in-order : (input_answer pattern block).code ≡ 0 → InputsInOrder pattern block
  input-in-order z = let q = input-accepts z in record { checked = pattern-accepted pattern q.0; ordered = block-accepted block q.1 }

  -- what is accepted gets code 0
  pub input-accepted : (pattern_answer pattern).code ≡ 0 → InOrder block → (input_answer pattern block).code ≡ 0
  input-accepted e o = ap (λ (a : Answer). a.code) (input-block e ∙ in-order-accepted block o)

  -- any other code is a refusal from 1 to 7, with used, readings and peak 0
  pub input-refused : ¬ ((input_answer pattern block).code ≡ 0) → RefusedFrom 1 7 (input_answer pattern block)
  input-refused n = by-input
      (λ m e. subst (RefusedFrom 1 7) (sym e) (record { from = omega arith; up_to = omega (arith, pattern-refusals pattern); used = refl; readings = refl; peak = refl }))
      (λ p e. subst (RefusedFrom 1 7) (sym e) (let q = block-refusals block (λ z. n (ap (λ (a : Answer). a.code) e ∙ z)) in record { from = omega (arith, q.from); up_to = q.up_to; used = q.used; readings = q.readings; peak = q.peak }))
