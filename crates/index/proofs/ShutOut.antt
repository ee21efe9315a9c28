-- Wrong searches and makers are shut out: a search that always says "cannot match", one that never does, and a maker
-- that writes a fixed index. Each is asked bytes that are written down. Assumes nothing.
use mathlib.Core.Path.{◌≡◌, refl, sym, ap, ◌∙◌}
use mathlib.Core.Bool.{true}
use mathlib.Core.List.Memᴰ
use mathlib.Core.List.{List, []}
use Prim.Native.Nat.{ℕ}
use native.Mathlib.Omega.{arith}
use lib.ListN.{get_or}
use Rattle.numbers.specs.Numbers.{number, upto, first_from, first, count}
use Rattle.records.specs.declared.Answer.{Answer}
use Rattle.records.specs.Blocks.{misfit, first_bad, block_answer}
use Rattle.patterns.specs.Patterns.{header, header_broken, set_number, group_flag, variable_zero, least_set, greatest_set}
use Rattle.patterns.specs.Patterns.{variable_broken, condition_of, condition_zero, condition_word, form_broken}
use Rattle.patterns.specs.Patterns.{condition_broken}
use Rattle.patterns.specs.Checked.{filled, pattern_up_to, pattern_of, first_bad_variable, first_bad_condition, pattern_answer}
use Rattle.patterns.specs.Checked.{condition_at}
use Rattle.automaton.proofs.Membership.{clash}
use Rattle.rule.specs.Calls.{input_answer, pattern_in, LimitInOrder, ForwardCall, MeasureCall}
use Rattle.rule.specs.Bench.{bench_pattern, bench_block, fetch_pattern, full_limit, full_work, full_result, gives, P1}
use Rattle.rule.proofs.Calls.{forward-one}
use Rattle.rule.proofs.Inputs.{input-accepts}
use Rattle.rule.proofs.Rows.{rows, search-row}
use Rattle.index.specs.Index.{index_bytes, front, events_by, index_of, lacks, rules_out, CannotMatch}
use Rattle.index.specs.Promises.{nothing, index_made, MakePromise, SearchCall}
use Rattle.index.proofs.Own.{own-in-order}
use Rattle.index.proofs.Promises.{make-one}
use Rattle.index.proofs.Search.{own-index}
use Rattle.index.proofs.Example.{bench_index, example-index, nothing-index}

-- ## Searches

-- the bench has no fetch
no-fetch : rules_out bench_index (condition_at (pattern_in fetch_pattern) 0) ≡ true
unfolding rules_out lacks events_by front condition_at number upto first_from first count header header_broken set_number
    group_flag variable_zero least_set greatest_set variable_broken condition_of condition_zero condition_word form_broken
    condition_broken filled pattern_up_to pattern_of first_bad_variable first_bad_condition pattern_answer
no-fetch = refl

one-condition : (pattern_in fetch_pattern).c ≡ 1
unfolding condition_at number upto first_from first count header header_broken set_number group_flag variable_zero least_set
    greatest_set variable_broken condition_of condition_zero condition_word form_broken condition_broken filled pattern_up_to
    pattern_of first_bad_variable first_bad_condition pattern_answer
one-condition = refl

cannot : CannotMatch (pattern_in fetch_pattern) (index_of bench_block)
cannot =
    record {
      which = 0;
      given = omega (arith, one-condition);
      without = ap (λ (index : List ℕ). rules_out index (condition_at (pattern_in fetch_pattern) 0)) example-index ∙ no-fetch;
    }

fetch-accepted : (input_answer fetch_pattern bench_block).code ≡ 0
fetch-accepted = go search-row.2
  where
    go : MeasureCall fetch_pattern bench_block (gives 0 0 0 []).answer → (input_answer fetch_pattern bench_block).code ≡ 0
    go (MeasureCall.refused_input n e) = sym (ap (λ (a : Answer). a.code) e)
    go (MeasureCall.answered z h) = z

one-live : LimitInOrder 1 160
one-live = record { some = omega arith; few = omega arith; room = omega arith }

module _ (answer : Answer) (work result : List ℕ) where
  -- of the bench and its own index the search reports three readings
  pub search-finds :
      SearchCall bench_pattern (index_of bench_block) bench_block full_limit full_work full_result answer work result
      → answer.readings ≡ 3
  search-finds met =
      (own-index bench_pattern bench_block full_limit full_work full_result answer _ work _ result _ met
      (rows P1 (Memᴰ.head refl)).0
      refl
      ).0.readings

  -- so one that always says "cannot match" is wrong there
  pub always-cannot :
      answer ≡ nothing
      → ¬ SearchCall bench_pattern (index_of bench_block) bench_block full_limit full_work full_result answer work result
  always-cannot e met = let q = ap (λ (a : Answer). a.readings) e in omega (arith, search-finds met)

  -- of a pattern that asks for a fetch, and the same block with its own index, the search says "cannot match"
  pub search-passes-over :
      SearchCall fetch_pattern (index_of bench_block) bench_block 1 160 full_result answer work result → answer ≡ nothing
  search-passes-over (SearchCall.refused_index p t e w r) = clash t (own-in-order bench_block)
  search-passes-over (SearchCall.cannot_match z f l c e w r) = e
  search-passes-over (SearchCall.forwarded f g h) = absurd (g fetch-accepted one-live cannot)

  -- the forward pass refuses there, so a search that never says so, and always answers as the pass does, is wrong
  pub never-cannot :
      ForwardCall fetch_pattern bench_block 1 160 full_result answer work result
      → ¬ SearchCall fetch_pattern (index_of bench_block) bench_block 1 160 full_result answer work result
  never-cannot passed met =
      let right = search-row.0 in
      let told = (forward-one fetch_pattern bench_block 1 160 full_result answer _ work _ result _ passed right).0 in
      let q : ◌≡◌ {A = ℕ} 10 0 = ap (λ (a : Answer). a.code) (sym told ∙ search-passes-over met) in
      omega arith

-- ## Makers

nothing-accepted : (block_answer []).code ≡ 0
unfolding block_answer misfit first_bad first first_from
nothing-accepted = refl

-- of the bench and of no records the indexes differ
pub fixed-index :
    (a b : Answer) (index other : List ℕ) → MakePromise bench_block index_bytes a index → MakePromise [] index_bytes b other
    → ¬ (index ≡ other)
fixed-index a b index other met also e =
    let accepted = (input-accepts fetch_pattern bench_block fetch-accepted).1 in
    let first = (make-one bench_block index_bytes a index_made index (index_of bench_block) met (MakePromise.made refl accepted refl refl)).1 in
    let second = (make-one [] index_bytes b index_made other (index_of []) also (MakePromise.made refl nothing-accepted refl refl)).1 in
    let q : ◌≡◌ {A = ℕ} 24 0 = ap (λ (l : List ℕ). get_or l 1 0) (sym (first ∙ example-index) ∙ e ∙ second ∙ nothing-index) in
    omega arith
