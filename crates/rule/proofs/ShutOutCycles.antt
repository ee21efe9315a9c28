-- Two events of one cycle are let through, and no gap shares a cycle; and of two such events a pass does not bind the
-- second to the set behind that of the first: a check and a pass that do otherwise are shut out. Assumes nothing.
use mathlib.Core.Path.{◌≡◌, sym, ap, ◌∙◌}
use mathlib.Core.List.Memᴰ
use mathlib.Core.List.{List, [], ◌∷◌}
use Prim.Native.Nat.{ℕ}
use native.Mathlib.Omega.{arith}
use lib.ListN.{get_or}
use Rattle.numbers.specs.Numbers.{number, upto, first_from, first, bytes_of}
use Rattle.records.specs.declared.Answer.{Answer}
use Rattle.records.specs.Records.{record_at}
use Rattle.records.specs.Blocks.{misfit, gap_broken, broken, misplaced, late, record_refusal, bad, first_bad, block_answer}
use Rattle.rule.specs.Calls.{result_of, ForwardCall, StartByStartCall}
use Rattle.rule.specs.Bench.{two_pattern, cycle_block, gap_of_cycle, event_of_gap, cycle_numbers, one_cycle, full_limit}
use Rattle.rule.specs.Bench.{full_work, full_result}
use Rattle.rule.proofs.Calls.{forward-one, start-by-start-one}
use Rattle.rule.proofs.Rows.{rows}

-- ## The check of a block

module _ (checked : Answer) where
  -- one that refuses two events of one cycle, as it was before
  pub refuses-cycle : checked.code ≡ 7 → ¬ (checked ≡ block_answer cycle_block)
  unfolding number upto first_from first record_at misfit gap_broken broken misplaced late record_refusal bad first_bad
      block_answer
  refuses-cycle z e = let q : checked.code ≡ 0 = ap (λ (a : Answer). a.code) e in omega arith

  -- one that lets a gap through in the cycle of the event before it, or an event in that of the gap
  pub accepts-gap-of-cycle : checked.code ≡ 0 → ¬ (checked ≡ block_answer gap_of_cycle)
  unfolding number upto first_from first record_at misfit gap_broken broken misplaced late record_refusal bad first_bad
      block_answer
  accepts-gap-of-cycle z e = let q : checked.code ≡ 7 = ap (λ (a : Answer). a.code) e in omega arith

  pub accepts-event-of-gap : checked.code ≡ 0 → ¬ (checked ≡ block_answer event_of_gap)
  unfolding number upto first_from first record_at misfit gap_broken broken misplaced late record_refusal bad first_bad
      block_answer
  accepts-event-of-gap z e = let q : checked.code ≡ 7 = ap (λ (a : Answer). a.code) e in omega arith

-- ## The passes

-- what a pass would write that goes by the order of the block alone: 0@0 1@1 and 0@1 1@2
abbrev pub hasty_numbers : List ℕ
hasty_numbers = 8194 ∷ 0 ∷ 4097 ∷ 8194 ∷ 1 ∷ 4098 ∷ []

numbers-differ : ¬ (result_of full_result cycle_numbers ≡ result_of full_result hasty_numbers)
unfolding bytes_of
numbers-differ e = let q : ◌≡◌ {A = ℕ} 2 1 = ap (λ l. get_or l 5 0) e in omega arith

pub forward-hasty :
    (answer : Answer) (work result : List ℕ)
    → ForwardCall two_pattern cycle_block full_limit full_work full_result answer work result
    → ¬ (result ≡ result_of full_result hasty_numbers)
forward-hasty answer work result met e =
    let right = (rows one_cycle (search (Memᴰ.head, Memᴰ.tail) depth 20)).0 in
    let told = forward-one two_pattern cycle_block full_limit full_work full_result answer _ work _ result _ met right in
    numbers-differ (sym told.2 ∙ e)

pub start-hasty :
    (answer : Answer) (result : List ℕ) → StartByStartCall two_pattern cycle_block full_result answer result
    → ¬ (result ≡ result_of full_result hasty_numbers)
start-hasty answer result met e =
    let right = (rows one_cycle (search (Memᴰ.head, Memᴰ.tail) depth 20)).1 in
    let told = start-by-start-one two_pattern cycle_block full_result answer _ result _ met right in
    numbers-differ (sym told.1 ∙ e)
