-- Of an event with a gap behind it a pass tells mark 3 under one group variable and mark 4 under one plain variable: a
-- pass that gives the one for the other is shut out. Assumes nothing.
use mathlib.Core.Path.{◌≡◌, sym, ap, ◌∙◌}
use mathlib.Core.List.Memᴰ
use mathlib.Core.List.{List}
use Prim.Native.Nat.{ℕ}
use native.Mathlib.Omega.{arith}
use lib.ListN.{get_or}
use Rattle.numbers.specs.Numbers.{bytes_of}
use Rattle.records.specs.declared.Answer.{Answer}
use Rattle.rule.specs.Calls.{result_of, ForwardCall, StartByStartCall}
use Rattle.rule.specs.Bench.{one_pattern, group_pattern, lost_block, open_numbers, complete_numbers, open_gap}
use Rattle.rule.specs.Bench.{complete_gap, full_limit, full_work, full_result}
use Rattle.rule.proofs.Calls.{forward-one, start-by-start-one}
use Rattle.rule.proofs.Rows.{rows}

numbers-differ : ¬ (result_of full_result open_numbers ≡ result_of full_result complete_numbers)
unfolding bytes_of
numbers-differ e = let q : ◌≡◌ {A = ℕ} 48 64 = ap (λ l. get_or l 0 0) e in omega arith

module _ (answer : Answer) (work result : List ℕ) where
  -- a group variable alone: 3, and not 4
  pub forward-open :
      ForwardCall group_pattern lost_block full_limit full_work full_result answer work result
      → ¬ (result ≡ result_of full_result complete_numbers)
  forward-open met e =
      let right = (rows open_gap (search (Memᴰ.head, Memᴰ.tail) depth 20)).0 in
      let told = forward-one group_pattern lost_block full_limit full_work full_result answer _ work _ result _ met right in
      numbers-differ (sym told.2 ∙ e)

  -- a plain one: 4, and not 3 as it was before
  pub forward-complete :
      ForwardCall one_pattern lost_block full_limit full_work full_result answer work result
      → ¬ (result ≡ result_of full_result open_numbers)
  forward-complete met e =
      let right = (rows complete_gap (search (Memᴰ.head, Memᴰ.tail) depth 20)).0 in
      let told = forward-one one_pattern lost_block full_limit full_work full_result answer _ work _ result _ met right in
      numbers-differ (sym e ∙ told.2)

module _ (answer : Answer) (result : List ℕ) where
  pub start-open :
      StartByStartCall group_pattern lost_block full_result answer result
      → ¬ (result ≡ result_of full_result complete_numbers)
  start-open met e =
      let right = (rows open_gap (search (Memᴰ.head, Memᴰ.tail) depth 20)).1 in
      let told = start-by-start-one group_pattern lost_block full_result answer _ result _ met right in
      numbers-differ (sym told.1 ∙ e)

  pub start-complete :
      StartByStartCall one_pattern lost_block full_result answer result → ¬ (result ≡ result_of full_result open_numbers)
  start-complete met e =
      let right = (rows complete_gap (search (Memᴰ.head, Memᴰ.tail) depth 20)).1 in
      let told = start-by-start-one one_pattern lost_block full_result answer _ result _ met right in
      numbers-differ (sym e ∙ told.1)
