-- Operator 5, !=, in steps and in passes. Where a condition is asked of one pair of events, it passes with != exactly
-- where it does not with =; against a group variable every binding is asked, and then both can fail. A pass that does
-- not report the events of every core but the one named is shut out. Assumes nothing.
use mathlib.Core.Path.{◌≡◌, refl, sym, ap, ◌∙◌}
use mathlib.Core.Bool.{Bool, true, false, not, ◌&&◌}
use mathlib.Core.List.Memᴰ
use mathlib.Core.List.{List, [], ◌∷◌}
use Prim.Native.Nat.{ℕ}
use native.Mathlib.Omega.{arith}
use lib.ListN.{get_or}
use borrow.Author.Tests.{eq-eqb, ne_eqb}
use Rattle.numbers.specs.Numbers.{bytes_of}
use Rattle.records.specs.declared.Answer.{Answer}
use Rattle.records.specs.declared.Record.{Record}
use Rattle.records.specs.Records.{event_kind}
use Rattle.patterns.specs.declared.Condition.{Condition}
use Rattle.patterns.specs.Comparison.{value, order_of, compared_with, holds}
use Rattle.patterns.proofs.NotEqual.{is_equal, is_not_equal, with_operator, differs}
use Rattle.automaton.specs.Filtering.{all, keep, filter}
use Rattle.rule.specs.Rule.{Block, Reading, record_in, choices, passes}
use Rattle.rule.specs.Calls.{result_of, ForwardCall, StartByStartCall, MeasureCall}
use Rattle.rule.specs.Bench.{other_pattern, cores_block, other_numbers, other_cores, full_limit, full_work, full_result}
use Rattle.rule.specs.Bench.{gives}
use Rattle.rule.proofs.Calls.{forward-one, start-by-start-one, measure-one}
use Rattle.rule.proofs.Rows.{rows}

-- ## Steps

module _ (B : Block) (r : Reading) (v j : ℕ) (k : Condition) where
  -- a condition with a constant is asked of the new event alone
  pub constant-negates :
      k.form ≡ 0 → passes B r v j (with_operator is_not_equal k) ≡ not (passes B r v j (with_operator is_equal k))
  unfolding passes
  constant-negates e = rw (eq-eqb _ _ e, passes) (differs k (record_in B j) (record_in B j))

  -- one between two variables, where one event stands for each of them
  pub pair-negates :
      (a b : ℕ) → ¬ (k.form ≡ 0) → choices r v j k.variable ≡ a ∷ [] → choices r v j k.variable2 ≡ b ∷ []
      → passes B r v j (with_operator is_not_equal k) ≡ not (passes B r v j (with_operator is_equal k))
  unfolding passes all
  pair-negates a b f e g =
      rw (ne_eqb _ _ f, e, g, passes)
      (one-pair (holds (with_operator is_not_equal k) x y) (holds (with_operator is_equal k) x y) (differs k x y))
    where
      x : Record
      x = record_in B a

      y : Record
      y = record_in B b

      one-pair : (s t : Bool) → s ≡ not t → ((s && true) && true) ≡ not ((t && true) && true)
      one-pair s true e = rw e refl
      one-pair s false e = rw e refl

-- ## A group variable

-- an event of a core
abbrev of_core : ℕ → Record
of_core core = record { kind = event_kind; core = core; event_type = 0; time = 0; slot = 0; amount = 0; wave = 0 }

-- 1.core = 0.core
abbrev same_core : Condition
same_core =
    record { variable = 1; attribute = 0; operator = is_equal; form = 1; variable2 = 0; attribute2 = 0; constant = 0 }

-- 0@0 0@1, of cores 1 and 2
abbrev two_bound : Reading
two_bound = record { variable = 0; at = 1 } ∷ record { variable = 0; at = 0 } ∷ []

abbrev cores : ℕ → Block
cores core = of_core 1 ∷ of_core 2 ∷ of_core core ∷ []

-- an event of core 1 or 2 is let in by neither: one event that is bound differs from it, and one does not
pub neither-passes :
    (passes (cores 1) two_bound 1 2 same_core ≡ false)
    × (passes (cores 1) two_bound 1 2 (with_operator is_not_equal same_core) ≡ false)
unfolding passes choices all filter keep holds compared_with value order_of
neither-passes = (refl, refl)

-- one of core 3 is let in by !=
pub other-passes : passes (cores 3) two_bound 1 2 (with_operator is_not_equal same_core) ≡ true
unfolding passes choices all filter keep holds compared_with value order_of
other-passes = refl

-- ## Passes

-- what is written where 5 is taken for >=: the events of cores 1 and 2
abbrev at_least_numbers : List ℕ
at_least_numbers = 4097 ∷ 1 ∷ 8193 ∷ 2 ∷ []

at-least-differs : ¬ (result_of full_result other_numbers ≡ result_of full_result at_least_numbers)
unfolding bytes_of
at-least-differs e = let q : ◌≡◌ {A = ℕ} 0 1 = ap (λ l. get_or l 3 0) e in omega arith

module _ (answer : Answer) (work result : List ℕ)
    (met : ForwardCall other_pattern cores_block full_limit full_work full_result answer work result) where
  -- the events of cores 0 and 2 are reported
  pub forward-differs : (answer ≡ (gives 4 2 1 []).answer) × (result ≡ result_of full_result other_numbers)
  forward-differs =
      let told = forward-one other_pattern cores_block full_limit full_work full_result answer _ work _ result _ met
      (rows other_cores (search (Memᴰ.head, Memᴰ.tail) depth 16)).0 in
      (told.0, told.2)

  -- so != is not refused, is met by less and by greater, and is not >=
  pub forward-takes-5 : ¬ (answer.code ≡ 4)
  forward-takes-5 e = omega (arith, e, ap (λ (a : Answer). a.code) forward-differs.0)

  pub forward-both-sides : ¬ (answer.readings ≡ 1)
  forward-both-sides e = omega (arith, e, ap (λ (a : Answer). a.readings) forward-differs.0)

  pub forward-not-at-least : ¬ (result ≡ result_of full_result at_least_numbers)
  forward-not-at-least e = at-least-differs (sym forward-differs.1 ∙ e)

module _ (answer : Answer) (result : List ℕ)
    (met : StartByStartCall other_pattern cores_block full_result answer result) where
  pub start-differs : (answer ≡ (gives 4 2 0 []).answer) × (result ≡ result_of full_result other_numbers)
  start-differs =
      start-by-start-one other_pattern cores_block full_result answer _ result _ met
      (rows other_cores (search (Memᴰ.head, Memᴰ.tail) depth 16)).1

  pub start-takes-5 : ¬ (answer.code ≡ 4)
  start-takes-5 e = omega (arith, e, ap (λ (a : Answer). a.code) start-differs.0)

  pub start-both-sides : ¬ (answer.readings ≡ 1)
  start-both-sides e = omega (arith, e, ap (λ (a : Answer). a.readings) start-differs.0)

  pub start-not-at-least : ¬ (result ≡ result_of full_result at_least_numbers)
  start-not-at-least e = at-least-differs (sym start-differs.1 ∙ e)

module _ (answer : Answer) (met : MeasureCall other_pattern cores_block answer) where
  pub measure-differs : answer ≡ (gives 4 2 0 []).answer
  measure-differs =
      measure-one other_pattern cores_block answer (gives 4 2 0 []).answer met
      (rows other_cores (search (Memᴰ.head, Memᴰ.tail) depth 16)).2
