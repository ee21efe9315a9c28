-- What a step on v asks of one condition falls into two parts: what the new event alone decides, and what each binding
-- of the other variable decides together with it. Assumes nothing.
use Rattle.std.proofs.Common.{◌≡◌, ◌∙◌, refl, sym, ap, ap₂, Bool, true, false, ◌&&◌, [], ◌∷◌, map, ℕ, eqb}
use mathlib.Core.Bool.{and-true, or-false}
use Rattle.numbers.proofs.Cases.{by-test, neither}
use Rattle.records.specs.declared.Record.{Record}
use Rattle.patterns.specs.declared.Condition.{Condition}
use Rattle.patterns.specs.Comparison.{holds}
use Rattle.automaton.specs.Filtering.{implies, all, keep, filter}
use Rattle.automaton.specs.Automaton.{carries}
use Rattle.automaton.proofs.All.{all_same}
use Rattle.rule.specs.Rule.{Block, Binding, Reading, record_in, binds, choices, passes}
use Rattle.plans.specs.Plan.{is_own, joins, is_join}

-- condition k holds of record i for v together with binding b, if b binds the other variable; `look` gives the records
abbrev pub pair_of : (ℕ → Record) → ℕ → ℕ → Condition → Binding → Bool
pair_of look i v k b =
    elim (eqb k.variable v) [
      | true ↦ implies (eqb b.variable k.variable2) (holds k (look i) (look b.at))
      | false ↦ implies (eqb b.variable k.variable) (holds k (look b.at) (look i))
    ]

module _ (look : ℕ → Record) (i v : ℕ) (k : Condition) (b : Binding) where
  -- v is named on the first side
  pub pair-first :
      eqb k.variable v ≡ true
      → pair_of look i v k b ≡ implies (eqb b.variable k.variable2) (holds k (look i) (look b.at))
  pair-first e = rw (e, pair_of)

  -- v is named on the second side
  pub pair-second :
      eqb k.variable v ≡ false
      → pair_of look i v k b ≡ implies (eqb b.variable k.variable) (holds k (look b.at) (look i))
  pair-second e = rw (e, pair_of)

-- ## The bindings of one variable

module _ (u : ℕ) (h : ℕ → Bool) where
  -- each binding passes, if it binds u
  abbrev bound : Reading → Bool
  bound r = all (λ (b : Binding). implies (eqb b.variable u) (h b.at)) r

  chosen :
      (r : Reading) → all h (map (λ (b : Binding). b.at) (filter (λ (b : Binding). eqb b.variable u) r)) ≡ bound r
  unfolding all filter keep
  chosen [] = refl
  chosen (b ∷ bs) =
      let ih = chosen bs in
      by-test (eqb b.variable u) (λ e. rw e (ap (λ (t : Bool). h b.at && t) ih)) (λ e. rw e ih)

  -- where u is not bound there is nothing to test
  unbound : (r : Reading) → binds r u ≡ false → bound r ≡ true
  unfolding all binds
  unbound [] e = refl
  unbound (b ∷ bs) e =
      let n = neither (eqb b.variable u) (binds bs u) e in
      ap₂ (λ (x y : Bool). implies x (h b.at) && y) n.0 (unbound bs n.1)

  only-bound : (r : Reading) → implies (binds r u) (bound r) ≡ bound r
  only-bound r =
      by-test (binds r u)
      (λ e. ap (λ (t : Bool). implies t (bound r)) e)
      (λ e. ap (λ (t : Bool). implies t (bound r)) e ∙ sym (unbound r e))

-- ## One condition

module _ (B : Block) (r : Reading) (v j : ℕ) (k : Condition) where
  -- what the step asks of the condition
  abbrev asked : Bool
  asked = implies (carries (binds r) v k) (passes B r v j k)

  abbrev own_part : Bool
  own_part = implies (is_own v k) (holds k (record_in B j) (record_in B j))

  abbrev join_part : Bool
  join_part = implies (is_join v k) (all (pair_of (record_in B) j v k) r)

  -- it compares with the constant
  constant-parts : eqb k.form 0 ≡ true → asked ≡ own_part && join_part
  unfolding carries passes is_own joins
  constant-parts e =
      by-test (eqb k.variable v)
      (λ f. rw (e, f, carries, passes) (sym (and-true (holds k (record_in B j) (record_in B j)))))
      (λ f. rw (e, f, carries, passes))

  module _ (e : eqb k.form 0 ≡ false) where
    -- it names v on both sides: the new event alone is asked
    twice-parts : eqb k.variable v ≡ true → eqb k.variable2 v ≡ true → asked ≡ own_part && join_part
    unfolding carries passes choices all is_own joins
    twice-parts f g = rw (e, f, g, carries, passes, choices) (ap (λ (t : Bool). t && true) (and-true (holds k (record_in B j) (record_in B j))))

    -- it names v on the first side
    first-parts : eqb k.variable v ≡ true → eqb k.variable2 v ≡ false → asked ≡ own_part && join_part
    unfolding carries passes choices all is_own joins
    first-parts f g =
        let h : ℕ → Bool = λ b. holds k (record_in B j) (record_in B b) in
        rw (e, f, g, carries, passes, choices)
        (ap₂ implies (or-false (binds r k.variable2)) (and-true (all h (map (λ (b : Binding). b.at) (filter (λ (b : Binding). eqb b.variable k.variable2) r))) ∙ chosen k.variable2 h r)
        ∙ only-bound k.variable2 h r
        ∙ all_same (λ (b : Binding). implies (eqb b.variable k.variable2) (h b.at)) (pair_of (record_in B) j v k) r (λ b m. sym (pair-first (record_in B) j v k b f)))

    -- it names v on the second side
    second_parts : eqb k.variable v ≡ false → eqb k.variable2 v ≡ true → asked ≡ own_part && join_part
    unfolding carries passes choices all is_own joins
    second_parts f g =
        let h : ℕ → Bool = λ a. holds k (record_in B a) (record_in B j) && true in
        rw (e, f, g, carries, passes, choices)
        (ap (implies (binds r k.variable)) (chosen k.variable h r)
        ∙ only-bound k.variable h r
        ∙ all_same (λ (b : Binding). implies (eqb b.variable k.variable) (h b.at)) (pair_of (record_in B) j v k) r
        (λ b m. ap (implies (eqb b.variable k.variable)) (and-true (holds k (record_in B b.at) (record_in B j))) ∙ sym (pair-second (record_in B) j v k b f)))

    -- it does not name v
    no-parts : eqb k.variable v ≡ false → eqb k.variable2 v ≡ false → asked ≡ own_part && join_part
    unfolding carries is_own joins
    no-parts f g = rw (e, f, g, carries)

  pub condition-parts : asked ≡ own_part && join_part
  condition-parts =
      by-test (eqb k.form 0) constant-parts
      (λ e. by-test (eqb k.variable v)
      (λ f. by-test (eqb k.variable2 v) (twice-parts e f) (first-parts e f))
      (λ f. by-test (eqb k.variable2 v) (second_parts e f) (no-parts e f)))
