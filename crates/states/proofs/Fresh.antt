-- The numbers that stand for states, fresh or not: the state that each stands for, and the variables that leave it.
-- Assumes nothing.
use Rattle.std.proofs.Common.{◌≡◌, refl, sym, ap, ap₂, subst, ◌∙◌, Bool, true, false, not, ◌&&◌, List, ◌⊎◌, inl, inr}
use Rattle.std.proofs.Common.{⊎_elim, ℕ, ◌+◌, ◌-◌, ◌^◌, ◌≤◌, ◌<◌, lt_of_lt_of_le, arith, eqb, pow_mono, lt-ltb, le-ltb}
use Rattle.std.proofs.Common.{eq-eqb, ne_eqb, eqb-true}
use borrow.Author.Tests.{eqb-false}
use Rattle.numbers.specs.Bits.{bit, disjoint}
use Rattle.numbers.proofs.Cases.{by-test, by_order, both}
use Rattle.numbers.proofs.Bits.{mask_bound, mask-inside}
use Rattle.patterns.specs.Patterns.{most_variables}
use Rattle.automaton.proofs.Membership.{clash}
use Rattle.plans.specs.Plan.{marks_in}
use Rattle.firing.specs.Firing.{leaves_by}
use Rattle.reach.specs.Readings.{leaving_by}
use Rattle.reach.proofs.MaskInTurn.{low_bits}
use Rattle.states.specs.States.{is_calm, calm_by, fresh_mark, fresh_of, shown, state_of, leaves_from}

-- ## A number

pub state-plain : (x : ℕ) → x < fresh_mark → state_of x ≡ x
unfolding state_of
state-plain x l = ap (λ (t : Bool). elim t [ true ↦ x | false ↦ x - fresh_mark ]) (lt-ltb x fresh_mark l)

pub state-fresh : (x : ℕ) → fresh_mark ≤ x → state_of x ≡ x - fresh_mark
unfolding state_of
state-fresh x l = ap (λ (t : Bool). elim t [ true ↦ x | false ↦ x - fresh_mark ]) (le-ltb x fresh_mark l)

module _ (plan : List ℕ) (n : ℕ) where
  -- ## What leaves

  pub leaves-plain : (x : ℕ) → x < fresh_mark → leaves_from plan n x ≡ leaving_by plan n x
  unfolding leaves_from
  leaves-plain x l =
      ap (λ (t : Bool). elim t [ true ↦ leaving_by plan n x | false ↦ calm_by plan n (x - fresh_mark) ]) (lt-ltb x fresh_mark l)

  pub leaves-fresh : (x : ℕ) → fresh_mark ≤ x → leaves_from plan n x ≡ calm_by plan n (x - fresh_mark)
  unfolding leaves_from
  leaves-fresh x l =
      ap (λ (t : Bool). elim t [ true ↦ leaving_by plan n x | false ↦ calm_by plan n (x - fresh_mark) ]) (le-ltb x fresh_mark l)

  pub leaving-small : (state : ℕ) → leaving_by plan n state < 2 ^ n
  unfolding leaving_by
  leaving-small state = mask_bound (leaves_by plan state) n

  calm-small : (state : ℕ) → calm_by plan n state < 2 ^ n
  unfolding calm_by
  calm-small state = mask_bound (is_calm plan state) n

  pub leaves-bound : (x : ℕ) → n ≤ most_variables → leaves_from plan n x < 2 ^ most_variables
  leaves-bound x few =
      by_order x fresh_mark
      (λ l. subst (λ (y : ℕ). y < 2 ^ most_variables) (sym (leaves-plain x l)) (lt_of_lt_of_le (leaving-small x) (pow_mono few)))
      (λ l. subst (λ (y : ℕ). y < 2 ^ most_variables) (sym (leaves-fresh x l)) (lt_of_lt_of_le (calm-small (x - fresh_mark)) (pow_mono few)))

  -- ## A fresh state

  pub fresh-same : (state : ℕ) → calm_by plan n state ≡ leaving_by plan n state → fresh_of plan n state ≡ state
  unfolding fresh_of
  fresh-same state e =
      ap (λ (t : Bool). elim t [ true ↦ state | false ↦ fresh_mark + state ]) (eq-eqb (calm_by plan n state) (leaving_by plan n state) e)

  pub fresh-other :
      (state : ℕ) → (calm_by plan n state ≡ leaving_by plan n state → ⊥) → fresh_of plan n state ≡ fresh_mark + state
  unfolding fresh_of
  fresh-other state e =
      ap (λ (t : Bool). elim t [ true ↦ state | false ↦ fresh_mark + state ]) (ne_eqb (calm_by plan n state) (leaving_by plan n state) e)

  -- where it differs from the state
  pub fresh-cases :
      (state : ℕ)
      → ((calm_by plan n state ≡ leaving_by plan n state) × (fresh_of plan n state ≡ state))
      ⊎ (fresh_of plan n state ≡ fresh_mark + state)
  fresh-cases state =
      by-test (eqb (calm_by plan n state) (leaving_by plan n state))
      (λ e. let z = eqb-true (calm_by plan n state) (leaving_by plan n state) e in inl (z, fresh-same state z))
      (λ e. inr (fresh-other state (eqb-false (calm_by plan n state) (leaving_by plan n state) e)))

  -- ## A state as it is shown

  pub shown-plain : (state : ℕ) → shown plan n false state ≡ state
  unfolding shown
  shown-plain state = refl

  pub shown-fresh : (state : ℕ) → shown plan n true state ≡ fresh_of plan n state
  unfolding shown
  shown-fresh state = refl

  -- the state itself, or with the mark
  pub shown-cases :
      (fresh : Bool) (state : ℕ)
      → (shown plan n fresh state ≡ state) ⊎ (shown plan n fresh state ≡ fresh_mark + state)
  shown-cases false state = inl (shown-plain state)
  shown-cases true state =
      ⊎_elim (λ e. inl (shown-fresh state ∙ e.1)) (λ e. inr (shown-fresh state ∙ e)) (fresh-cases state)

  module _ (state : ℕ) (small : state < fresh_mark) where
    pub state-shown : (fresh : Bool) → state_of (shown plan n fresh state) ≡ state
    state-shown fresh =
        ⊎_elim
        (λ e. ap state_of e ∙ state-plain state small)
        (λ e.
        let z : fresh_mark + state - fresh_mark ≡ state = omega arith in
        ap state_of e ∙ state-fresh (fresh_mark + state) (omega arith) ∙ z)
        (shown-cases fresh state)

    -- what stands without the mark is the state
    pub shown-below : (fresh : Bool) → shown plan n fresh state < fresh_mark → shown plan n fresh state ≡ state
    shown-below fresh l = ⊎_elim (λ e. e) (λ e. absurd (omega arith)) (shown-cases fresh state)

    pub shown-above :
        (fresh : Bool) → fresh_mark ≤ shown plan n fresh state → shown plan n fresh state ≡ fresh_mark + state
    shown-above fresh l = ⊎_elim (λ e. absurd (omega arith)) (λ e. e) (shown-cases fresh state)

    leaves-calm : leaves_from plan n (shown plan n true state) ≡ calm_by plan n state
    leaves-calm =
        ⊎_elim
        (λ e. ap (leaves_from plan n) (shown-fresh state ∙ e.1) ∙ leaves-plain state small ∙ sym e.0)
        (λ e.
        let z : fresh_mark + state - fresh_mark ≡ state = omega arith in
        ap (leaves_from plan n) (shown-fresh state ∙ e)
        ∙ leaves-fresh (fresh_mark + state) (omega arith)
        ∙ ap (calm_by plan n) z)
        (fresh-cases state)

    leaves_all : leaves_from plan n (shown plan n false state) ≡ leaving_by plan n state
    leaves_all = ap (leaves_from plan n) (shown-plain state) ∙ leaves-plain state small

    calm-parts :
        (v : ℕ) → bit (calm_by plan n state) v ≡ true
        → (bit (leaving_by plan n state) v ≡ true) × (disjoint state (marks_in plan v) ≡ false)
    unfolding leaving_by calm_by is_calm
    calm-parts v t =
        let l = low_bits (calm_by plan n state) n v (calm-small state) t in
        let parts = both (leaves_by plan state v) (not (disjoint state (marks_in plan v))) (sym (mask-inside (is_calm plan state) n v l) ∙ t) in
        (mask-inside (leaves_by plan state) n v l ∙ parts.0, not-true (disjoint state (marks_in plan v)) parts.1)
      where
        not-true : (t : Bool) → not t ≡ true → t ≡ false
        not-true false e = refl
        not-true true e = clash refl (sym e)

    calm_of :
        (v : ℕ) → bit (leaving_by plan n state) v ≡ true → disjoint state (marks_in plan v) ≡ false
        → bit (calm_by plan n state) v ≡ true
    unfolding leaving_by calm_by is_calm
    calm_of v t f =
        let l = low_bits (leaving_by plan n state) n v (leaving-small state) t in
        mask-inside (is_calm plan state) n v l
        ∙ ap₂ (λ (a b : Bool). a && not b) (sym (mask-inside (leaves_by plan state) n v l) ∙ t) f

    -- a variable that leaves what is shown leaves the state, and a fresh one without the order mark
    pub shown-leaves :
        (fresh : Bool) (v : ℕ) → bit (leaves_from plan n (shown plan n fresh state)) v ≡ true
        → (bit (leaving_by plan n state) v ≡ true) × (fresh ≡ true → disjoint state (marks_in plan v) ≡ false)
    shown-leaves false v t = (sym (ap (λ (x : ℕ). bit x v) leaves_all) ∙ t, λ e. clash e refl)
    shown-leaves true v t =
        let parts = calm-parts v (sym (ap (λ (x : ℕ). bit x v) leaves-calm) ∙ t) in
        (parts.0, λ e. parts.1)

    pub leaves-shown :
        (fresh : Bool) (v : ℕ) → bit (leaving_by plan n state) v ≡ true
        → (fresh ≡ true → disjoint state (marks_in plan v) ≡ false)
        → bit (leaves_from plan n (shown plan n fresh state)) v ≡ true
    leaves-shown false v t f = ap (λ (x : ℕ). bit x v) leaves_all ∙ t
    leaves-shown true v t f = ap (λ (x : ℕ). bit x v) leaves-calm ∙ calm_of v t (f refl)
