-- The conditions that join a variable to what is bound: one combination by raised numbers, one condition binding by
-- binding, and all of them by the bits that are left of their mask. Assumes nothing.
use Rattle.std.proofs.Common.{◌≡◌, ◌∙◌, refl, sym, ap, ap₂, Bool, true, false, not, ◌&&◌, List, ℕ, ◌+◌, ◌-◌, ◌*◌, ◌^◌}
use Rattle.std.proofs.Common.{◌≤◌, ◌<◌, one-mul, lt_of_le_of_lt, sub-le, add-one, arith, eqb, pos}
use borrow.Author.Tests.{ne_eqb, eqb-true}
use Rattle.numbers.specs.Numbers.{every, one_if}
use Rattle.numbers.specs.Bits.{bit}
use Rattle.numbers.proofs.Cases.{by-test, by_order, both}
use Rattle.numbers.proofs.Every.{every_of, every_true}
use Rattle.numbers.proofs.Bits.{bit_high, bit-zero, bit-without, weight-in, weight-in-le}
use Rattle.records.specs.declared.Record.{Record}
use Rattle.records.specs.Records.{record_at}
use Rattle.patterns.specs.declared.Condition.{Condition}
use Rattle.patterns.specs.Patterns.{most_conditions}
use Rattle.patterns.specs.Comparison.{value, order_of, meets, holds, raise}
use Rattle.patterns.proofs.Comparison.{compared-value, raised-holds}
use Rattle.automaton.specs.Filtering.{implies, all}
use Rattle.automaton.proofs.Membership.{all-mem, clash}
use Rattle.automaton.proofs.All.{implies-of, implies_true, all_of, all_same}
use Rattle.rule.specs.Rule.{Binding, Reading}
use Rattle.slots.specs.Slots.{bindings_in, count_in, state_in}
use Rattle.plans.specs.Plan.{condition_in, joins_in}
use Rattle.firing.specs.Firing.{pair_holds, other_of, side_of, pair_meets, join_holds, joins_by, Seated}
use Rattle.firing.proofs.Slots.{binding_at, binding-among}

-- ## Sides

module _ (v : ℕ) (k : Condition) where
  pub side-first : eqb k.variable v ≡ true → side_of v k ≡ k.attribute
  side-first e = rw (e, side_of)

  pub side-second : eqb k.variable v ≡ false → side_of v k ≡ k.attribute2
  side-second e = rw (e, side_of)

  pub other-first : eqb k.variable v ≡ true → other_of v k ≡ k.variable2
  other-first e = rw (e, other_of)

  pub other-second : eqb k.variable v ≡ false → other_of v k ≡ k.variable
  other-second e = rw (e, other_of)

-- ## One combination

module _ (bytes : List ℕ) (v : ℕ) (k : Condition) (b : Binding) where
  module _ (x : ℕ) where
    pub meets-first :
        eqb k.variable v ≡ true
        → pair_meets bytes x v k b ≡ implies (eqb b.variable k.variable2)
        (meets k.operator (order_of (pos x) (pos (raise (value k.attribute2 (record_at bytes b.at))))))
    unfolding pair_meets
    meets-first e = rw (e, pair_meets)

    pub meets-second :
        eqb k.variable v ≡ false
        → pair_meets bytes x v k b ≡ implies (eqb b.variable k.variable)
        (meets k.operator (order_of (pos (raise (value k.attribute (record_at bytes b.at)))) (pos x)))
    unfolding pair_meets
    meets-second e = rw (e, pair_meets)

  module _ (i : ℕ) where
    holds-first :
        eqb k.variable v ≡ true
        → pair_holds bytes i v k b
        ≡ implies (eqb b.variable k.variable2) (holds k (record_at bytes i) (record_at bytes b.at))
    unfolding pair_holds
    holds-first e = rw (e, pair_holds)

    holds-second :
        eqb k.variable v ≡ false
        → pair_holds bytes i v k b
        ≡ implies (eqb b.variable k.variable) (holds k (record_at bytes b.at) (record_at bytes i))
    unfolding pair_holds
    holds-second e = rw (e, pair_holds)

    -- the raised numbers say what the condition says
    pair_same :
        (x : ℕ) → (k.form ≡ 0 → ⊥) → x ≡ raise (value (side_of v k) (record_at bytes i))
        → pair_meets bytes x v k b ≡ pair_holds bytes i v k b
    pair_same x f e =
        by-test (eqb k.variable v)
        (λ t.
        meets-first x t
        ∙ ap (implies (eqb b.variable k.variable2))
        (raised-holds k (record_at bytes i) (record_at bytes b.at) x (raise (value k.attribute2 (record_at bytes b.at)))
        (e ∙ ap (λ (a : ℕ). raise (value a (record_at bytes i))) (side-first v k t))
        (ap raise (sym (compared-value k (record_at bytes b.at) f))))
        ∙ sym (holds-first t))
        (λ t.
        meets-second x t
        ∙ ap (implies (eqb b.variable k.variable))
        (raised-holds k (record_at bytes b.at) (record_at bytes i) (raise (value k.attribute (record_at bytes b.at))) x refl
        (e ∙ ap (λ (a : ℕ). raise (value a (record_at bytes i))) (side-second v k t) ∙ ap raise (sym (compared-value k (record_at bytes i) f))))
        ∙ sym (holds-second t))

    -- a binding of any other variable passes
    pair-free : (b.variable ≡ other_of v k → ⊥) → pair_holds bytes i v k b ≡ true
    pair-free n =
        by-test (eqb k.variable v)
        (λ t. holds-first t ∙ ap (λ (s : Bool). implies s (holds k (record_at bytes i) (record_at bytes b.at))) (ne_eqb b.variable k.variable2 (λ q. n (q ∙ sym (other-first v k t)))))
        (λ t. holds-second t ∙ ap (λ (s : Bool). implies s (holds k (record_at bytes b.at) (record_at bytes i))) (ne_eqb b.variable k.variable (λ q. n (q ∙ sym (other-second v k t)))))

-- ## What the code has read is what stands in the plan, the slot and the block

module _ (v : ℕ) (read k : Condition) (e : read ≡ k) where
  pub value_read : (x : ℕ) (r : Record) → x ≡ raise (value (side_of v read) r) → x ≡ raise (value (side_of v k) r)
  value_read x r f = f ∙ ap (λ (q : Condition). raise (value (side_of v q) r)) e

  pub bound-read :
      (state s : ℕ) (found t : Bool) → state ≡ s → found ≡ bit state (other_of v read) → found ≡ t
      → bit s (other_of v k) ≡ t
  bound-read state s found t f g h = ap₂ (λ (a : ℕ) (q : Condition). bit a (other_of v q)) (sym f) (sym e) ∙ sym g ∙ h

  pub meets-read :
      (bytes : List ℕ) (x : ℕ) (b : Binding) (found t : Bool) → found ≡ pair_meets bytes x v read b → found ≡ t
      → pair_meets bytes x v k b ≡ t
  meets-read bytes x b found t f g = ap (λ (q : Condition). pair_meets bytes x v q b) (sym e) ∙ sym f ∙ g

-- ## One condition

module _ (bytes slot : List ℕ) (v x : ℕ) (k : Condition) where
  pub tried-none : all (pair_meets bytes x v k) (bindings_in slot 0) ≡ true
  unfolding bindings_in all
  tried-none = refl

  pub tried-more :
      (j : ℕ) → all (pair_meets bytes x v k) (bindings_in slot j) ≡ true → pair_meets bytes x v k (binding_at slot j) ≡ true
      → all (pair_meets bytes x v k) (bindings_in slot (j + 1)) ≡ true
  unfolding bindings_in all
  tried-more j e f = rw add-one (ap₂ (λ (s t : Bool). s && t) f e)

  module _ (i : ℕ) (form : k.form ≡ 0 → ⊥) (new : x ≡ raise (value (side_of v k) (record_at bytes i))) where
    -- all bindings have been tried
    pub tried-all :
        all (pair_meets bytes x v k) (bindings_in slot (count_in slot)) ≡ true
        → all (pair_holds bytes i v k) (bindings_in slot (count_in slot)) ≡ true
    tried-all t =
        all_same (pair_holds bytes i v k) (pair_meets bytes x v k) (bindings_in slot (count_in slot)) (λ b m. sym (pair_same bytes v k b i x form new)) ∙ t

    -- a combination that fails
    pub tried-fails :
        (j : ℕ) → j < count_in slot → pair_meets bytes x v k (binding_at slot j) ≡ false
        → all (pair_holds bytes i v k) (bindings_in slot (count_in slot)) ≡ true
        → ⊥
    tried-fails j l f t =
        clash (pair_same bytes v k (binding_at slot j) i x form new ∙ all-mem (pair_holds bytes i v k) (binding-among slot (count_in slot) j l) t) f

-- the other variable is not bound: there is nothing to try
pub tried-free :
    (bytes slot : List ℕ) (v i : ℕ) (k : Condition) → Seated bytes slot
    → bit (state_in slot) (other_of v k) ≡ false
    → all (pair_holds bytes i v k) (bindings_in slot (count_in slot)) ≡ true
tried-free bytes slot v i k seated f =
    all_of (pair_holds bytes i v k) (bindings_in slot (count_in slot)) (λ b m.
    pair-free bytes v k b i (λ q. clash (seated.bound b m) (ap (bit (state_in slot)) q ∙ f)))

-- ## All conditions

-- the number has bit v, so its weight
pub weight-le : (a v : ℕ) → bit a v ≡ true → 2 ^ v ≤ a
weight-le a v e =
    let w : 2 ^ v ≡ one_if (bit a v) * 2 ^ v = sym (one-mul (2 ^ v)) ∙ ap (λ (t : Bool). one_if t * 2 ^ v) (sym e) in
    omega (arith, weight-in-le a v, weight-in a v)

-- bit v away
pub less-bit : (a n v u : ℕ) → a < 2 ^ n → bit a v ≡ true → bit (a - 2 ^ v) u ≡ not (eqb v u) && bit a u
less-bit a n v u h e =
    let w : 2 ^ v ≡ one_if (bit a v) * 2 ^ v = sym (one-mul (2 ^ v)) ∙ ap (λ (t : Bool). one_if t * 2 ^ v) (sym e) in
    ap (λ (x : ℕ). bit (a - x) u) w ∙ bit-without a n v u h

-- the conditions whose bits are left are to be tested, all others of the mask hold
pub record Left (plan bytes : List ℕ) (i v : ℕ) (r : Reading) (rest : ℕ) : Type 0 where
  pub small : rest < 2 ^ most_conditions
  pub named : (q : ℕ) → bit rest q ≡ true → bit (joins_in plan v) q ≡ true
  pub done : (q : ℕ) → bit rest q ≡ false → join_holds plan bytes i v r q ≡ true

module _ (plan bytes : List ℕ) (i v : ℕ) (r : Reading) where
  pub left-all : joins_in plan v < 2 ^ most_conditions → Left plan bytes i v r (joins_in plan v)
  unfolding join_holds
  left-all h = record { small = h; named = λ q e. e; done = λ q e. ap (λ (t : Bool). implies t (all (pair_holds bytes i v (condition_in plan q)) r)) e }

  module _ (rest : ℕ) (left : Left plan bytes i v r rest) where
    pub left_below : (at : ℕ) → bit rest at ≡ true → at < most_conditions
    left_below at e = by_order at most_conditions (λ l. l) (λ l. clash e (bit_high rest most_conditions at left.small l))

    pub left_less :
        (at : ℕ) → bit rest at ≡ true → all (pair_holds bytes i v (condition_in plan at)) r ≡ true
        → Left plan bytes i v r (rest - 2 ^ at)
    unfolding join_holds
    left_less at e t =
        record {
          small = lt_of_le_of_lt (sub-le rest (2 ^ at)) left.small;
          named = λ q f. left.named q (both (not (eqb at q)) (bit rest q) (sym (less-bit rest most_conditions at q left.small e) ∙ f)).1;
          done = λ q f.
              by-test (eqb at q)
              (λ g. implies-of (bit (joins_in plan v) q) (all (pair_holds bytes i v (condition_in plan q)) r) (λ h. ap (λ (p : ℕ). all (pair_holds bytes i v (condition_in plan p)) r) (sym (eqb-true at q g)) ∙ t))
              (λ g. left.done q (sym (ap (λ (s : Bool). not s && bit rest q) g) ∙ sym (less-bit rest most_conditions at q left.small e) ∙ f));
        }

    -- nothing is left
    pub joins-done : rest ≡ 0 → joins_by plan bytes i v r ≡ true
    unfolding joins_by
    joins-done e = every_of (join_holds plan bytes i v r) most_conditions (λ q l. left.done q (ap (λ (x : ℕ). bit x q) e ∙ bit-zero q))

    -- one that is left fails
    pub joins-fail :
        (at : ℕ) → bit rest at ≡ true → (all (pair_holds bytes i v (condition_in plan at)) r ≡ true → ⊥)
        → joins_by plan bytes i v r ≡ false
    unfolding joins_by join_holds
    joins-fail at e f =
        by-test (every (join_holds plan bytes i v r) most_conditions)
        (λ t. absurd (f (implies_true (bit (joins_in plan v) at) (all (pair_holds bytes i v (condition_in plan at)) r) (every_true (join_holds plan bytes i v r) most_conditions t at (left_below at e)) (left.named at e))))
        (λ t. t)

  -- there is none
  pub joins-none : joins_in plan v ≡ 0 → joins_by plan bytes i v r ≡ true
  unfolding joins_by join_holds
  joins-none e = every_of (join_holds plan bytes i v r) most_conditions (λ q l. ap (λ (x : ℕ). implies (bit x q) (all (pair_holds bytes i v (condition_in plan q)) r)) e ∙ ap (λ (t : Bool). implies t (all (pair_holds bytes i v (condition_in plan q)) r)) (bit-zero q))
