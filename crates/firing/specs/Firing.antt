-- Whether the step on v fires for a held reading at record i (rule 5.2), in the parts that a pass settles one by one:
-- what record i alone decides, once a record; then, for each reading, whether v leaves its state, the order mark, and
-- the conditions that join v to what is bound.
use Rattle.std.specs.Prelude.{◌≡◌, Bool, true, false, ◌&&◌, ℕ, ◌+◌, ◌-◌, ◌*◌, ◌^◌, ◌<◌, ◌≤◌, eqb, ltb, pos, length}
use mathlib.Core.List.{List, [], ◌∷◌, Memᴰ}
use Rattle.numbers.specs.Numbers.{every, one_if}
use Rattle.numbers.specs.Bits.{bit, mask, within, disjoint}
use Rattle.records.specs.Records.{record_bytes, record_at}
use Rattle.patterns.specs.declared.Condition.{Condition}
use Rattle.patterns.specs.declared.Pattern.{Pattern}
use Rattle.patterns.specs.Patterns.{most_variables, most_conditions, last_attribute}
use Rattle.patterns.specs.Comparison.{value, order_of, meets, holds, raise}
use Rattle.automaton.specs.Filtering.{implies, all}
use Rattle.rule.specs.Rule.{Binding, Reading, last_of}
use Rattle.rule.specs.Promises.{most_bindings}
use Rattle.slots.specs.Slots.{Held, slot_bytes, count_in, state_in, bindings_in}
use Rattle.plans.specs.Plan.{is_own, is_other, condition_in, before_in, after_in, marks_in, joins_in, Sound, Classed}

-- ## Once a record

-- condition k of the plan holds of record i for v, if it looks at the new event alone
unfoldable pub own_holds : List ℕ → List ℕ → ℕ → ℕ → ℕ → Bool
own_holds plan bytes i v k =
    implies (is_own v (condition_in plan k)) (holds (condition_in plan k) (record_at bytes i) (record_at bytes i))

-- the variables whose own conditions hold of record i, of n variables and c conditions
unfoldable pub can_by : List ℕ → ℕ → ℕ → List ℕ → ℕ → ℕ
can_by plan n c bytes i = mask (λ v. every (own_holds plan bytes i v) c) n

-- the mask without the variable of condition k, where x does not stand to y as k's operator says
unfoldable pub settled_order : ℕ → Condition → ℕ → ℕ → ℕ
settled_order can k x y =
    elim (meets k.operator (order_of (pos x) (pos y))) [
      | true ↦ can
      | false ↦ can - one_if (bit can k.variable) * 2 ^ k.variable
    ]

-- condition k of the plan holds of record i for v, if it is one of the kind that looks at the new event alone
unfoldable pub other_holds : List ℕ → List ℕ → ℕ → ℕ → ℕ → ℕ → Bool
other_holds plan bytes i kind v k = implies (is_other kind (condition_in plan k)) (own_holds plan bytes i v k)

-- the variables of a mask whose conditions of a kind hold of record i
unfoldable pub settled_by : List ℕ → ℕ → ℕ → List ℕ → ℕ → ℕ → ℕ → ℕ
settled_by plan n c bytes i kind can = mask (λ v. bit can v && every (other_holds plan bytes i kind v) c) n

-- condition k is one of a kind, and has one of the attributes
pub record Compares (kind : ℕ) (k : Condition) : Type 0 where
  pub other : is_other kind k ≡ true
  pub attribute : k.attribute ≤ last_attribute

-- a plan of n variables and c conditions, a mask of the variables, and record i of a block
pub record Settling (plan : List ℕ) (n c can : ℕ) (bytes : List ℕ) (i : ℕ) : Type 0 where
  pub sound : Sound plan
  pub classed : Classed plan n c
  pub variables : n ≤ most_variables
  pub conditions : c ≤ most_conditions
  pub inside : can < 2 ^ n
  pub here : record_bytes * i + record_bytes ≤ length bytes

-- ## Once a reading

-- a bound variable loops where nothing stands in its way, an unbound one opens where all of the earlier sets is bound
unfoldable pub leaves_by : List ℕ → ℕ → ℕ → Bool
leaves_by plan state v =
    elim (bit state v) [ true ↦ disjoint state (after_in plan v) | false ↦ within (before_in plan v) state ]

-- record i is later than the latest binding
unfoldable pub later_than : List ℕ → ℕ → Reading → Bool
later_than bytes i [] = true
later_than bytes i (b ∷ bs) = ltb (record_at bytes b.at).time (record_at bytes i).time

-- the order mark
unfoldable pub later_by : List ℕ → List ℕ → ℕ → ℕ → Held → Bool
later_by plan bytes i v h = implies (disjoint h.state (marks_in plan v)) (later_than bytes i h.bindings)

-- condition k holds of record i for v together with binding b, if b binds the other variable that k names
unfoldable pub pair_holds : List ℕ → ℕ → ℕ → Condition → Binding → Bool
pair_holds bytes i v k b =
    elim (eqb k.variable v) [
      | true ↦ implies (eqb b.variable k.variable2) (holds k (record_at bytes i) (record_at bytes b.at))
      | false ↦ implies (eqb b.variable k.variable) (holds k (record_at bytes b.at) (record_at bytes i))
    ]

-- the variable that condition k names beside v
abbrev pub other_of : ℕ → Condition → ℕ
other_of v k = elim (eqb k.variable v) [ true ↦ k.variable2 | false ↦ k.variable ]

-- the attribute of v's side
abbrev pub side_of : ℕ → Condition → ℕ
side_of v k = elim (eqb k.variable v) [ true ↦ k.attribute | false ↦ k.attribute2 ]

-- condition k holds with binding b where x is the new event's value, raised
unfoldable pub pair_meets : List ℕ → ℕ → ℕ → Condition → Binding → Bool
pair_meets bytes x v k b =
    elim (eqb k.variable v) [
      | true ↦ implies
          (eqb b.variable k.variable2)
          (meets k.operator (order_of (pos x) (pos (raise (value k.attribute2 (record_at bytes b.at))))))
      | false ↦ implies
          (eqb b.variable k.variable)
          (meets k.operator (order_of (pos (raise (value k.attribute (record_at bytes b.at)))) (pos x)))
    ]

-- condition k of the plan holds of record i for v with every binding, if it joins v to another variable
unfoldable pub join_holds : List ℕ → List ℕ → ℕ → ℕ → Reading → ℕ → Bool
join_holds plan bytes i v r k = implies (bit (joins_in plan v) k) (all (pair_holds bytes i v (condition_in plan k)) r)

-- every pair of a condition that joins v and a binding
unfoldable pub joins_by : List ℕ → List ℕ → ℕ → ℕ → Reading → Bool
joins_by plan bytes i v r = every (join_holds plan bytes i v r) most_conditions

-- what a reading is asked beside its state: the order mark, and the conditions that join v
abbrev pub agrees_by : List ℕ → List ℕ → ℕ → ℕ → Held → Bool
agrees_by plan bytes i v h = later_by plan bytes i v h && joins_by plan bytes i v h.bindings

-- the step on v fires, where the variables of `can` are those whose own conditions hold
unfoldable pub fires_by : List ℕ → List ℕ → ℕ → ℕ → ℕ → Held → Bool
fires_by plan bytes i can v h = bit can v && (leaves_by plan h.state v && agrees_by plan bytes i v h)

-- a reading of p whose records stand below i, none of them behind the latest binding's
pub record ReadBelow (p : Pattern) (i : ℕ) (r : Reading) : Type 0 where
  pub variable : (b : Binding) → Memᴰ b r → b.variable < p.n
  pub below : (b : Binding) → Memᴰ b r → b.at < i
  pub latest : (b : Binding) → Memᴰ b r → b.at ≤ last_of r

-- ## What the tests ask of lent memory

-- a slot whose bindings stand in its state, and their records in the block
pub record Seated (bytes slot : List ℕ) : Type 0 where
  pub size : length slot ≡ slot_bytes
  pub few : count_in slot ≤ most_bindings
  pub bound : (b : Binding) → Memᴰ b (bindings_in slot (count_in slot)) → bit (state_in slot) b.variable ≡ true
  pub in_block :
      (b : Binding) → Memᴰ b (bindings_in slot (count_in slot))
      → record_bytes * b.at + record_bytes ≤ length bytes

-- a plan, record i of a block, and a slot
pub record Fit (plan bytes : List ℕ) (i : ℕ) (slot : List ℕ) : Type 0 where
  pub sound : Sound plan
  pub here : record_bytes * i + record_bytes ≤ length bytes
  pub seated : Seated bytes slot
