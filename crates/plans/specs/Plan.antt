-- What a pass prepares once a call: a plan, numbers of 64 bits made of the checked pattern. First stand the conditions
-- in the bits of rule 2.3, with what orders fail them among the zeros; behind them four masks for each variable, then
-- for each 16 event types the variables whose conditions on class hold of them, and last, by kind, the conditions that
-- each event has yet to be asked.
use Rattle.std.specs.Prelude.{◌≡◌, Bool, true, false, not, ◌&&◌, ◌||◌, List, ℕ, ◌+◌, ◌-◌, ◌*◌, ◌/◌, ◌%◌, ◌^◌, ◌<◌, ◌≤◌, eqb, ltb, leb, length, get_or}
use Rattle.numbers.specs.Numbers.{every, one_if}
use Rattle.numbers.specs.Bits.{mask, bit}
use Rattle.records.specs.declared.Record.{Record}
use Rattle.patterns.specs.declared.Condition.{Condition}
use Rattle.patterns.specs.declared.Pattern.{Pattern}
use Rattle.patterns.specs.Patterns.{most_variables, most_conditions, last_attribute, last_operator, condition_of}
use Rattle.patterns.specs.Checked.{filled, condition_at, set_of, is_group}
use Rattle.patterns.specs.Comparison.{orders, meets, holds}
use Rattle.automaton.specs.Filtering.{implies}
use Rattle.plans.specs.declared.Mask.{Mask}
use Rattle.plans.specs.declared.Mask.TheVariants.{Before, After, Marks}

-- ## The conditions

-- the orders that fail an operator, bit o for order o
unfoldable pub failing_of : ℕ → ℕ
failing_of operator = mask (λ order. not (meets operator order)) orders

abbrev pub first_order : ℕ
first_order = 43

-- the fields of rule 2.3 at their bits, and the orders that fail the operator in the highest three of the 14 zeros
unfoldable pub word_of : Condition → ℕ
word_of k =
    k.variable * 2 ^ 60
    + k.attribute * 2 ^ 57
    + k.operator * 2 ^ 54
    + k.form * 2 ^ 53
    + k.variable2 * 2 ^ 49
    + k.attribute2 * 2 ^ 46
    + failing_of k.operator * 2 ^ first_order
    + k.constant

-- 64 bits that tell of each order whether it fails their condition's operator
pub record Tells (word : ℕ) : Type 0 where
  pub order :
      (o : ℕ) → o < orders
      → word / 2 ^ (first_order + o) % 2 ≡ one_if (not (meets (condition_of word).operator o))

-- the 64 bits of condition k, which give it back
pub record IsWord (k : Condition) (word : ℕ) : Type 0 where
  pub packed : word ≡ word_of k
  pub back : condition_of word ≡ k
  pub tells : Tells word

-- what stands where there is no condition: operator 0, which an equal order alone meets
abbrev pub no_condition : ℕ
no_condition = 5 * 2 ^ first_order

-- condition k looks at the new event for v alone: it compares v with the constant, or names v on both sides
unfoldable pub is_own : ℕ → Condition → Bool
is_own v k = eqb k.variable v && (eqb k.form 0 || eqb k.variable2 v)

-- of form 1, and v stands on exactly one side
unfoldable pub joins : ℕ → ℕ → ℕ → ℕ → Bool
joins v form variable variable2 =
    not (eqb form 0) && elim (eqb variable v) [ true ↦ not (eqb variable2 v) | false ↦ eqb variable2 v ]

-- condition k joins v to another variable
abbrev pub is_join : ℕ → Condition → Bool
is_join v k = joins v k.form k.variable k.variable2

-- ## The masks of variable v, bit u for variable u

-- which variables stand in a mask: v's set, the variable's set, whether it is v, and whether v is a group variable
-- 0: what must be bound before v opens, the variables of earlier sets
-- 1: what must be unbound for v's loop, the variables of later sets; and v itself where it is no group variable, so
--    that it never loops
-- 2: the order mark stands where none of v's own set is bound; where that set is the first, where nothing is bound at
--    all
unfoldable pub standing : ℕ → ℕ → ℕ → Bool → Bool → Bool
standing which own set same group =
    elim (eqb which 0) [
      | true ↦ ltb set own
      | false ↦ elim (eqb which 1) [ true ↦ ltb own set || (same && not group) | false ↦ leb own 1 || eqb set own ]
    ]

-- the masks by their numbers
abbrev pub mask_number : Mask → ℕ
mask_number Before = 0
mask_number After = 1
mask_number Marks = 2

abbrev pub stands : Pattern → ℕ → ℕ → ℕ → Bool
stands p which v u = standing which (set_of p v) (set_of p u) (eqb u v) (is_group p v)

unfoldable pub variable_mask : Pattern → ℕ → ℕ → ℕ
variable_mask p which v = mask (stands p which v) p.n

-- the conditions that join v to another variable, bit i for condition i
unfoldable pub join_mask : Pattern → ℕ → ℕ
join_mask p v = mask (λ i. is_join v (condition_at p i)) p.c

-- ## Conditions on class

-- attribute 2 is the class
abbrev pub class_attribute : ℕ
class_attribute = 2

-- of form 0 and on class: the condition compares the class of its variable's event with the constant
unfoldable pub on_class : ℕ → ℕ → Bool
on_class form attribute = eqb form 0 && eqb attribute class_attribute

abbrev pub is_on_class : Condition → Bool
is_on_class k = on_class k.form k.attribute

-- the kind of the conditions with one variable on both sides; below it each attribute is a kind
abbrev pub both_sides : ℕ
both_sides = last_attribute + 1

-- any other condition that looks at one event alone, by kind: of form 0 the attribute, but for class; else one variable
-- on both sides
unfoldable pub other_own : ℕ → ℕ → ℕ → ℕ → ℕ → Bool
other_own kind form variable variable2 attribute =
    elim (eqb form 0) [
      | true ↦ eqb attribute kind && not (eqb attribute class_attribute)
      | false ↦ eqb kind both_sides && eqb variable variable2
    ]

abbrev pub is_other : ℕ → Condition → Bool
is_other kind k = other_own kind k.form k.variable k.variable2 k.attribute

-- the mask without the variable of condition k, where k looks at one event alone and fails of the record
unfoldable pub settled : ℕ → Condition → Record → ℕ
settled can k r =
    elim (eqb k.form 0 || eqb k.variable k.variable2) [
      | false ↦ can
      | true ↦ elim (holds k r r) [ true ↦ can | false ↦ can - one_if (bit can k.variable) * 2 ^ k.variable ]
    ]

-- the same where k is on class, and all of the mask where it is not
unfoldable pub settled_on_class : ℕ → Condition → Record → ℕ
settled_on_class can k r = elim (is_on_class k) [ true ↦ settled can k r | false ↦ can ]

-- a place of the plan serves 16 event types: those from 16 * b on, all of one class
abbrev pub types_together : ℕ
types_together = 16

abbrev pub type_places : ℕ
type_places = 256 / types_together

-- an event of the first of them
unfoldable pub sample_of : ℕ → Record
sample_of b =
    record {
      kind = 0;
      core = 0;
      event_type = types_together * b;
      time = 0;
      slot = 0;
      amount = 0;
      wave = 0;
    }

-- condition k holds of the sample for v, if it is on class and looks at the event for v
unfoldable pub class_holds : ℕ → ℕ → Condition → Bool
class_holds b v k = implies (is_on_class k) (implies (is_own v k) (holds k (sample_of b) (sample_of b)))

-- the variables whose conditions on class hold of the sample, of n variables and c conditions
unfoldable pub class_mask : (ℕ → Condition) → ℕ → ℕ → ℕ → ℕ
class_mask condition n c b = mask (λ v. every (λ i. class_holds b v (condition i)) c) n

-- the other conditions of a kind, of c conditions, bit i for condition i
unfoldable pub other_mask : (ℕ → Condition) → ℕ → ℕ → ℕ
other_mask condition c kind = mask (λ i. is_other kind (condition i)) c

-- ## The plan

abbrev pub first_mask : ℕ
first_mask = most_conditions

-- the masks 0 to 2 of v
abbrev pub mask_place : ℕ → ℕ → ℕ
mask_place which v = first_mask + most_variables * which + v

abbrev pub first_joins : ℕ
first_joins = first_mask + 3 * most_variables

abbrev pub first_class : ℕ
first_class = first_joins + most_variables

abbrev pub others_place : ℕ
others_place = first_class + type_places

abbrev pub plan_room : ℕ
plan_room = others_place + both_sides + 1

unfoldable pub place_of : Pattern → ℕ → ℕ
place_of p place =
    elim (ltb place first_mask) [
      | true ↦ elim (ltb place p.c) [ true ↦ word_of (condition_at p place) | false ↦ no_condition ]
      | false ↦ elim (ltb place first_joins) [
        | true ↦ variable_mask p ((place - first_mask) / most_variables) ((place - first_mask) % most_variables)
        | false ↦ elim (ltb place first_class) [
          | true ↦ join_mask p (place - first_joins)
          | false ↦ elim (ltb place others_place) [
            | true ↦ class_mask (condition_at p) p.n p.c (place - first_class)
            | false ↦ other_mask (condition_at p) p.c (place - others_place)
          ]
        ]
      ]
    ]

-- a number at its place of the plan, which gives a condition back
pub record Placed (p : Pattern) (place number : ℕ) : Type 0 where
  pub is : number ≡ place_of p place
  pub back : place < p.c → condition_of number ≡ condition_at p place
  pub tells : place < first_mask → Tells number

-- the first places of the plan, the others 0
unfoldable pub plan_up_to : Pattern → ℕ → List ℕ
plan_up_to p count = filled plan_room 0 (place_of p) count

unfoldable pub plan_of : Pattern → List ℕ
plan_of p = plan_up_to p plan_room

-- ## What stands in a plan

abbrev pub condition_in : List ℕ → ℕ → Condition
condition_in plan i = condition_of (get_or plan i 0)

abbrev pub before_in : List ℕ → ℕ → ℕ
before_in plan v = get_or plan (mask_place 0 v) 0

abbrev pub after_in : List ℕ → ℕ → ℕ
after_in plan v = get_or plan (mask_place 1 v) 0

abbrev pub marks_in : List ℕ → ℕ → ℕ
marks_in plan v = get_or plan (mask_place 2 v) 0

abbrev pub joins_in : List ℕ → ℕ → ℕ
joins_in plan v = get_or plan (first_joins + v) 0

abbrev pub class_in : List ℕ → ℕ → ℕ
class_in plan b = get_or plan (first_class + b) 0

abbrev pub others_in : List ℕ → ℕ → ℕ
others_in plan kind = get_or plan (others_place + kind) 0

-- the plan of p: its first places give the conditions back
pub record IsPlan (p : Pattern) (plan : List ℕ) : Type 0 where
  pub made : plan ≡ plan_of p
  pub condition : (i : ℕ) → i < p.c → condition_in plan i ≡ condition_at p i
  pub tells : (i : ℕ) → i < most_conditions → Tells (get_or plan i 0)

-- a plan that can be followed: no mask of conditions names one behind the last or one of form 0, and each condition has
-- one of the attributes and operators, and tells the orders that fail it
pub record Sound (plan : List ℕ) : Type 0 where
  pub size : length plan ≡ plan_room
  pub joins : (v : ℕ) → v < most_variables → joins_in plan v < 2 ^ most_conditions
  pub form : (v i : ℕ) → v < most_variables → bit (joins_in plan v) i ≡ true → (condition_in plan i).form ≡ 0 → ⊥
  pub attribute : (i : ℕ) → i < most_conditions → (condition_in plan i).attribute ≤ last_attribute
  pub attribute2 : (i : ℕ) → i < most_conditions → (condition_in plan i).attribute2 ≤ last_attribute
  pub operator : (i : ℕ) → i < most_conditions → (condition_in plan i).operator ≤ last_operator
  pub tells : (i : ℕ) → i < most_conditions → Tells (get_or plan i 0)

-- a plan that has settled the conditions on class of n variables and c conditions, and names the others
pub record Classed (plan : List ℕ) (n c : ℕ) : Type 0 where
  pub by_class : (b : ℕ) → b < type_places → class_in plan b ≡ class_mask (condition_in plan) n c b
  pub others : (kind : ℕ) → kind ≤ both_sides → others_in plan kind ≡ other_mask (condition_in plan) c kind
