-- What stands at each place of a plan, and that the plan of a pattern in order can be followed. Assumes nothing.
use Rattle.std.proofs.Common.{◌≡◌, ◌∙◌, refl, sym, ap, ap₂, subst, true, not, List, ℕ, ◌+◌, ◌-◌, ◌*◌, ◌/◌, ◌%◌, ◌^◌}
use Rattle.std.proofs.Common.{◌≤◌, ◌<◌, le_refl, lt_of_lt_of_le, arith, eqb, ltb, length, get_or, pow_mono}
use borrow.Author.Tests.{lt-ltb, le-ltb, ltb-true, eqb-false, not-true}
use Rattle.std.proofs.lemmas.Grind.{same_number_lists}
use Rattle.numbers.specs.Numbers.{field, every, one_if}
use Rattle.numbers.specs.Bits.{bit}
use Rattle.numbers.proofs.Cases.{by_order, both}
use Rattle.numbers.proofs.Every.{every-same}
use Rattle.numbers.proofs.Bits.{mask_bound, mask-bit, mask-inside, mask-same, digit-one}
use Rattle.patterns.specs.declared.Condition.{Condition}
use Rattle.patterns.specs.declared.Pattern.{Pattern}
use Rattle.patterns.specs.Patterns.{most_variables, most_conditions, last_attribute, last_operator, condition_of}
use Rattle.patterns.specs.Comparison.{orders, meets}
use Rattle.patterns.specs.Checked.{condition_at, InOrder}
use Rattle.patterns.proofs.Filled.{filled_at, filled-length}
use Rattle.plans.specs.Plan.{plan_room, first_mask, first_joins, first_class, others_place, type_places, mask_place}
use Rattle.plans.specs.Plan.{failing_of, first_order, word_of, no_condition, joins, is_join, is_other, variable_mask}
use Rattle.plans.specs.Plan.{join_mask, class_holds, class_mask, other_mask, place_of, plan_up_to, plan_of, condition_in}
use Rattle.plans.specs.Plan.{before_in, after_in, marks_in, joins_in, class_in, others_in, both_sides, Tells, Placed}
use Rattle.plans.specs.Plan.{IsWord, IsPlan, Sound, Classed}

-- ## Conditions

-- a condition of which each field has its bits
pub record Packs (k : Condition) : Type 0 where
  pub variable : k.variable < 2 ^ 4
  pub attribute : k.attribute < 2 ^ 3
  pub operator : k.operator < 2 ^ 3
  pub form : k.form < 2
  pub variable2 : k.variable2 < 2 ^ 4
  pub attribute2 : k.attribute2 < 2 ^ 3
  pub constant : k.constant < 2 ^ 32

-- fields by fields
fields_back :
    (word : ℕ) (k : Condition) → field 4 60 word ≡ k.variable
    → field 3 57 word ≡ k.attribute
    → field 3 54 word ≡ k.operator
    → field 1 53 word ≡ k.form
    → field 4 49 word ≡ k.variable2
    → field 3 46 word ≡ k.attribute2
    → field 32 0 word ≡ k.constant
    → condition_of word ≡ k
unfolding condition_of
fields_back word k a b c d e f g = rw (a, b, c, d, e, f, g)

-- ## The orders that fail

pub failing-bound : (operator : ℕ) → failing_of operator < 8
unfolding failing_of
failing-bound operator = mask_bound (λ order. not (meets operator order)) orders

failing-digit : (operator o : ℕ) → o < orders → failing_of operator / 2 ^ o % 2 ≡ one_if (not (meets operator o))
unfolding failing_of
failing-digit operator o l =
    let digit = failing_of operator / 2 ^ o % 2 in
    sym (digit-one digit (omega arith)) ∙ ap one_if (mask-inside (λ order. not (meets operator order)) orders o l)

-- three orders
by_three : (P : ℕ → Type 0) → P 0 → P 1 → P 2 → (o : ℕ) → o < orders → P o
by_three P zeroth first second o l =
    by_order o 1
    (λ h. let e : 0 ≡ o = omega arith in subst P e zeroth)
    (λ h. by_order o 2
    (λ m. let e : 1 ≡ o = omega arith in subst P e first)
    (λ m. let e : 2 ≡ o = omega arith in subst P e second))

module _ (high failing constant : ℕ) (f : failing < 8) (c : constant < 2 ^ 32) where
  digit-among :
      (o : ℕ) → o < orders
      → (high * 2 ^ 46 + failing * 2 ^ first_order + constant) / 2 ^ (first_order + o) % 2 ≡ failing / 2 ^ o % 2
  digit-among =
      by_three (λ o. (high * 2 ^ 46 + failing * 2 ^ first_order + constant) / 2 ^ (first_order + o) % 2 ≡ failing / 2 ^ o % 2)
      (omega arith)
      (omega arith)
      (omega arith)

pub none-tells : Tells no_condition
unfolding condition_of
none-tells =
    record {
      order =
          by_three (λ o. no_condition / 2 ^ (first_order + o) % 2 ≡ one_if (not (meets (condition_of no_condition).operator o)))
          refl
          refl
          refl;
    }

module _ (k : Condition) (p : Packs k) where
  word_back : condition_of (word_of k) ≡ k
  unfolding word_of
  word_back =
      let f = failing-bound k.operator in
      fields_back (word_of k) k
      (omega arith)
      (omega arith)
      (omega arith)
      (omega arith)
      (omega arith)
      (omega arith)
      (omega arith)

  word-tells : Tells (word_of k)
  unfolding word_of
  word-tells =
      let high = ((((k.variable * 8 + k.attribute) * 8 + k.operator) * 2 + k.form) * 16 + k.variable2) * 8 + k.attribute2 in
      let is : word_of k ≡ high * 2 ^ 46 + failing_of k.operator * 2 ^ first_order + k.constant = omega arith in
      record {
        order = λ o l.
            ap (λ (word : ℕ). word / 2 ^ (first_order + o) % 2) is
            ∙ digit-among high (failing_of k.operator) k.constant (failing-bound k.operator) p.constant o l
            ∙ failing-digit k.operator o l
            ∙ ap (λ (j : Condition). one_if (not (meets j.operator o))) (sym word_back);
      }

  pub word-is : (word : ℕ) → word ≡ word_of k → IsWord k word
  word-is word e = record { packed = e; back = ap condition_of e ∙ word_back; tells = subst Tells (sym e) word-tells }

pub condition-variable : (word : ℕ) → (condition_of word).variable < 16
unfolding condition_of
condition-variable word = omega arith

pub condition-variable2 : (word : ℕ) → (condition_of word).variable2 < 16
unfolding condition_of
condition-variable2 word = omega arith

-- ## Places

module _ (p : Pattern) where
  pub place-word : (i : ℕ) → i < first_mask → i < p.c → place_of p i ≡ word_of (condition_at p i)
  unfolding place_of
  place-word i h l = rw (lt-ltb i first_mask h, lt-ltb i p.c l, place_of)

  pub place_none : (i : ℕ) → i < first_mask → p.c ≤ i → place_of p i ≡ no_condition
  unfolding place_of
  place_none i h l = rw (lt-ltb i first_mask h, le-ltb i p.c l, place_of)

  pub place-mask :
      (which v place : ℕ) → which < 3 → v < most_variables → place ≡ mask_place which v
      → place_of p place ≡ variable_mask p which v
  unfolding place_of
  place-mask which v place h l e =
      let a : (place - first_mask) / most_variables ≡ which = omega arith in
      let b : (place - first_mask) % most_variables ≡ v = omega arith in
      rw (le-ltb place first_mask (omega arith), lt-ltb place first_joins (omega arith), place_of) (ap₂ (variable_mask p) a b)

  pub place-joins :
      (place : ℕ) → first_joins ≤ place → place < first_class → place_of p place ≡ join_mask p (place - first_joins)
  unfolding place_of
  place-joins place h l = rw (le-ltb place first_mask (omega arith), le-ltb place first_joins h, lt-ltb place first_class l, place_of)

  pub place-class :
      (place : ℕ) → first_class ≤ place → place < others_place
      → place_of p place ≡ class_mask (condition_at p) p.n p.c (place - first_class)
  unfolding place_of
  place-class place h l =
      rw (le-ltb place first_mask (omega arith), le-ltb place first_joins (omega arith), le-ltb place first_class h, lt-ltb place others_place l, place_of)

  pub place-others :
      (place : ℕ) → others_place ≤ place → place_of p place ≡ other_mask (condition_at p) p.c (place - others_place)
  unfolding place_of
  place-others place h =
      rw (le-ltb place first_mask (omega arith), le-ltb place first_joins (omega arith), le-ltb place first_class (omega arith), le-ltb place others_place h, place_of)

  pub plan-place : (place : ℕ) → place < plan_room → get_or (plan_of p) place 0 ≡ place_of p place
  unfolding plan_of plan_up_to
  plan-place place h = filled_at plan_room 0 (place_of p) plan_room place 0 h

  pub plan-length : length (plan_of p) ≡ plan_room
  unfolding plan_of plan_up_to
  plan-length = filled-length plan_room 0 (place_of p) plan_room (le_refl plan_room)

  mask_at :
      (which v : ℕ) → which < 3 → v < most_variables → get_or (plan_of p) (mask_place which v) 0 ≡ variable_mask p which v
  mask_at which v h l = plan-place (mask_place which v) (omega arith) ∙ place-mask which v (mask_place which v) h l refl

  joins_at : (v : ℕ) → v < most_variables → get_or (plan_of p) (first_joins + v) 0 ≡ join_mask p v
  joins_at v l =
      let a : (first_joins + v) - first_joins ≡ v = omega arith in
      plan-place (first_joins + v) (omega arith) ∙ place-joins (first_joins + v) (omega arith) (omega arith) ∙ ap (join_mask p) a

  class-at : (b : ℕ) → b < type_places → get_or (plan_of p) (first_class + b) 0 ≡ class_mask (condition_at p) p.n p.c b
  class-at b l =
      let a : (first_class + b) - first_class ≡ b = omega arith in
      plan-place (first_class + b) (omega arith) ∙ place-class (first_class + b) (omega arith) (omega arith) ∙ ap (class_mask (condition_at p) p.n p.c) a

  others-at :
      (kind : ℕ) → kind ≤ both_sides → get_or (plan_of p) (others_place + kind) 0 ≡ other_mask (condition_at p) p.c kind
  others-at kind l =
      let a : (others_place + kind) - others_place ≡ kind = omega arith in
      plan-place (others_place + kind) (omega arith) ∙ place-others (others_place + kind) (omega arith) ∙ ap (other_mask (condition_at p) p.c) a

module _ (p : Pattern) (few : p.c ≤ most_conditions) where
  -- what stands behind the conditions gives none back
  pub placed-behind : (place number : ℕ) → first_mask ≤ place → number ≡ place_of p place → Placed p place number
  placed-behind place number h e = record { is = e; back = λ l. absurd (omega arith); tells = λ l. absurd (omega arith) }

  -- each number at its place
  pub plan-made :
      (plan : List ℕ) → length plan ≡ plan_room → ((i : ℕ) → i < plan_room → Placed p i (get_or plan i 0)) → IsPlan p plan
  plan-made plan size placed =
      record {
        made = same_number_lists plan (plan_of p) (size ∙ sym (plan-length p)) (λ i l. let h : i < plan_room = omega arith in (placed i h).is ∙ sym (plan-place p i h));
        condition = λ i l. (placed i (omega arith)).back l;
        tells = λ i l. (placed i (omega arith)).tells l;
      }

-- ## The plan of a pattern

module _ (p : Pattern) (plan : List ℕ) (is : IsPlan p plan) (v : ℕ) (l : v < most_variables) where
  pub before-in : before_in plan v ≡ variable_mask p 0 v
  before-in = ap (λ (q : List ℕ). before_in q v) is.made ∙ mask_at p 0 v (omega arith) l

  pub after-in : after_in plan v ≡ variable_mask p 1 v
  after-in = ap (λ (q : List ℕ). after_in q v) is.made ∙ mask_at p 1 v (omega arith) l

  pub marks-in : marks_in plan v ≡ variable_mask p 2 v
  marks-in = ap (λ (q : List ℕ). marks_in q v) is.made ∙ mask_at p 2 v (omega arith) l

  pub joins-in : joins_in plan v ≡ join_mask p v
  joins-in = ap (λ (q : List ℕ). joins_in q v) is.made ∙ joins_at p v l

module _ (p : Pattern) (o : InOrder p) (plan : List ℕ) (is : IsPlan p plan) where
  joins-bound : (v : ℕ) → join_mask p v < 2 ^ most_conditions
  unfolding join_mask
  joins-bound v = lt_of_lt_of_le (mask_bound (λ i. is_join v (condition_at p i)) p.c) (pow_mono o.few_conditions)

  joins-named : (v i : ℕ) → v < most_variables → bit (joins_in plan v) i ≡ true → (condition_in plan i).form ≡ 0 → ⊥
  unfolding join_mask joins
  joins-named v i l e f =
      let named = both (ltb i p.c) (is_join v (condition_at p i)) (sym (mask-bit (λ k. is_join v (condition_at p k)) p.c i) ∙ ap (λ (x : ℕ). bit x i) (sym (joins-in p plan is v l)) ∙ e) in
      let same = ap (λ (k : Condition). k.form) (is.condition i (ltb-true i p.c named.0)) in
      let other = eqb-false (condition_at p i).form 0 (not-true (eqb (condition_at p i).form 0) (both (not (eqb (condition_at p i).form 0)) _ named.1).0) in
      other (sym same ∙ f)

  none-behind : (i : ℕ) → i < most_conditions → p.c ≤ i → condition_in plan i ≡ condition_of no_condition
  none-behind i h l =
      ap condition_of (ap (λ (q : List ℕ). get_or q i 0) is.made ∙ plan-place p i (omega arith) ∙ place_none p i h l)

  -- what holds of each of the conditions and of none
  each-condition :
      (P : Condition → Type 0) → ((i : ℕ) → i < p.c → P (condition_at p i))
      → P (condition_of no_condition) → (i : ℕ) → i < most_conditions
      → P (condition_in plan i)
  each-condition P one none i h =
      by_order i p.c
      (λ l. subst P (sym (is.condition i l)) (one i l))
      (λ l. subst P (sym (none-behind i h l)) none)

  pub sound-plan : Sound plan
  unfolding condition_of
  sound-plan =
      record {
        size = ap length is.made ∙ plan-length p;
        joins = λ v l. rw (joins-in p plan is v l) (joins-bound v);
        form = joins-named;
        attribute = each-condition (λ k. k.attribute ≤ last_attribute) o.attribute (omega arith);
        attribute2 = each-condition (λ k. k.attribute2 ≤ last_attribute) o.attribute2 (omega arith);
        operator = each-condition (λ k. k.operator ≤ last_operator) o.operator (omega arith);
        tells = is.tells;
      }

  -- the plan's masks by class and of the others are those of its own conditions
  pub classed-plan : Classed plan p.n p.c
  unfolding class_mask other_mask
  classed-plan =
      record {
        by_class = λ b l.
            ap (λ (q : List ℕ). class_in q b) is.made ∙ class-at p b l
            ∙ mask-same (λ v. every (λ i. class_holds b v (condition_at p i)) p.c) (λ v. every (λ i. class_holds b v (condition_in plan i)) p.c) p.n (λ v m.
            every-same (λ i. class_holds b v (condition_at p i)) (λ i. class_holds b v (condition_in plan i)) p.c (λ i h.
            ap (class_holds b v) (sym (is.condition i h))));
        others = λ kind l.
            ap (λ (q : List ℕ). others_in q kind) is.made ∙ others-at p kind l
            ∙ mask-same (λ i. is_other kind (condition_at p i)) (λ i. is_other kind (condition_in plan i)) p.c (λ i h. ap (is_other kind) (sym (is.condition i h)));
      }
