-- The variables whose own conditions hold of an event: those whose conditions on class hold of the event's class,
-- settled by the other conditions kind by kind. Assumes nothing.
use Rattle.std.proofs.Common.{◌≡◌, ◌∙◌, refl, sym, ap, ap₂, Bool, true, false, not, ◌&&◌, ◌||◌, List, ℕ, ◌*◌, ◌/◌}
use Rattle.std.proofs.Common.{◌^◌, ◌≤◌, ◌<◌, arith, eqb, ℤ, pos}
use borrow.Author.Tests.{eqb-true, not-true}
use Rattle.numbers.specs.Numbers.{every}
use Rattle.numbers.specs.Bits.{bit, mask}
use Rattle.numbers.proofs.Cases.{by-test}
use Rattle.numbers.proofs.Every.{every_true, every-same, every-both}
use Rattle.numbers.proofs.Bits.{bit-zero, mask_bound, mask-inside, mask-nothing, mask-same}
use Rattle.records.specs.declared.Record.{Record}
use Rattle.records.specs.Records.{record_at, class_of}
use Rattle.patterns.specs.declared.Condition.{Condition}
use Rattle.patterns.specs.Patterns.{most_conditions, last_attribute}
use Rattle.patterns.specs.Comparison.{value, order_of, meets, holds}
use Rattle.patterns.proofs.Comparison.{compared-constant}
use Rattle.automaton.specs.Filtering.{implies}
use Rattle.plans.specs.Plan.{is_own, on_class, is_on_class, other_own, is_other, class_attribute, both_sides}
use Rattle.plans.specs.Plan.{types_together, type_places, sample_of, class_holds, class_mask, condition_in, class_in}
use Rattle.plans.specs.Plan.{Sound, Classed}
use Rattle.plans.proofs.Own.{own-none, class-form, class-attribute}
use Rattle.firing.specs.Firing.{own_holds, other_holds, settled_by, can_by}

-- ## Types of one class

-- all 256 types have the class of the first of those that stand together
classes-together : every (λ t. eqb (class_of (types_together * (t / types_together))) (class_of t)) 256 ≡ true
unfolding every class_of
classes-together = refl

pub same_class : (t : ℕ) → t < 256 → class_of (types_together * (t / types_together)) ≡ class_of t
same_class t h =
    eqb-true (class_of (types_together * (t / types_together))) (class_of t)
    (every_true (λ u. eqb (class_of (types_together * (u / types_together))) (class_of u)) 256 classes-together t h)

-- ## Three kinds of condition

module _ (k : Condition) where
  module _ (on : is_on_class k ≡ true) where
    value-class : (r : Record) → value k.attribute r ≡ pos (class_of r.event_type)
    unfolding value
    value-class r = ap (λ (a : ℕ). value a r) (class-attribute k on)

    -- a condition on class holds alike of events of one class
    on-class-holds : (r s : Record) → class_of r.event_type ≡ class_of s.event_type → holds k r r ≡ holds k s s
    unfolding holds
    on-class-holds r s e =
        ap₂ (λ (x y : ℤ). meets k.operator (order_of x y))
        (value-class r ∙ ap pos e ∙ sym (value-class s))
        (compared-constant k r (class-form k on) ∙ sym (compared-constant k s (class-form k on)))

-- ## One condition

-- what the class settles and then, one after the other, the kinds: type, core, slot, amount, wave, and both sides
abbrev by_kinds : Bool → (ℕ → Bool) → Bool → Bool
by_kinds class is own =
    (((((class && implies (is 1) own) && implies (is 0) own) && implies (is 3) own) && implies (is 4) own)
    && implies (is 5) own)
    && implies (is both_sides) own

-- the kinds of a condition of form 0
abbrev by_constant : Bool → ℕ → Bool
by_constant own attribute =
    by_kinds (implies (eqb attribute class_attribute) own) (λ kind. eqb attribute kind && not (eqb attribute class_attribute)) own

constants-hold : every (by_constant true) both_sides ≡ true
unfolding every
constants-hold = refl

constants-fail : every (λ attribute. not (by_constant false attribute)) both_sides ≡ true
unfolding every
constants-fail = refl

by-constant : (attribute : ℕ) → attribute ≤ last_attribute → (own : Bool) → by_constant own attribute ≡ own
by-constant attribute h true = every_true (by_constant true) both_sides constants-hold attribute (omega arith)
by-constant attribute h false =
    not-true (by_constant false attribute) (every_true (λ a. not (by_constant false a)) both_sides constants-fail attribute (omega arith))

-- the kinds of a condition of form 1
by-sides : (same own : Bool) → (same ≡ false → own ≡ true) → by_kinds true (λ kind. eqb kind both_sides && same) own ≡ own
by-sides true own h = refl
by-sides false own h = sym (h refl)

module _ (k : Condition) (few : k.attribute ≤ last_attribute) (b v : ℕ) (r : Record)
    (e : class_of (types_together * b) ≡ class_of r.event_type) where
  abbrev own : Bool
  own = implies (is_own v k) (holds k r r)

  class-of-form : eqb k.form 0 ≡ true → class_holds b v k ≡ implies (eqb k.attribute class_attribute) own
  unfolding class_holds on_class sample_of
  class-of-form f =
      by-test (eqb k.attribute class_attribute)
      (λ a.
      let on : is_on_class k ≡ true = rw (f, a) in
      ap (λ (t : Bool). implies t (implies (is_own v k) (holds k (sample_of b) (sample_of b)))) on
      ∙ ap (implies (is_own v k)) (on-class-holds k on (sample_of b) r e)
      ∙ ap (λ (t : Bool). implies t own) (sym a))
      (λ a.
      let off : is_on_class k ≡ false = rw (f, a) in
      ap (λ (t : Bool). implies t (implies (is_own v k) (holds k (sample_of b) (sample_of b)))) off
      ∙ ap (λ (t : Bool). implies t own) (sym a))

  class-of-join : eqb k.form 0 ≡ false → class_holds b v k ≡ true
  unfolding class_holds on_class
  class-of-join f = rw (f, class_holds)

  -- class and kinds leave nothing of a condition out
  pub by-kinds : by_kinds (class_holds b v k) (λ kind. is_other kind k) own ≡ own
  unfolding other_own
  by-kinds =
      by-test (eqb k.form 0)
      (λ f.
      ap (λ (t : Bool). by_kinds t (λ kind. is_other kind k) own) (class-of-form f)
      ∙ rw (f, other_own) (by-constant k.attribute few own))
      (λ f.
      ap (λ (t : Bool). by_kinds t (λ kind. is_other kind k) own) (class-of-join f)
      ∙ rw (f, other_own) (by-sides (eqb k.variable k.variable2) own (λ s.
      ap (λ (t : Bool). implies t (holds k r r)) (own-none k (ap₂ (λ (x y : Bool). x || y) f s) v))))

-- ## The variables that can fire

module _ (plan bytes : List ℕ) (i n c : ℕ) where
  abbrev settled : ℕ → ℕ → ℕ
  settled = settled_by plan n c bytes i

  abbrev kind_holds : ℕ → ℕ → ℕ → Bool
  kind_holds kind v = other_holds plan bytes i kind v

  -- nothing is left of nothing
  settled-nothing : (kind : ℕ) → settled kind 0 ≡ 0
  unfolding settled_by
  settled-nothing kind =
      mask-nothing (λ v. bit 0 v && every (kind_holds kind v) c) n (λ v l. ap (λ (t : Bool). t && every (kind_holds kind v) c) (bit-zero v))

  pub class-inside : Classed plan n c → (b : ℕ) → b < type_places → class_in plan b < 2 ^ n
  unfolding class_mask
  class-inside classed b l = rw (classed.by_class b l) (mask_bound (λ v. every (λ q. class_holds b v (condition_in plan q)) c) n)

  settled-more : (f : ℕ → Bool) (kind : ℕ) → settled kind (mask f n) ≡ mask (λ v. f v && every (kind_holds kind v) c) n
  unfolding settled_by
  settled-more f kind =
      mask-same (λ v. bit (mask f n) v && every (kind_holds kind v) c) (λ v. f v && every (kind_holds kind v) c) n (λ v l.
      ap (λ (t : Bool). t && every (kind_holds kind v) c) (mask-inside f n v l))

  -- all kinds of tests together are one
  every-kind :
      (a t o s m w b : ℕ → Bool)
      → (((((every a c && every t c) && every o c) && every s c) && every m c) && every w c) && every b c
      ≡ every (λ q. (((((a q && t q) && o q) && s q) && m q) && w q) && b q) c
  every-kind a t o s m w b =
      ap (λ (x : Bool). ((((x && every o c) && every s c) && every m c) && every w c) && every b c) (sym (every-both a t c))
      ∙ ap (λ (x : Bool). (((x && every s c) && every m c) && every w c) && every b c) (sym (every-both (λ q. a q && t q) o c))
      ∙ ap (λ (x : Bool). ((x && every m c) && every w c) && every b c) (sym (every-both (λ q. (a q && t q) && o q) s c))
      ∙ ap (λ (x : Bool). (x && every w c) && every b c) (sym (every-both (λ q. ((a q && t q) && o q) && s q) m c))
      ∙ ap (λ (x : Bool). x && every b c) (sym (every-both (λ q. (((a q && t q) && o q) && s q) && m q) w c))
      ∙ sym (every-both (λ q. ((((a q && t q) && o q) && s q) && m q) && w q) b c)

  -- the class, and then kind by kind
  pub all_settled :
      Sound plan → Classed plan n c → c ≤ most_conditions
      → (t can : ℕ) → t < 256 → t ≡ (record_at bytes i).event_type → can ≡ class_in plan (t / types_together)
      → settled both_sides (settled 5 (settled 4 (settled 3 (settled 0 (settled 1 can))))) ≡ can_by plan n c bytes i
  unfolding class_mask can_by other_holds own_holds
  all_settled sound classed few t can h e is =
      let b = t / types_together in
      let small : b < type_places = omega arith in
      let f0 : ℕ → Bool = λ v. every (λ q. class_holds b v (condition_in plan q)) c in
      let f1 : ℕ → Bool = λ v. f0 v && every (kind_holds 1 v) c in
      let f2 : ℕ → Bool = λ v. f1 v && every (kind_holds 0 v) c in
      let f3 : ℕ → Bool = λ v. f2 v && every (kind_holds 3 v) c in
      let f4 : ℕ → Bool = λ v. f3 v && every (kind_holds 4 v) c in
      let f5 : ℕ → Bool = λ v. f4 v && every (kind_holds 5 v) c in
      ap (λ (x : ℕ). settled both_sides (settled 5 (settled 4 (settled 3 (settled 0 (settled 1 x)))))) (is ∙ classed.by_class b small)
      ∙ ap (λ (x : ℕ). settled both_sides (settled 5 (settled 4 (settled 3 (settled 0 x))))) (settled-more f0 1)
      ∙ ap (λ (x : ℕ). settled both_sides (settled 5 (settled 4 (settled 3 x)))) (settled-more f1 0)
      ∙ ap (λ (x : ℕ). settled both_sides (settled 5 (settled 4 x))) (settled-more f2 3)
      ∙ ap (λ (x : ℕ). settled both_sides (settled 5 x)) (settled-more f3 4)
      ∙ ap (λ (x : ℕ). settled both_sides x) (settled-more f4 5)
      ∙ settled-more f5 both_sides
      ∙ mask-same (λ v. f5 v && every (kind_holds both_sides v) c) (λ v. every (own_holds plan bytes i v) c) n (λ v l.
      every-kind (λ q. class_holds b v (condition_in plan q)) (kind_holds 1 v) (kind_holds 0 v) (kind_holds 3 v) (kind_holds 4 v) (kind_holds 5 v) (kind_holds both_sides v)
      ∙ every-same (λ q. by_kinds (class_holds b v (condition_in plan q)) (λ kind. is_other kind (condition_in plan q)) (own_holds plan bytes i v q)) (own_holds plan bytes i v) c (λ q m.
      by-kinds (condition_in plan q) (sound.attribute q (omega arith)) b v (record_at bytes i) (same_class t h ∙ ap class_of e)))

  -- where the types leave no variable, nothing is left at all
  pub none-settled : (can : ℕ) → can ≡ 0 → settled both_sides (settled 5 (settled 4 (settled 3 (settled 0 can)))) ≡ 0
  none-settled can e =
      ap (λ (x : ℕ). settled both_sides (settled 5 (settled 4 (settled 3 (settled 0 x))))) e
      ∙ ap (λ (x : ℕ). settled both_sides (settled 5 (settled 4 (settled 3 x)))) (settled-nothing 0)
      ∙ ap (λ (x : ℕ). settled both_sides (settled 5 (settled 4 x))) (settled-nothing 3)
      ∙ ap (λ (x : ℕ). settled both_sides (settled 5 x)) (settled-nothing 4)
      ∙ ap (settled both_sides) (settled-nothing 5)
      ∙ settled-nothing both_sides
