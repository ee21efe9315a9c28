-- A mask of variables, settled condition by condition: by conditions that look at one event alone, and by those on
-- class. Assumes nothing.
use Rattle.automaton.proofs.All.{implies-yes}
use Rattle.std.proofs.Common.{◌≡◌, ◌∙◌, refl, sym, ap, ap₂, Bool, true, false, not, ◌&&◌, ◌||◌, ℕ, ◌+◌, ◌-◌, ◌*◌, ◌^◌}
use Rattle.std.proofs.Common.{eqb, pos}
use mathlib.Core.Bool.{and-true, and_self}
use borrow.Author.Tests.{eq-eqb, ne_eqb, eqb-true, eqb-false}
use Rattle.numbers.specs.Numbers.{every, one_if}
use Rattle.numbers.specs.Bits.{bit, mask}
use Rattle.numbers.proofs.Cases.{by-test, both, neither}
use Rattle.numbers.proofs.Every.{every-none, every_more}
use Rattle.numbers.proofs.Bits.{mask-same, mask-all, mask-without}
use Rattle.records.specs.declared.Record.{Record}
use Rattle.records.specs.Records.{class_of}
use Rattle.patterns.specs.declared.Condition.{Condition}
use Rattle.patterns.specs.Comparison.{value, constant_value, order_of, meets, holds, raise}
use Rattle.patterns.proofs.Comparison.{compared-constant, raised-holds}
use Rattle.automaton.specs.Filtering.{implies}
use Rattle.plans.specs.Plan.{is_own, class_attribute, on_class, is_on_class, settled, settled_on_class, sample_of}
use Rattle.plans.specs.Plan.{class_holds, class_mask}

module _ (can : ℕ) (k : Condition) (r : Record) where
  pub settled-join : eqb k.form 0 || eqb k.variable k.variable2 ≡ false → settled can k r ≡ can
  unfolding settled
  settled-join e = rw (e, settled)

  pub settled-holds :
      eqb k.form 0 || eqb k.variable k.variable2 ≡ true → holds k r r ≡ true → settled can k r ≡ can
  unfolding settled
  settled-holds e f = rw (e, f, settled)

  pub settled-fails :
      eqb k.form 0 || eqb k.variable k.variable2 ≡ true → holds k r r ≡ false
      → settled can k r ≡ can - one_if (bit can k.variable) * 2 ^ k.variable
  unfolding settled
  settled-fails e f = rw (e, f, settled)

swapped : (s t : Bool) → s && t ≡ t && s
swapped true true = refl
swapped true false = refl
swapped false true = refl
swapped false false = refl

implies-not : (t : Bool) → implies t false ≡ not t
implies-not true = refl
implies-not false = refl

module _ (k : Condition) where
  -- a condition that looks at one event alone looks at its variable's
  own_of : eqb k.form 0 || eqb k.variable k.variable2 ≡ true → (v : ℕ) → is_own v k ≡ eqb k.variable v
  unfolding is_own
  own_of e v =
      by-test (eqb k.form 0)
      (λ f. rw f (and-true (eqb k.variable v)))
      (λ f.
      let same = eqb-true k.variable k.variable2 (sym (ap (λ (t : Bool). t || eqb k.variable k.variable2) f) ∙ e) in
      rw f (ap (λ (u : ℕ). eqb k.variable v && eqb u v) (sym same) ∙ and_self (eqb k.variable v)))

  -- any other is no variable's own
  pub own-none : eqb k.form 0 || eqb k.variable k.variable2 ≡ false → (v : ℕ) → is_own v k ≡ false
  unfolding is_own
  own-none e v =
      let n = neither (eqb k.form 0) (eqb k.variable k.variable2) e in
      by-test (eqb k.variable v)
      (λ f. rw (f, n.0) (ne_eqb k.variable2 v (λ q. eqb-false k.variable k.variable2 n.1 (eqb-true k.variable v f ∙ sym q))))
      (λ f. rw f)

  module _ (f : ℕ → Bool) (n : ℕ) (r : Record) where
    abbrev more : ℕ → Bool
    more v = f v && implies (is_own v k) (holds k r r)

    pub settled-mask : settled (mask f n) k r ≡ mask more n
    settled-mask =
        by-test (eqb k.form 0 || eqb k.variable k.variable2)
        (λ e. by-test (holds k r r)
        (λ h. settled-holds (mask f n) k r e h ∙ mask-same f more n (λ v l. sym (ap (λ (t : Bool). f v && implies (is_own v k) t) h ∙ ap (λ (t : Bool). f v && t) (implies-yes (is_own v k)) ∙ and-true (f v))))
        (λ h.
        settled-fails (mask f n) k r e h
        ∙ mask-without f n k.variable
        ∙ mask-same (λ v. not (eqb k.variable v) && f v) more n (λ v l.
        swapped (not (eqb k.variable v)) (f v)
        ∙ ap (λ (t : Bool). f v && t) (sym (ap₂ implies (own_of e v) h ∙ implies-not (eqb k.variable v))))))
        (λ e.
        settled-join (mask f n) k r e
        ∙ mask-same f more n (λ v l. sym (ap (λ (t : Bool). f v && implies t (holds k r r)) (own-none e v) ∙ and-true (f v))))

-- ## The conditions on class

module _ (can : ℕ) (k : Condition) (r : Record) where
  pub on-class-settled : is_on_class k ≡ true → settled_on_class can k r ≡ settled can k r
  unfolding settled_on_class
  on-class-settled e = rw (e, settled_on_class)

  pub off-class-settled : is_on_class k ≡ false → settled_on_class can k r ≡ can
  unfolding settled_on_class
  off-class-settled e = rw (e, settled_on_class)

module _ (k : Condition) (on : is_on_class k ≡ true) where
  pub class-form : k.form ≡ 0
  unfolding on_class
  class-form = eqb-true k.form 0 (both (eqb k.form 0) (eqb k.attribute class_attribute) on).0

  pub class-attribute : k.attribute ≡ class_attribute
  unfolding on_class
  class-attribute = eqb-true k.attribute class_attribute (both (eqb k.form 0) (eqb k.attribute class_attribute) on).1

  -- where x is the class of the event and y the constant, both raised
  module _ (can x y : ℕ) (r : Record) (first : x ≡ raise (pos (class_of r.event_type)))
      (second : y ≡ raise (constant_value class_attribute k.constant)) where
    raised-class-holds : meets k.operator (order_of (pos x) (pos y)) ≡ holds k r r
    unfolding value
    raised-class-holds =
        raised-holds k r r x y
        (first ∙ ap (λ (a : ℕ). raise (value a r)) (sym class-attribute))
        (second ∙ ap (λ (a : ℕ). raise (constant_value a k.constant)) (sym class-attribute) ∙ ap raise (sym (compared-constant k r class-form)))

    alone : eqb k.form 0 || eqb k.variable k.variable2 ≡ true
    alone = ap (λ (t : Bool). t || eqb k.variable k.variable2) (eq-eqb k.form 0 class-form)

    pub class-kept : meets k.operator (order_of (pos x) (pos y)) ≡ true → settled_on_class can k r ≡ can
    class-kept e = on-class-settled can k r on ∙ settled-holds can k r alone (sym raised-class-holds ∙ e)

    pub class-lost :
        meets k.operator (order_of (pos x) (pos y)) ≡ false
        → settled_on_class can k r ≡ can - one_if (bit can k.variable) * 2 ^ k.variable
    class-lost e = on-class-settled can k r on ∙ settled-fails can k r alone (sym raised-class-holds ∙ e)

on-class-mask :
    (f : ℕ → Bool) (n : ℕ) (k : Condition) (r : Record)
    → settled_on_class (mask f n) k r ≡ mask (λ v. f v && implies (is_on_class k) (implies (is_own v k) (holds k r r))) n
on-class-mask f n k r =
    let asked : Bool → ℕ → Bool = λ t v. f v && implies t (implies (is_own v k) (holds k r r)) in
    by-test (is_on_class k)
    (λ e. on-class-settled (mask f n) k r e ∙ settled-mask k f n r ∙ ap (λ (t : Bool). mask (asked t) n) (sym e))
    (λ e.
    off-class-settled (mask f n) k r e
    ∙ mask-same f (asked false) n (λ v l. sym (and-true (f v)))
    ∙ ap (λ (t : Bool). mask (asked t) n) (sym e))

module _ (condition : ℕ → Condition) (n b : ℕ) where
  pub class-none : 2 ^ n - 1 ≡ class_mask condition n 0 b
  unfolding class_mask
  class-none = sym (mask-all (λ v. every (λ i. class_holds b v (condition i)) 0) n (λ v. every-none (λ i. class_holds b v (condition i))))

  pub class-more :
      (can q s : ℕ) → can ≡ class_mask condition n q b → s ≡ settled_on_class can (condition q) (sample_of b)
      → s ≡ class_mask condition n (q + 1) b
  unfolding class_mask class_holds
  class-more can q s c f =
      f
      ∙ ap (λ (x : ℕ). settled_on_class x (condition q) (sample_of b)) c
      ∙ on-class-mask (λ v. every (λ i. class_holds b v (condition i)) q) n (condition q) (sample_of b)
      ∙ mask-same (λ v. every (λ i. class_holds b v (condition i)) q && class_holds b v (condition q)) (λ v. every (λ i. class_holds b v (condition i)) (q + 1)) n (λ v l. sym (every_more (λ i. class_holds b v (condition i)) q))
