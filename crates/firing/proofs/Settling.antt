-- A mask of variables, settled by the conditions of a kind, whose bits are taken one by one. Assumes nothing.
use Rattle.std.proofs.Common.{◌≡◌, ◌∙◌, refl, sym, ap, ap₂, Bool, true, false, not, ◌&&◌, ◌||◌, List, ℕ, suc, ◌-◌}
use Rattle.std.proofs.Common.{◌*◌, ◌^◌, ◌≤◌, ◌<◌, lt_of_le_of_lt, sub-le, pow-suc, one-mul, zero-mul, arith, bit_and}
use Rattle.std.proofs.Common.{eqb, ltb, pos, pow_pos, pow_mono}
use mathlib.Core.Bool.{and-true, and-false, and_assoc, or-true}
use borrow.Author.Tests.{eq-eqb, ne_eqb, eqb-true, eqb-false}
use lib.Bits.{and_le_r}
use Rattle.numbers.specs.Numbers.{every, one_if}
use Rattle.numbers.specs.Bits.{bit, mask}
use Rattle.numbers.proofs.Cases.{by-test, by_order, both, same_test}
use Rattle.numbers.proofs.Every.{every_of, every_true, every-same}
use Rattle.numbers.proofs.Bits.{bit_high, bit-zero, bit-and, bit-weight, bits-same, mask_bound, mask-inside, mask-bit}
use Rattle.numbers.proofs.Bits.{mask-same, mask-of-bits}
use Rattle.records.specs.declared.Record.{Record}
use Rattle.records.specs.Records.{record_at}
use Rattle.patterns.specs.declared.Condition.{Condition}
use Rattle.patterns.specs.Patterns.{last_attribute}
use Rattle.patterns.specs.Comparison.{value, raise, constant_value, compared_with, order_of, meets, holds}
use Rattle.patterns.proofs.Comparison.{compared-constant, compared-value, raised-holds}
use Rattle.automaton.specs.Filtering.{implies}
use Rattle.automaton.proofs.Membership.{clash}
use Rattle.plans.specs.Plan.{class_attribute, other_own, is_other, other_mask, both_sides, condition_in, others_in}
use Rattle.plans.specs.Plan.{settled, Classed}
use Rattle.plans.proofs.Own.{settled-holds, settled-fails, settled-mask}
use Rattle.firing.specs.Firing.{own_holds, other_holds, settled_order, settled_by, Settling}
use Rattle.firing.proofs.Joins.{less-bit}

-- ## The bits that are left

module _ (rest c at : ℕ) (small : rest < 2 ^ c) (here : bit rest at ≡ true) where
  pub bit_below : at < c
  bit_below = by_order at c (λ l. l) (λ l. clash here (bit_high rest c at small l))

  -- one bit less is one test more
  every-less : (h : ℕ → Bool) → every (λ q. bit rest q || h q) c && h at ≡ every (λ q. bit (rest - 2 ^ at) q || h q) c
  every-less h =
      let f : ℕ → Bool = λ q. bit rest q || h q in
      let g : ℕ → Bool = λ q. bit (rest - 2 ^ at) q || h q in
      let less : (q : ℕ) → bit (rest - 2 ^ at) q ≡ not (eqb at q) && bit rest q = λ q. less-bit rest c at q small here in
      same_test (every f c && h at) (every g c)
      (λ e.
      let p = both (every f c) (h at) e in
      every_of g c (λ q l.
      by-test (eqb at q)
      (λ t. ap (λ (s : Bool). bit (rest - 2 ^ at) q || s) (ap h (sym (eqb-true at q t)) ∙ p.1) ∙ or-true (bit (rest - 2 ^ at) q))
      (λ t. ap (λ (s : Bool). s || h q) (less q ∙ ap (λ (s : Bool). not s && bit rest q) t) ∙ every_true f c p.0 q l)))
      (λ e.
      ap₂ (λ (s t : Bool). s && t)
      (every_of f c (λ q l.
      by-test (bit rest q)
      (λ t. ap (λ (s : Bool). s || h q) t)
      (λ t.
      let gone : bit (rest - 2 ^ at) q ≡ false = less q ∙ ap (λ (s : Bool). not (eqb at q) && s) t ∙ and-false (not (eqb at q)) in
      ap (λ (s : Bool). s || h q) (t ∙ sym gone) ∙ every_true g c e q l)))
      (let gone : bit (rest - 2 ^ at) at ≡ false = less at ∙ ap (λ (s : Bool). not s && bit rest at) (eq-eqb at at refl) in
      sym (ap (λ (s : Bool). s || h at) gone) ∙ every_true g c e at bit_below))

-- ## Conditions of a kind

or-implies : (t x : Bool) → t || implies t x ≡ true
or-implies true x = refl
or-implies false x = refl

-- a mask of conditions of a kind
pub record OfKind (plan : List ℕ) (kind rest : ℕ) : Type 0 where
  pub each : (q : ℕ) → bit rest q ≡ true → is_other kind (condition_in plan q) ≡ true

module _ (plan bytes : List ℕ) (i n c kind can : ℕ) where
  -- the variables of `can` whose conditions of the kind hold of record i, but for those whose bits are left
  abbrev pub left_by : ℕ → ℕ
  left_by rest = mask (λ v. bit can v && every (λ q. bit rest q || other_holds plan bytes i kind v q) c) n

  module _ (classed : Classed plan n c) (known : kind ≤ both_sides) where
    pub others-bound : others_in plan kind < 2 ^ c
    unfolding other_mask
    others-bound = rw (classed.others kind known) (mask_bound (λ q. is_other kind (condition_in plan q)) c)

    pub others-kind : OfKind plan kind (others_in plan kind)
    unfolding other_mask
    others-kind =
        record {
          each = λ q e.
              (both (ltb q c) (is_other kind (condition_in plan q))
              (sym (mask-bit (λ j. is_other kind (condition_in plan j)) c q) ∙ ap (λ (x : ℕ). bit x q) (sym (classed.others kind known)) ∙ e)).1;
        }

    -- at first all of them are left
    pub left-first : can < 2 ^ n → can ≡ left_by (others_in plan kind)
    unfolding other_mask other_holds
    left-first small =
        sym (mask-of-bits can n small)
        ∙ mask-same (bit can) (λ v. bit can v && every (λ q. bit (others_in plan kind) q || other_holds plan bytes i kind v q) c) n (λ v l.
        sym (ap (λ (t : Bool). bit can v && t)
        (every_of (λ q. bit (others_in plan kind) q || other_holds plan bytes i kind v q) c (λ q m.
        ap (λ (t : Bool). t || other_holds plan bytes i kind v q) (ap (λ (x : ℕ). bit x q) (classed.others kind known) ∙ mask-inside (λ j. is_other kind (condition_in plan j)) c q m)
        ∙ or-implies (is_other kind (condition_in plan q)) (own_holds plan bytes i v q)))
        ∙ and-true (bit can v)))

  -- at last none of them
  pub left-all : (rest : ℕ) → rest ≡ 0 → left_by rest ≡ settled_by plan n c bytes i kind can
  unfolding settled_by
  left-all rest e =
      mask-same (λ v. bit can v && every (λ q. bit rest q || other_holds plan bytes i kind v q) c) (λ v. bit can v && every (other_holds plan bytes i kind v) c) n (λ v l.
      ap (λ (t : Bool). bit can v && t)
      (every-same (λ q. bit rest q || other_holds plan bytes i kind v q) (other_holds plan bytes i kind v) c (λ q m.
      ap (λ (t : Bool). t || other_holds plan bytes i kind v q) (ap (λ (x : ℕ). bit x q) e ∙ bit-zero q))))

  pub settled-inside : settled_by plan n c bytes i kind can < 2 ^ n
  unfolding settled_by
  settled-inside = mask_bound (λ v. bit can v && every (other_holds plan bytes i kind v) c) n

  -- a settled mask can be settled by the next kind
  pub settling-next : (x : ℕ) → Settling plan n c can bytes i → x < 2 ^ n → Settling plan n c x bytes i
  settling-next x s inside =
      record {
        sound = s.sound;
        classed = s.classed;
        variables = s.variables;
        conditions = s.conditions;
        inside = inside;
        here = s.here;
      }

  module _ (rest at : ℕ) (small : rest < 2 ^ c) (here : bit rest at ≡ true) (kinds : OfKind plan kind rest) where
    kinds-less : OfKind plan kind (rest - 2 ^ at)
    kinds-less =
        record {
          each = λ q e. kinds.each q (both (not (eqb at q)) (bit rest q) (sym (less-bit rest c at q small here) ∙ e)).1;
        }

    -- one of them settled
    left_less :
        (s : ℕ) → s ≡ settled (left_by rest) (condition_in plan at) (record_at bytes i) → s ≡ left_by (rest - 2 ^ at)
    unfolding other_holds own_holds
    left_less s e =
        e
        ∙ settled-mask (condition_in plan at) (λ v. bit can v && every (λ q. bit rest q || other_holds plan bytes i kind v q) c) n (record_at bytes i)
        ∙ mask-same (λ v. (bit can v && every (λ q. bit rest q || other_holds plan bytes i kind v q) c) && own_holds plan bytes i v at) (λ v. bit can v && every (λ q. bit (rest - 2 ^ at) q || other_holds plan bytes i kind v q) c) n (λ v l.
        and_assoc (bit can v) (every (λ q. bit rest q || other_holds plan bytes i kind v q) c) (own_holds plan bytes i v at)
        ∙ ap (λ (t : Bool). bit can v && t)
        (ap (λ (t : Bool). every (λ q. bit rest q || other_holds plan bytes i kind v q) c && t) (sym (ap (λ (t : Bool). implies t (own_holds plan bytes i v at)) (kinds.each at here)))
        ∙ every-less rest c at small here (other_holds plan bytes i kind v)))

    -- a turn of the loop
    pub rest-turn : (next : ℕ) → next ≡ rest - 2 ^ at → (next < 2 ^ c) × OfKind plan kind next
    rest-turn next e = (rw e (lt_of_le_of_lt (sub-le rest (2 ^ at)) small), rw e kinds-less)

    pub left-turn :
        (left s next : ℕ) → left ≡ left_by rest → s ≡ settled left (condition_in plan at) (record_at bytes i)
        → next ≡ rest - 2 ^ at
        → s ≡ left_by next
    left-turn left s next e f g =
        left_less s (f ∙ ap (λ (x : ℕ). settled x (condition_in plan at) (record_at bytes i)) e) ∙ ap left_by (sym g)

-- ## What the raised numbers settle

module _ (k : Condition) (own : eqb k.form 0 || eqb k.variable k.variable2 ≡ true) (can x y : ℕ)
    (r : Record) where
  pub order-settled :
      x ≡ raise (value k.attribute r) → y ≡ raise (compared_with k r) → settled_order can k x y ≡ settled can k r
  unfolding settled_order
  order-settled e f =
      let same = raised-holds k r r x y e f in
      by-test (holds k r r)
      (λ h. rw (same ∙ h, settled_order) (sym (settled-holds can k r own h)))
      (λ h. rw (same ∙ h, settled_order) (sym (settled-fails can k r own h)))

module _ (kind : ℕ) (k : Condition) (known : kind < both_sides) (is : is_other kind k ≡ true) where
  -- they are of form 0
  other-form : k.form ≡ 0
  unfolding other_own
  other-form =
      by-test (eqb k.form 0)
      (λ f. eqb-true k.form 0 f)
      (λ f. clash is (rw (f, ne_eqb kind both_sides (λ e. omega arith), other_own)))

  other-attribute : k.attribute ≡ kind
  unfolding other_own
  other-attribute =
      let asked : eqb k.attribute kind && not (eqb k.attribute class_attribute) ≡ true = rw (eq-eqb k.form 0 other-form, other_own) at is in
      eqb-true k.attribute kind (both (eqb k.attribute kind) (not (eqb k.attribute class_attribute)) asked).0

  -- an attribute beside the constant
  pub value-settled :
      (can x y : ℕ) (r : Record) → x ≡ raise (value kind r) → y ≡ raise (constant_value kind k.constant)
      → settled_order can k x y ≡ settled can k r
  value-settled can x y r e f =
      order-settled k
      (ap (λ (t : Bool). t || eqb k.variable k.variable2) (eq-eqb k.form 0 other-form))
      can x y r
      (e ∙ ap (λ (a : ℕ). raise (value a r)) (sym other-attribute))
      (f ∙ ap (λ (a : ℕ). raise (constant_value a k.constant)) (sym other-attribute) ∙ ap raise (sym (compared-constant k r other-form)))

module _ (k : Condition) (is : is_other both_sides k ≡ true) (few : k.attribute ≤ last_attribute) where
  -- they are of form 1, with one variable
  sides-form : eqb k.form 0 ≡ false
  unfolding other_own
  sides-form =
      by-test (eqb k.form 0)
      (λ f. clash is (rw (f, ne_eqb k.attribute both_sides (λ e. omega arith), other_own)))
      (λ f. f)

  sides-own : eqb k.form 0 || eqb k.variable k.variable2 ≡ true
  unfolding other_own
  sides-own = let asked : eqb both_sides both_sides && eqb k.variable k.variable2 ≡ true = rw (sides-form, other_own) at is in rw (sides-form, asked)

  -- two attributes of the event
  pub sides-settled :
      (can x y : ℕ) (r : Record) → x ≡ raise (value k.attribute r) → y ≡ raise (value k.attribute2 r)
      → settled_order can k x y ≡ settled can k r
  sides-settled can x y r e f =
      order-settled k sides-own can x y r e
      (f ∙ ap raise (sym (compared-value k r (eqb-false k.form 0 sides-form))))

-- ## A variable taken out of a mask

and-weight : (a v : ℕ) → bit_and a (2 ^ v) ≡ one_if (bit a v) * 2 ^ v
and-weight a v =
    let weight : (u : ℕ) → bit (bit_and a (2 ^ v)) u ≡ bit a u && eqb v u = λ u. bit-and a (2 ^ v) u ∙ ap (λ (t : Bool). bit a u && t) (bit-weight v u) in
    let low : bit_and a (2 ^ v) < 2 ^ suc v = omega (arith, and_le_r a (2 ^ v), pow-suc 2 v, pow_pos v) in
    by-test (bit a v)
    (λ e. rw e
    (bits-same (bit_and a (2 ^ v)) (1 * 2 ^ v) (suc v) low (omega (arith, pow-suc 2 v, pow_pos v)) (λ u l.
    weight u
    ∙ by-test (eqb v u)
    (λ s. ap₂ (λ (x y : Bool). x && y) (ap (bit a) (sym (eqb-true v u s)) ∙ e) s ∙ sym (ap (λ (x : ℕ). bit x u) (one-mul (2 ^ v)) ∙ bit-weight v u ∙ s))
    (λ s. ap (λ (t : Bool). bit a u && t) s ∙ and-false (bit a u) ∙ sym (ap (λ (x : ℕ). bit x u) (one-mul (2 ^ v)) ∙ bit-weight v u ∙ s)))))
    (λ e. rw e
    (bits-same (bit_and a (2 ^ v)) (0 * 2 ^ v) (suc v) low (omega (arith, pow_pos (suc v))) (λ u l.
    weight u
    ∙ by-test (eqb v u)
    (λ s. ap (λ (t : Bool). t && eqb v u) (ap (bit a) (sym (eqb-true v u s)) ∙ e) ∙ sym (ap (λ (x : ℕ). bit x u) (zero-mul (2 ^ v)) ∙ bit-zero u))
    (λ s. ap (λ (t : Bool). bit a u && t) s ∙ and-false (bit a u) ∙ sym (ap (λ (x : ℕ). bit x u) (zero-mul (2 ^ v)) ∙ bit-zero u)))))

-- the weight of a variable, or nothing, fits
pub weight-fits : (t : Bool) (v : ℕ) → v < 16 → one_if t * 2 ^ v < 2 ^ 64
weight-fits true v l = let m : v ≤ 16 = omega arith in omega (arith, one-mul (2 ^ v), pow_mono m)
weight-fits false v l = omega (arith, zero-mul (2 ^ v))

-- taken out where the test fails
pub taken_out :
    (can : ℕ) (k : Condition) (x y lost : ℕ)
    → lost ≡ one_if (not (meets k.operator (order_of (pos x) (pos y)))) * 2 ^ k.variable
    → can - bit_and can lost ≡ settled_order can k x y
unfolding settled_order
taken_out can k x y lost e =
    by-test (meets k.operator (order_of (pos x) (pos y)))
    (λ h.
    let none : lost ≡ 0 = e ∙ ap (λ (t : Bool). one_if (not t) * 2 ^ k.variable) h ∙ zero-mul (2 ^ k.variable) in
    rw (h, settled_order) (omega (arith, ap (bit_and can) none, and_le_r can 0)))
    (λ h.
    let one : lost ≡ 2 ^ k.variable = e ∙ ap (λ (t : Bool). one_if (not t) * 2 ^ k.variable) h ∙ one-mul (2 ^ k.variable) in
    rw (h, settled_order) (ap (λ (y : ℕ). can - y) (ap (bit_and can) one ∙ and-weight can k.variable)))
