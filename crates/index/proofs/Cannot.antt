-- What cannot match by the block's own index is not there: the rule reports no reading. Assumes nothing.
use mathlib.Core.Path.{◌≡◌, ◌∙◌, refl, sym, ap, subst}
use mathlib.Core.Bool.{true, ◌&&◌, false≢true}
use mathlib.Core.Logic.{◌⊎◌, inl, inr, ⊎_elim}
use mathlib.Core.List.{List, [], ◌∷◌, Memᴰ}
use Prim.Native.Nat.{ℕ, ◌<◌}
use native.Mathlib.Omega.{arith}
use borrow.Author.Tests.{eq-eqb, ne_eqb, eqb-true, eqb-false}
use lib.Dec.{eqb}
use lib.IntN.{ℤ, pos, negsuc}
use Rattle.numbers.proofs.Cases.{by-test, both}
use Rattle.records.specs.declared.Record.{Record}
use Rattle.records.specs.Records.{record_at, record_count, event_kind, class_of}
use Rattle.records.specs.Blocks.{InOrder}
use Rattle.patterns.specs.declared.Condition.{Condition}
use Rattle.patterns.specs.declared.Pattern.{Pattern}
use Rattle.patterns.specs.Checked.{condition_at}
use Rattle.patterns.specs.Comparison.{value, constant_value, order_of, meets, compared_with, holds}
use Rattle.patterns.proofs.Comparison.{by-comparison, less-order, greater-order}
use Rattle.automaton.proofs.Membership.{all-mem, map-mem, upto-mem}
use Rattle.rule.specs.Rule.{Reading, Line, Report, record_in, binds, is_full}
use Rattle.rule.specs.Calls.{input_answer, pattern_in, block_in}
use Rattle.rule.proofs.EveryReading.{mem-binds}
use Rattle.rule.proofs.ReportSound.{input-report-sound}
use Rattle.rule.proofs.Report.{event-in}
use Rattle.rule.proofs.Inputs.{block-length, block-record, input-in-order}
use Rattle.index.specs.Index.{index_of, core_attribute, class_attribute, equals, lacks, rules_out, CannotMatch}
use Rattle.index.proofs.Fields.{lacks-other}
use Rattle.index.proofs.Own.{no-such-core, no-such-class}

-- ## A condition with = holds of equal numbers alone

abbrev natural : ℤ → ℕ
natural (pos n) = n
natural (negsuc n) = 0

equal-holds : (a b : ℤ) → eqb (order_of a b) 1 ≡ true → a ≡ b
equal-holds a b h =
    let o = eqb-true (order_of a b) 1 h in
    by-comparison a b
    (λ l. let e = less-order a b l in absurd (omega arith))
    (λ e. e)
    (λ g. let e = greater-order a b g in absurd (omega arith))

module _ (k : Condition) (r s : Record) (constant : k.form ≡ 0) (equal : k.operator ≡ equals) (held : holds k r s ≡ true) where
  with-constant : compared_with k s ≡ constant_value k.attribute k.constant
  unfolding compared_with
  with-constant = rw (eq-eqb k.form 0 constant, compared_with)

  holds-equal : holds k r s ≡ eqb (order_of (value k.attribute r) (compared_with k s)) 1
  unfolding holds
  holds-equal = ap (λ (o : ℕ). meets o (order_of (value k.attribute r) (compared_with k s))) equal

  meets-constant : value k.attribute r ≡ constant_value k.attribute k.constant
  meets-constant = equal-holds (value k.attribute r) (compared_with k s) (sym holds-equal ∙ held) ∙ with-constant

  natural-part : {a b : ℕ} → value k.attribute r ≡ pos a → constant_value k.attribute k.constant ≡ pos b → a ≡ b
  natural-part e f = ap natural (sym e ∙ meets-constant ∙ f)

  core-of : k.attribute ≡ core_attribute → r.core ≡ k.constant
  unfolding value constant_value
  core-of e =
      natural-part (rw (eq-eqb k.attribute 0 e, value))
      (rw (ne_eqb k.attribute 4 (λ z. omega arith), constant_value))

  class-of : k.attribute ≡ class_attribute → class_of r.event_type ≡ k.constant
  unfolding value constant_value
  class-of e =
      natural-part
      (rw (ne_eqb k.attribute 0 (λ z. omega arith), ne_eqb k.attribute 1 (λ z. omega arith), eq-eqb k.attribute 2 e, value))
      (rw (ne_eqb k.attribute 4 (λ z. omega arith), constant_value))

-- ## No event meets a condition that the block's own index rules out

module _ (block : List ℕ) (ordered : InOrder block) (k : Condition) (out : rules_out (index_of block) k ≡ true) where
  asked : (k.form ≡ 0) × (k.operator ≡ equals) × (lacks (index_of block) k.attribute k.constant ≡ true)
  unfolding rules_out
  asked =
      let q = both (eqb k.form 0) (eqb k.operator equals && lacks (index_of block) k.attribute k.constant) out in
      let r = both (eqb k.operator equals) (lacks (index_of block) k.attribute k.constant) q.1 in
      (eqb-true k.form 0 q.0, eqb-true k.operator equals r.0, r.1)

  -- it is on core or on class
  core-or-class : (k.attribute ≡ core_attribute) ⊎ (k.attribute ≡ class_attribute)
  core-or-class =
      by-test (eqb k.attribute core_attribute)
      (λ t. inl (eqb-true k.attribute core_attribute t))
      (λ f. by-test (eqb k.attribute class_attribute)
      (λ t. inr (eqb-true k.attribute class_attribute t))
      (λ g. absurd (false≢true (sym (lacks-other (index_of block) k.attribute k.constant (eqb-false k.attribute core_attribute f) (eqb-false k.attribute class_attribute g)) ∙ asked.2))))

  pub never_met :
      (i : ℕ) (s : Record) → i < record_count block → (record_at block i).kind ≡ event_kind
      → ¬ (holds k (record_at block i) s ≡ true)
  never_met i s l event held =
      ⊎_elim
      (λ e.
      no-such-core block ordered k.constant (subst (λ (a : ℕ). lacks (index_of block) a k.constant ≡ true) e asked.2) i l event
      (core-of k (record_at block i) s asked.0 asked.1 held e))
      (λ e.
      no-such-class block ordered k.constant (subst (λ (a : ℕ). lacks (index_of block) a k.constant ≡ true) e asked.2) i l event
      (class-of k (record_at block i) s asked.0 asked.1 held e))
      core-or-class

  constant-form : k.form ≡ 0
  constant-form = asked.0

-- ## Nothing is reported

module _ (pattern block : List ℕ) (accepted : (input_answer pattern block).code ≡ 0)
    (cannot : CannotMatch (pattern_in pattern) (index_of block)) where
  abbrev p : Pattern
  p = pattern_in pattern

  abbrev k : Condition
  k = condition_at p cannot.which

  full-binds : (r : Reading) (v : ℕ) → v < p.n → is_full p r ≡ true → binds r v ≡ true
  unfolding is_full
  full-binds r v l full = all-mem (binds r) (upto-mem 0 p.n v (omega arith) (omega arith)) full

  no_line : (J : ℕ) (l : List Line) → Report p (block_in block) J l → (x : Line) → ¬ Memᴰ x l
  no_line J l report x m =
      let q = input-in-order pattern block accepted in
      let sound = input-report-sound pattern block accepted J l report x m in
      let variable = q.checked.variable cannot.which cannot.given in
      let b = mem-binds x.reading k.variable (full-binds x.reading k.variable variable (report.sound x m).full) in
      let i = b.0.at in
      let event = sound.event b.0 b.1 in
      let inside = event-in p (block_in block) i event in
      let l : i < record_count block = omega (arith, block-length block) in
      let same = block-record block i l in
      let among = map-mem (condition_at p) (upto-mem 0 p.c cannot.which (omega arith) (omega (arith, cannot.given))) in
      let held = sound.constant k among (constant-form block q.ordered k cannot.without) b.0 b.1 b.2 in
      never_met block q.ordered k cannot.without i (record_in (block_in block) i) l
      (ap (λ (r : Record). r.kind) (sym same) ∙ event)
      (ap (λ (r : Record). holds k r (record_in (block_in block) i)) (sym same) ∙ held)

  -- for the index that the maker writes, "cannot match" means that the rule reports no reading
  pub cannot-match-empty : (J : ℕ) (l : List Line) → Report p (block_in block) J l → l ≡ []
  cannot-match-empty J [] report = refl
  cannot-match-empty J (x ∷ l) report = absurd (no_line J (x ∷ l) report x (Memᴰ.head refl))
