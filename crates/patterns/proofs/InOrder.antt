-- A checked pattern is in order: what the check accepts keeps the rules of the bytes. Assumes nothing.
use Rattle.std.proofs.Common.{◌≡◌, ◌∙◌, refl, sym, ap, subst, false, not, List, Ok, ℕ, zero, suc, ◌+◌, ◌≤◌, ◌<◌}
use Rattle.std.proofs.Common.{arith, ltb-false, leb-false, eqb-true, ne_eqb, eqb, leb, length}
use native.Mathlib.Numerals.{unary_clauses}
use borrow.Author.Tests.{eqb-false}
use Rattle.numbers.specs.Numbers.{count}
use Rattle.numbers.proofs.Cases.{by-test, by_order, neither, not-not}
use Rattle.numbers.proofs.Count.{count-ext}
use Rattle.numbers.proofs.First.{first-fails}
use Rattle.patterns.specs.declared.Checked.{Checked}
use Rattle.patterns.specs.declared.Condition.{Condition}
use Rattle.patterns.specs.declared.Pattern.{Pattern}
use Rattle.patterns.specs.Patterns.{header_bytes, most_variables, most_conditions, most_sets, most_in_set}
use Rattle.patterns.specs.Patterns.{last_attribute, last_operator, header_broken, variable_count, condition_count}
use Rattle.patterns.specs.Patterns.{set_number, members, least_set, greatest_set, variable_broken, condition_of}
use Rattle.patterns.specs.Patterns.{condition_word, condition_zero, condition_broken, form_broken}
use Rattle.patterns.specs.Checked.{pattern_up_to, pattern_of, refused, first_bad_variable, first_bad_condition}
use Rattle.patterns.specs.Checked.{pattern_answer, checked_of, condition_at, set_of, InOrder}
use Rattle.patterns.proofs.Filled.{filled_at}
use Rattle.patterns.proofs.Answers.{header-in-order, whole_length, answer-short, answer-header, answer-length}
use Rattle.patterns.proofs.Answers.{answer-variable, answer-condition, answer-pattern}

-- ## What the check has found of a pattern that it accepts

pub record Accepted (bytes : List ℕ) : Type 0 where
  pub long : header_bytes ≤ length bytes
  pub head : header_broken bytes ≡ false
  pub whole : length bytes ≡ whole_length bytes
  pub variables : variable_count bytes ≤ first_bad_variable bytes
  pub conditions : condition_count bytes ≤ first_bad_condition bytes

not-refused : {P : Type 0} (a : Checked) (code place : ℕ) → a ≡ refused (suc code) place → a.code ≡ 0 → P
not-refused a code place e z = let r = ap (λ (b : Checked). b.code) e in absurd (omega arith)

pub accepted : (bytes : List ℕ) → (pattern_answer bytes).code ≡ 0 → Accepted bytes
accepted bytes z =
    by_order (length bytes) header_bytes
    (λ h. not-refused (pattern_answer bytes) 0 0 (answer-short bytes h) z)
    (λ long. by-test (header_broken bytes)
    (λ h. not-refused (pattern_answer bytes) 1 0 (answer-header bytes long h) z)
    (λ head. by-test (eqb (length bytes) (whole_length bytes))
    (λ h. let whole = eqb-true (length bytes) (whole_length bytes) h in
    by_order (first_bad_variable bytes) (variable_count bytes)
    (λ l. not-refused (pattern_answer bytes) 2 (first_bad_variable bytes) (answer-variable bytes long head whole (first_bad_variable bytes) refl l) z)
    (λ variables. by_order (first_bad_condition bytes) (condition_count bytes)
    (λ l. not-refused (pattern_answer bytes) 3 (first_bad_condition bytes) (answer-condition bytes long head whole variables (first_bad_condition bytes) refl l) z)
    (λ conditions. record { long = long; head = head; whole = whole; variables = variables; conditions = conditions })))
    (λ h. not-refused (pattern_answer bytes) 0 0 (answer-length bytes long head (eqb-false (length bytes) (whole_length bytes) h)) z)))

pub accepted-pattern : (bytes : List ℕ) → (pattern_answer bytes).code ≡ 0 → (pattern_answer bytes).pattern ≡ pattern_of bytes
accepted-pattern bytes z =
    let a = accepted bytes z in
    ap (λ (b : Checked). b.pattern) (answer-pattern bytes a.long a.head a.whole a.variables a.conditions)

-- ## A variable and a condition that keep their rules

record VariableInOrder (bytes : List ℕ) (v : ℕ) : Type 0 where
  least : least_set bytes v ≤ set_number bytes v
  greatest : set_number bytes v ≤ greatest_set bytes v
  few_sets : set_number bytes v ≤ most_sets
  small_set : members bytes (set_number bytes v) (suc v) ≤ most_in_set

variable-in-order : (bytes : List ℕ) (v : ℕ) → variable_broken bytes v ≡ false → VariableInOrder bytes v
unfolding variable_broken
variable-in-order bytes v h =
    let h1 = neither _ _ h in
    let h2 = neither _ _ h1.1 in
    let h3 = neither _ _ h2.1 in
    let h4 = neither _ _ h3.1 in
    record {
      least = ltb-false _ _ h1.0;
      greatest = ltb-false _ _ h2.0;
      few_sets = ltb-false _ _ h3.0;
      small_set = ltb-false _ _ h4.0;
    }

record ConditionInOrder (n : ℕ) (k : Condition) : Type 0 where
  variable : k.variable < n
  attribute : k.attribute ≤ last_attribute
  operator : k.operator ≤ last_operator
  form : k.form ≤ 1
  variable2 : k.variable2 < n
  attribute2 : k.attribute2 ≤ last_attribute

form-one : (word : ℕ) → (condition_of word).form ≤ 1
unfolding condition_of
form-one word = omega arith

form-in-order :
    (n : ℕ) (k : Condition) → 1 ≤ n → form_broken n k ≡ false → (k.variable2 < n) × (k.attribute2 ≤ last_attribute)
unfolding form_broken
form-in-order n k some h =
    by-test (eqb k.form 0)
    (λ e. let h0 = neither _ _ (rw (e, form_broken) at h) in
    let z = eqb-true k.variable2 0 (not-not _ h0.0) in
    let y = eqb-true k.attribute2 0 (not-not _ h0.1) in
    (omega arith, omega arith))
    (λ e. let h1 = neither (not (eqb k.constant 0)) _ (rw (e, form_broken) at h) in
    let h2 = neither (leb n k.variable2) _ h1.1 in
    (leb-false n k.variable2 h2.0, ltb-false last_attribute k.attribute2 h2.1))

condition-in-order : (n word : ℕ) → 1 ≤ n → condition_broken n word ≡ false → ConditionInOrder n (condition_of word)
unfolding condition_broken
condition-in-order n word some h =
    let h1 = neither _ _ h in
    let h2 = neither _ _ h1.1 in
    let h3 = neither _ _ h2.1 in
    let h4 = neither (not (eqb (condition_zero word) 0)) _ h3.1 in
    let second = form-in-order n (condition_of word) some h4.1 in
    record {
      variable = leb-false _ _ h1.0;
      attribute = ltb-false _ _ h2.0;
      operator = ltb-false _ _ h3.0;
      form = form-one word;
      variable2 = second.0;
      attribute2 = second.1;
    }

-- ## The record of fixed room has what the bytes have

module _ (bytes : List ℕ) where
  pub set-of : (v : ℕ) → v < variable_count bytes → set_of (pattern_of bytes) v ≡ set_number bytes v
  unfolding pattern_of pattern_up_to
  set-of v h = filled_at most_variables 0 (set_number bytes) (variable_count bytes) v 0 h

  pub condition-of :
      (i : ℕ) → i < condition_count bytes → condition_at (pattern_of bytes) i ≡ condition_of (condition_word bytes i)
  unfolding pattern_of pattern_up_to condition_at
  condition-of i h =
      let at : (f : Condition → ℕ) → _ = λ (f : Condition → ℕ). filled_at most_conditions 0 (λ k. f (condition_of (condition_word bytes k))) (condition_count bytes) i 0 h in
      λ z.
      record {
        variable = at (λ k. k.variable) z;
        attribute = at (λ k. k.attribute) z;
        operator = at (λ k. k.operator) z;
        form = at (λ k. k.form) z;
        variable2 = at (λ k. k.variable2) z;
        attribute2 = at (λ k. k.attribute2) z;
        constant = at (λ k. k.constant) z;
      }

  -- ## In order

  -- every set is small, since its last variable was judged with all of it
  small-set : (m set : ℕ) → ((v : ℕ) → v < m → VariableInOrder bytes v) → members bytes set m ≤ most_in_set
  unfolding count
  small-set zero set ok = omega arith
  small-set (suc m) set ok =
      by-test (eqb (set_number bytes m) set)
      (λ e. subst (λ (s : ℕ). members bytes s (suc m) ≤ most_in_set) (eqb-true (set_number bytes m) set e) (ok m (omega arith)).small_set)
      (λ e. rw e (omega (arith, small-set m set (λ v h. ok v (omega arith)))))

  least_first : least_set bytes 0 ≡ 1
  unfolding least_set
  least_first = refl

  greatest-first : greatest_set bytes 0 ≡ 1
  unfolding greatest_set
  greatest-first = refl

  least-next : (v : ℕ) → least_set bytes (suc v) ≡ set_number bytes v
  unfolding least_set
  least-next v = rw (ne_eqb (suc v) 0 (λ e. omega arith), least_set) (simp unary_clauses)

  greatest-next : (v : ℕ) → greatest_set bytes (suc v) ≡ set_number bytes v + 1
  unfolding greatest_set
  greatest-next v = rw (ne_eqb (suc v) 0 (λ e. omega arith), greatest_set) (simp unary_clauses)

  module _ (a : Accepted bytes) where
    variable-kept : (v : ℕ) → v < variable_count bytes → VariableInOrder bytes v
    unfolding first_bad_variable
    variable-kept v h = variable-in-order bytes v (first-fails (variable_broken bytes) (variable_count bytes) v (omega (arith, a.variables)))

    condition-kept :
        (i : ℕ) → i < condition_count bytes → ConditionInOrder (variable_count bytes) (condition_at (pattern_of bytes) i)
    unfolding first_bad_condition
    condition-kept i h =
        let k = condition-in-order (variable_count bytes) (condition_word bytes i) (header-in-order bytes a.head).some
        (first-fails (λ j. condition_broken (variable_count bytes) (condition_word bytes j)) (condition_count bytes) i (omega (arith, a.conditions))) in
        subst (ConditionInOrder (variable_count bytes)) (sym (condition-of i h)) k

    set-kept :
        (v : ℕ) → suc v < variable_count bytes
        → (set_of (pattern_of bytes) v ≤ set_of (pattern_of bytes) (suc v))
        × (set_of (pattern_of bytes) (suc v) ≤ set_of (pattern_of bytes) v + 1)
    set-kept v h =
        let k = variable-kept (suc v) h in
        let here = set-of v (omega arith) in
        let next = set-of (suc v) h in
        (omega (arith, k.least, least-next v), omega (arith, k.greatest, greatest-next v))

    small-kept :
        (v : ℕ) → v < variable_count bytes
        → count (λ u. eqb (set_of (pattern_of bytes) u) (set_of (pattern_of bytes) v)) (variable_count bytes) ≤ most_in_set
    small-kept v h =
        let set = set_of (pattern_of bytes) v in
        let e = count-ext (λ u. eqb (set_of (pattern_of bytes) u) set) (λ u. eqb (set_number bytes u) set) (variable_count bytes) (λ u l. ap (λ (x : ℕ). eqb x set) (set-of u l)) in
        omega (arith, e, small-set (variable_count bytes) set variable-kept)

    pattern-in-order : InOrder (pattern_of bytes)
    unfolding pattern_of pattern_up_to
    pattern-in-order =
        let head = header-in-order bytes a.head in
        record {
          some = head.some;
          few = head.few;
          few_conditions = head.few_conditions;
          begins = let k = variable-kept 0 head.some in let e = set-of 0 head.some in omega (arith, k.least, k.greatest, least_first, greatest-first);
          climbs = set-kept;
          few_sets = λ v h. omega (arith, (variable-kept v h).few_sets, set-of v h);
          small_sets = small-kept;
          variable = λ i h. (condition-kept i h).variable;
          attribute = λ i h. (condition-kept i h).attribute;
          operator = λ i h. (condition-kept i h).operator;
          form = λ i h. (condition-kept i h).form;
          variable2 = λ i h. (condition-kept i h).variable2;
          attribute2 = λ i h. (condition-kept i h).attribute2;
        }

-- what the check accepts is in order
pub accepted-in-order : (bytes : List ℕ) → (pattern_answer bytes).code ≡ 0 → InOrder (pattern_answer bytes).pattern
accepted-in-order bytes z = subst InOrder (sym (accepted-pattern bytes z)) (pattern-in-order bytes (accepted bytes z))

-- ## A pattern that `read` gives

module _ (bytes : List ℕ) (p : Pattern) (is : checked_of (Ok p) ≡ pattern_answer bytes) where
  pub read-accepted : (pattern_answer bytes).code ≡ 0
  read-accepted = sym (ap (λ (a : Checked). a.code) is)

  pub read-pattern : p ≡ pattern_of bytes
  read-pattern = ap (λ (a : Checked). a.pattern) is ∙ accepted-pattern bytes read-accepted

  pub read-in-order : InOrder p
  read-in-order = subst (λ (a : Checked). InOrder a.pattern) (sym is) (accepted-in-order bytes read-accepted)
