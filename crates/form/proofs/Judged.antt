-- How the check judges the pattern of a text that fits: it accepts it, or refuses a variable's set. Assumes nothing.
use mathlib.Core.Path.{◌≡◌, ◌∙◌, refl, sym, ap, ap₂, subst}
use mathlib.Core.Bool.{Bool, false, not, ◌||◌}
use mathlib.Core.List.{List, [], ◌∷◌, ◌++◌, flat_map, append_assoc}
use mathlib.Core.List.{Memᴰ}
use mathlib.Core.Logic.{◌⊎◌, inl, inr}
use Prim.Native.Nat.{ℕ, zero, suc, ◌+◌, ◌*◌, ◌^◌, ◌≤◌, ◌<◌}
use native.Mathlib.Omega.{arith}
use borrow.Author.Tests.{le-ltb, eq-eqb, lt-leb}
use lib.Dec.{eqb, ltb, leb}
use lib.ListN.{length, length-append}
use Rattle.numbers.specs.Numbers.{number, field}
use Rattle.numbers.specs.Bytes.{word_bytes}
use Rattle.numbers.proofs.Cases.{by_order}
use Rattle.numbers.proofs.First.{first-none}
use Rattle.patterns.specs.declared.Checked.{Checked}
use Rattle.patterns.specs.declared.Condition.{Condition}
use Rattle.patterns.specs.Patterns.{header, header_broken, edition, variable_count, condition_count, header_zero, duration}
use Rattle.patterns.specs.Patterns.{most_variables, most_conditions, last_attribute, last_operator}
use Rattle.patterns.specs.Patterns.{condition_of, condition_zero, condition_word, condition_broken, form_broken}
use Rattle.patterns.specs.Checked.{pattern_answer, first_bad_variable, first_bad_condition}
use Rattle.patterns.proofs.Answers.{whole_length, answer-variable, answer-pattern}
use Rattle.form.specs.Form.{Member, Side, Operand, constant, other, When, Making, names}
use Rattle.form.specs.Form.{OperandInOrder, WhenInOrder, InOrder}
use Rattle.form.specs.Packed.{condition_in, condition_bits, when_bits, member_bytes, header_bits}
use Rattle.form.specs.Packed.{pattern_bytes, Fits}
use Rattle.numbers.proofs.WordBytes.{word_first, word-behind, word-length}
use Rattle.form.proofs.Fields.{WithinBits, condition-bound, condition-zero, condition-fields}
use Rattle.form.proofs.Fields.{header-bound, header-edition, header-variables, header-conditions, header-zero}
use Rattle.form.proofs.Fields.{header-duration}
use Rattle.form.proofs.Meaning.{constant-fits}
use Rattle.form.proofs.Places.{variable-bound}
use Rattle.form.proofs.Sizes.{member-length, pattern-length}

-- ## Conditions

none-of-five :
    (a b c d e : Bool) → a ≡ false → b ≡ false → c ≡ false → d ≡ false → e ≡ false
    → a || (b || (c || (d || e))) ≡ false
none-of-five a b c d e p q r s t = λ i. p i || (q i || (r i || (s i || t i)))

-- a condition whose fields name what there is
pub record Sound (n : ℕ) (k : Condition) : Type 0 where
  pub variable : k.variable < n
  pub attribute : k.attribute ≤ last_attribute
  pub operator : k.operator ≤ last_operator
  pub form : form_broken n k ≡ false
  pub within : WithinBits k

sound-kept : (n : ℕ) (k : Condition) → Sound n k → condition_broken n (condition_bits k) ≡ false
unfolding condition_broken
sound-kept n k s =
    let same = condition-fields k s.within in
    none-of-five (leb n (condition_of (condition_bits k)).variable) (ltb last_attribute (condition_of (condition_bits k)).attribute)
    (ltb last_operator (condition_of (condition_bits k)).operator) (not (eqb (condition_zero (condition_bits k)) 0))
    (form_broken n (condition_of (condition_bits k)))
    (ap (λ (j : Condition). leb n j.variable) same ∙ lt-leb n k.variable s.variable)
    (ap (λ (j : Condition). ltb last_attribute j.attribute) same ∙ le-ltb last_attribute k.attribute s.attribute)
    (ap (λ (j : Condition). ltb last_operator j.operator) same ∙ le-ltb last_operator k.operator s.operator)
    (ap not (eq-eqb (condition_zero (condition_bits k)) 0 (condition-zero k s.within)))
    (ap (form_broken n) same ∙ s.form)

form-constant :
    (n : ℕ) (k : Condition) → k.form ≡ 0 → k.variable2 ≡ 0 → k.attribute2 ≡ 0 → form_broken n k ≡ false
unfolding form_broken
form-constant n k e v a =
    rw (e, form_broken) (λ i. not (eq-eqb k.variable2 0 v i) || not (eq-eqb k.attribute2 0 a i))

form-other :
    (n : ℕ) (k : Condition) → k.form ≡ 1 → k.constant ≡ 0 → k.variable2 < n → k.attribute2 ≤ last_attribute
    → form_broken n k ≡ false
unfolding form_broken
form-other n k e z v a =
    rw (e, form_broken)
    (λ i. not (eq-eqb k.constant 0 z i) || (lt-leb n k.variable2 v i || le-ltb last_attribute k.attribute2 a i))

condition-sound :
    (known : List ℕ) (left : Side) (operator : ℕ) (right : Operand) → length known ≤ most_variables
    → Memᴰ left.name known → left.attribute ≤ last_attribute → operator ≤ last_operator
    → OperandInOrder known left.attribute right
    → Sound (length known) (condition_in known left operator right)
unfolding condition_in OperandInOrder
condition-sound known left operator (constant z) few named a o r =
    let v = variable-bound known left.name named in
    record {
      variable = v;
      attribute = a;
      operator = o;
      form = form-constant (length known) (condition_in known left operator (constant z)) refl refl refl;
      within =
          record {
            variable = omega arith;
            attribute = omega arith;
            operator = omega arith;
            form = omega arith;
            variable2 = omega arith;
            attribute2 = omega arith;
            constant = constant-fits left.attribute z r;
          };
    }
condition-sound known left operator (other s) few named a o r =
    let v = variable-bound known left.name named in
    let w = variable-bound known s.name r.named in
    record {
      variable = v;
      attribute = a;
      operator = o;
      form = form-other (length known) (condition_in known left operator (other s)) refl refl w r.small;
      within =
          record {
            variable = omega arith;
            attribute = omega arith;
            operator = omega arith;
            form = omega arith;
            variable2 = omega arith;
            attribute2 = omega (arith, r.small);
            constant = omega arith;
          };
    }

pub when-sound :
    (known : List ℕ) (w : When) → length known ≤ most_variables → WhenInOrder known w
    → Sound (length known) (condition_in known w.left w.operator w.right)
when-sound known w few o =
    condition-sound known w.left w.operator w.right few o.left.named o.left.small o.operator o.right

-- what holds of each number holds of each word among the bytes
word-among :
    {A : Type 0} (P : ℕ → Type 0) (f : A → ℕ) (a : List ℕ) (l : List A) (i : ℕ)
    → ((x : A) → Memᴰ x l → (f x < 2 ^ 64) × P (f x)) → i < length l
    → P (number (a ++ flat_map (λ (x : A). word_bytes (f x)) l) (length a + 8 * i) 8)
unfolding flat_map
word-among P f a [] i ok h = absurd (omega arith)
word-among {A} P f a (x ∷ l) zero ok h =
    let here = ok x (Memᴰ.head refl) in
    let rest = flat_map (λ (x : A). word_bytes (f x)) l in
    let e : length a + 8 * 0 ≡ length a = omega arith in
    subst P (sym (ap (λ (j : ℕ). number (a ++ (word_bytes (f x) ++ rest)) j 8) e ∙ word-behind a (f x) rest here.0)) here.1
word-among {A} P f a (x ∷ l) (suc i) ok h =
    let rest = flat_map (λ (x : A). word_bytes (f x)) l in
    let r = word-among P f (a ++ word_bytes (f x)) l i (λ y m. ok y (Memᴰ.tail m)) (omega arith) in
    let e : length (a ++ word_bytes (f x)) + 8 * i ≡ length a + 8 * suc i = simp length-append (omega (arith, word-length (f x))) in
    subst P (ap₂ (λ (b : List ℕ) (j : ℕ). number b j 8) (append_assoc a (word_bytes (f x)) rest) e) r

-- ## The header, and the whole

some_of :
    (sets : List (List Member)) → ¬ (sets ≡ []) → ((s : List Member) → Memᴰ s sets → ¬ (s ≡ []))
    → 1 ≤ length (names sets)
unfolding names flat_map
some_of [] some none = absurd (some refl)
some_of ([] ∷ sets) some none = absurd (none [] (Memᴰ.head refl) refl)
some_of ((x ∷ s) ∷ sets) some none = omega arith

module _ (m : Making) (o : InOrder m) (fits : Fits m) where
  abbrev variables : ℕ
  variables = length (names m.sets)

  abbrev conditions : ℕ
  conditions = length m.whens

  abbrev bytes : List ℕ
  bytes = pattern_bytes m

  few : variables < 2 ^ 4
  few = omega (arith, fits.few)

  few_conditions : conditions < 2 ^ 8
  few_conditions = omega (arith, fits.few_conditions)

  header_of : header bytes ≡ header_bits variables conditions m.duration
  unfolding pattern_bytes header
  header_of =
      word_first (header_bits variables conditions m.duration) _
      (header-bound variables conditions m.duration few few_conditions fits.short)

  -- the fields of the header
  pub edition-of : edition bytes ≡ 1
  edition-of = ap (field 4 60) header_of ∙ header-edition variables conditions m.duration few few_conditions fits.short

  pub variables-of : variable_count bytes ≡ variables
  variables-of =
      ap (field 4 56) header_of ∙ header-variables variables conditions m.duration few few_conditions fits.short

  pub conditions-of : condition_count bytes ≡ conditions
  conditions-of =
      ap (field 8 48) header_of ∙ header-conditions variables conditions m.duration few few_conditions fits.short

  zero_of : header_zero bytes ≡ 0
  zero_of = ap (field 8 40) header_of ∙ header-zero variables conditions m.duration few few_conditions fits.short

  pub duration-of : duration bytes ≡ m.duration
  duration-of =
      ap (field 40 0) header_of ∙ header-duration variables conditions m.duration few few_conditions fits.short

  some-names : 1 ≤ variables
  some-names = some_of m.sets o.some o.none_empty

  pub header-kept : header_broken bytes ≡ false
  unfolding header_broken
  header-kept =
      none-of-five (not (eqb (edition bytes) 1)) (ltb (variable_count bytes) 1) (ltb most_variables (variable_count bytes))
      (ltb most_conditions (condition_count bytes)) (not (eqb (header_zero bytes) 0))
      (ap not (eq-eqb (edition bytes) 1 edition-of))
      (le-ltb (variable_count bytes) 1 (subst (λ (n : ℕ). 1 ≤ n) (sym variables-of) some-names))
      (le-ltb most_variables (variable_count bytes) (subst (λ (n : ℕ). n ≤ most_variables) (sym variables-of) fits.few))
      (le-ltb most_conditions (condition_count bytes)
      (subst (λ (n : ℕ). n ≤ most_conditions) (sym conditions-of) fits.few_conditions))
      (ap not (eq-eqb (header_zero bytes) 0 zero_of))

  pub whole-kept : length bytes ≡ whole_length bytes
  whole-kept = pattern-length m ∙ sym (ap₂ (λ (n c : ℕ). 8 + n + 8 * c) variables-of conditions-of)

  condition-kept : (i : ℕ) → i < conditions → condition_broken variables (condition_word bytes i) ≡ false
  unfolding condition_word pattern_bytes when_bits
  condition-kept i h =
      let before = word_bytes (header_bits variables conditions m.duration) ++ member_bytes 1 m.sets in
      let bits : When → ℕ = when_bits (names m.sets) in
      let size : length before ≡ 8 + variables =
      length-append (word_bytes (header_bits variables conditions m.duration)) (member_bytes 1 m.sets)
      ∙ ap₂ ◌+◌ (word-length (header_bits variables conditions m.duration)) (member-length 1 m.sets)
      in
      subst (λ (w : ℕ). condition_broken variables w ≡ false)
      (ap₂ (λ (b : List ℕ) (n : ℕ). number b (n + 8 * i) 8)
      (append_assoc (word_bytes (header_bits variables conditions m.duration)) (member_bytes 1 m.sets) _)
      (size ∙ ap (λ (n : ℕ). 8 + n) (sym variables-of)))
      (word-among (λ w. condition_broken variables w ≡ false) bits before m.whens i
      (λ w member.
      let s = when-sound (names m.sets) w fits.few (o.conditions w member) in
      (condition-bound _ s.within, sound-kept variables _ s)) h)

  pub conditions-kept : condition_count bytes ≤ first_bad_condition bytes
  unfolding first_bad_condition
  conditions-kept =
      let e =
      first-none (λ i. condition_broken (variable_count bytes) (condition_word bytes i)) (condition_count bytes)
      (λ i h. ap (λ (n : ℕ). condition_broken n (condition_word bytes i)) variables-of
      ∙ condition-kept i (subst (λ (c : ℕ). i < c) conditions-of h))
      in
      omega (arith, e)

  pub long_kept : 8 ≤ length bytes
  long_kept = omega (arith, pattern-length m)

  -- a pattern refused for a variable's set, or accepted
  pub judged : ((pattern_answer bytes).code ≡ 0) ⊎ ((pattern_answer bytes).code ≡ 3)
  judged =
      by_order (first_bad_variable bytes) (variable_count bytes)
      (λ l. inr (ap (λ (a : Checked). a.code)
      (answer-variable bytes long_kept header-kept whole-kept (first_bad_variable bytes) refl l)))
      (λ l. inl (ap (λ (a : Checked). a.code) (answer-pattern bytes long_kept header-kept whole-kept l conditions-kept)))
