-- The checked pattern, one record of fixed room, and what the check of a pattern answers.
use Rattle.std.specs.Prelude.{◌≡◌, Bool, true, false, List, map, ◌++◌, ℕ, suc, ◌+◌, ◌-◌, ◌*◌, ◌≤◌, ◌<◌, eqb, ltb, length, get_or, set, replicate, Result, Ok, Err}
use Rattle.patterns.specs.declared.Condition.{Condition}
use Rattle.patterns.specs.declared.Pattern.{Pattern}
use Rattle.patterns.specs.declared.Checked.{Checked}
use Rattle.patterns.specs.Patterns.{header_bytes, most_variables, most_conditions, condition_bytes, header_broken}
use Rattle.patterns.specs.Patterns.{variable_count, condition_count, duration, set_number, group_flag, variable_broken}
use Rattle.patterns.specs.Patterns.{condition_of, condition_word, condition_broken, most_sets, most_in_set}
use Rattle.patterns.specs.Patterns.{last_attribute, last_operator}
use Rattle.numbers.specs.Numbers.{upto, first, count}
use Rattle.records.specs.declared.refusals.Refusal.{Refusal}
use Rattle.records.specs.Refusals.{code_of, place_of}

-- Serves rule 2.4: so many places, the first of them filled by f, those beyond the count left empty
unfoldable pub filled : {A : Type 0} → ℕ → A → (ℕ → A) → ℕ → List A
filled room empty f count = map f (upto 0 count) ++ replicate (room - count) empty

-- Serves rule 2.4: the pattern with its first v variables and its first i conditions
unfoldable pub pattern_up_to : List ℕ → ℕ → ℕ → Pattern
pattern_up_to bytes v i =
    record {
      sets = filled most_variables 0 (set_number bytes) v;
      groups = filled most_variables false (group_flag bytes) v;
      variables = filled most_conditions 0 (λ k. (condition_of (condition_word bytes k)).variable) i;
      attributes = filled most_conditions 0 (λ k. (condition_of (condition_word bytes k)).attribute) i;
      operators = filled most_conditions 0 (λ k. (condition_of (condition_word bytes k)).operator) i;
      forms = filled most_conditions 0 (λ k. (condition_of (condition_word bytes k)).form) i;
      variables2 = filled most_conditions 0 (λ k. (condition_of (condition_word bytes k)).variable2) i;
      attributes2 = filled most_conditions 0 (λ k. (condition_of (condition_word bytes k)).attribute2) i;
      constants = filled most_conditions 0 (λ k. (condition_of (condition_word bytes k)).constant) i;
      n = variable_count bytes;
      c = condition_count bytes;
      duration = duration bytes;
    }

-- Rule 2.4: the pattern that the bytes stand for
unfoldable pub pattern_of : List ℕ → Pattern
pattern_of bytes = pattern_up_to bytes (variable_count bytes) (condition_count bytes)

-- the pattern with condition k in place i
abbrev pub with_condition : Pattern → ℕ → Condition → Pattern
with_condition p i k =
    record {
      sets = p.sets;
      groups = p.groups;
      variables = set p.variables i k.variable;
      attributes = set p.attributes i k.attribute;
      operators = set p.operators i k.operator;
      forms = set p.forms i k.form;
      variables2 = set p.variables2 i k.variable2;
      attributes2 = set p.attributes2 i k.attribute2;
      constants = set p.constants i k.constant;
      n = p.n;
      c = p.c;
      duration = p.duration;
    }

-- Rule 2.4: what stands for a refused pattern
unfoldable pub blank : Pattern
blank =
    record {
      sets = replicate most_variables 0;
      groups = replicate most_variables false;
      variables = replicate most_conditions 0;
      attributes = replicate most_conditions 0;
      operators = replicate most_conditions 0;
      forms = replicate most_conditions 0;
      variables2 = replicate most_conditions 0;
      attributes2 = replicate most_conditions 0;
      constants = replicate most_conditions 0;
      n = 0;
      c = 0;
      duration = 0;
    }

-- Rule 2.4: the refusal of a pattern
abbrev pub refused : ℕ → ℕ → Checked
refused code place = record { code = code; place = place; pattern = blank }

-- Rule 8.3: n where all are in order
unfoldable pub first_bad_variable : List ℕ → ℕ
first_bad_variable bytes = first (variable_broken bytes) (variable_count bytes)

-- Rule 8.4: c where all are in order
unfoldable pub first_bad_condition : List ℕ → ℕ
first_bad_condition bytes =
    first (λ i. condition_broken (variable_count bytes) (condition_word bytes i)) (condition_count bytes)

-- Rules 7.3, 8.1, 8.14: what the check of a pattern answers
unfoldable pub pattern_answer : List ℕ → Checked
pattern_answer bytes =
    elim (ltb (length bytes) header_bytes) [
      | true ↦ refused 1 0
      | false ↦ elim (header_broken bytes) [
        | true ↦ refused 2 0
        | false ↦
            elim (eqb (length bytes) (header_bytes + variable_count bytes + condition_bytes * condition_count bytes)) [
              | false ↦ refused 1 0
              | true ↦ elim (ltb (first_bad_variable bytes) (variable_count bytes)) [
                | true ↦ refused 3 (first_bad_variable bytes)
                | false ↦ elim (ltb (first_bad_condition bytes) (condition_count bytes)) [
                  | true ↦ refused 4 (first_bad_condition bytes)
                  | false ↦ record { code = 0; place = 0; pattern = pattern_of bytes }
                ]
              ]
            ]
      ]
    ]

-- Serves rules 2.4, 7.3: what the check answers for a pattern that is read, and for one that is refused
abbrev pub checked_of : Result Pattern Refusal → Checked
checked_of (Ok p) = record { code = 0; place = 0; pattern = p }
checked_of (Err r) = refused (code_of r) (place_of r)

-- Rule 2.4: condition i of a checked pattern
unfoldable pub condition_at : Pattern → ℕ → Condition
condition_at p i =
    record {
      variable = get_or p.variables i 0;
      attribute = get_or p.attributes i 0;
      operator = get_or p.operators i 0;
      form = get_or p.forms i 0;
      variable2 = get_or p.variables2 i 0;
      attribute2 = get_or p.attributes2 i 0;
      constant = get_or p.constants i 0;
    }

-- Rule 2.4: the set of variable v
abbrev pub set_of : Pattern → ℕ → ℕ
set_of p v = get_or p.sets v 0

-- Rule 2.4: whether v is a group variable
abbrev pub is_group : Pattern → ℕ → Bool
is_group p v = get_or p.groups v false

-- a checked pattern keeps the rules of its bytes
pub record InOrder (p : Pattern) : Type 0 where
  pub some : 1 ≤ p.n
  pub few : p.n ≤ most_variables
  pub few_conditions : p.c ≤ most_conditions
  pub begins : set_of p 0 ≡ 1
  pub climbs : (v : ℕ) → suc v < p.n → (set_of p v ≤ set_of p (suc v)) × (set_of p (suc v) ≤ set_of p v + 1)
  pub few_sets : (v : ℕ) → v < p.n → set_of p v ≤ most_sets
  pub small_sets : (v : ℕ) → v < p.n → count (λ u. eqb (set_of p u) (set_of p v)) p.n ≤ most_in_set
  pub variable : (i : ℕ) → i < p.c → (condition_at p i).variable < p.n
  pub attribute : (i : ℕ) → i < p.c → (condition_at p i).attribute ≤ last_attribute
  pub operator : (i : ℕ) → i < p.c → (condition_at p i).operator ≤ last_operator
  pub form : (i : ℕ) → i < p.c → (condition_at p i).form ≤ 1
  pub variable2 : (i : ℕ) → i < p.c → (condition_at p i).variable2 < p.n
  pub attribute2 : (i : ℕ) → i < p.c → (condition_at p i).attribute2 ≤ last_attribute
