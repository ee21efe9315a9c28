-- The checked pattern, read from the bytes one variable and one condition after the other. Assumes nothing.
use Rattle.std.proofs.Common.{◌≡◌, ◌∙◌, Bool, false, List, ℕ, ◌+◌, ◌<◌, set}
use Rattle.numbers.specs.Numbers.{upto}
use Rattle.patterns.specs.declared.Condition.{Condition}
use Rattle.patterns.specs.declared.Pattern.{Pattern}
use Rattle.patterns.specs.Patterns.{most_variables, most_conditions, variable_count, condition_count, duration}
use Rattle.patterns.specs.Patterns.{set_number, group_flag, condition_of, condition_word}
use Rattle.patterns.specs.Checked.{filled, pattern_up_to, with_condition, blank}
use Rattle.patterns.proofs.Filled.{filled_more}

-- the pattern with other sets and groups
abbrev pub with_sets : Pattern → List ℕ → List Bool → Pattern
with_sets p s g =
    record {
      sets = s;
      groups = g;
      variables = p.variables;
      attributes = p.attributes;
      operators = p.operators;
      forms = p.forms;
      variables2 = p.variables2;
      attributes2 = p.attributes2;
      constants = p.constants;
      n = p.n;
      c = p.c;
      duration = p.duration;
    }

-- the pattern with other counts
abbrev pub with_counts : Pattern → ℕ → ℕ → ℕ → Pattern
with_counts p n c d =
    record {
      sets = p.sets;
      groups = p.groups;
      variables = p.variables;
      attributes = p.attributes;
      operators = p.operators;
      forms = p.forms;
      variables2 = p.variables2;
      attributes2 = p.attributes2;
      constants = p.constants;
      n = n;
      c = c;
      duration = d;
    }

module _ (bytes : List ℕ) where
  pub counts-read :
      (p : Pattern) (n c d : ℕ) → p ≡ blank → n ≡ variable_count bytes → c ≡ condition_count bytes → d ≡ duration bytes
      → with_counts p n c d ≡ pattern_up_to bytes 0 0
  unfolding pattern_up_to filled blank upto
  counts-read p n c d e en ec ed = λ i. with_counts (e i) (en i) (ec i) (ed i)

  pub variable-read :
      (p : Pattern) (v s : ℕ) (g : Bool) → v < most_variables
      → p ≡ pattern_up_to bytes v 0 → s ≡ set_number bytes v → g ≡ group_flag bytes v
      → with_sets p (set p.sets v s) (set p.groups v g) ≡ pattern_up_to bytes (v + 1) 0
  unfolding pattern_up_to
  variable-read p v s g h e es eg =
      (λ i. with_sets (e i) (set (e i).sets v (es i)) (set (e i).groups v (eg i)))
      ∙ (λ i. with_sets (pattern_up_to bytes v 0) (filled_more most_variables 0 (set_number bytes) v h i) (filled_more most_variables false (group_flag bytes) v h i))

  pub condition-read :
      (p q : Pattern) (n i : ℕ) (k : Condition) → i < most_conditions → q ≡ with_condition p i k
      → p ≡ pattern_up_to bytes n i → k ≡ condition_of (condition_word bytes i)
      → q ≡ pattern_up_to bytes n (i + 1)
  unfolding pattern_up_to
  condition-read p q n i k h eq e ek =
      let field : (Condition → ℕ) → ℕ → ℕ = λ f j. f (condition_of (condition_word bytes j)) in
      let more : (f : Condition → ℕ) → set (filled most_conditions 0 (field f) i) i (field f i) ≡ filled most_conditions 0 (field f) (i + 1) = λ f. filled_more most_conditions 0 (field f) i h in
      eq ∙ (λ z. with_condition (e z) i (ek z))
      ∙ (λ z.
      record {
        sets = filled most_variables 0 (set_number bytes) n;
        groups = filled most_variables false (group_flag bytes) n;
        variables = more (λ (k : Condition). k.variable) z;
        attributes = more (λ (k : Condition). k.attribute) z;
        operators = more (λ (k : Condition). k.operator) z;
        forms = more (λ (k : Condition). k.form) z;
        variables2 = more (λ (k : Condition). k.variable2) z;
        attributes2 = more (λ (k : Condition). k.attribute2) z;
        constants = more (λ (k : Condition). k.constant) z;
        n = variable_count bytes;
        c = condition_count bytes;
        duration = duration bytes;
      })
