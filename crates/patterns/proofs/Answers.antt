-- What the check of a pattern answers, case by case. Assumes nothing.
use Rattle.std.proofs.Common.{◌≡◌, ◌∙◌, sym, ap, true, false, List, ℕ, ◌+◌, ◌*◌, ◌≤◌, ◌<◌, lt-ltb, le-ltb, eq-eqb}
use Rattle.std.proofs.Common.{ne_eqb, ltb-false, eqb-true, length}
use Rattle.patterns.specs.declared.Checked.{Checked}
use Rattle.patterns.specs.Patterns.{header_bytes, condition_bytes, most_variables, most_conditions, edition}
use Rattle.patterns.specs.Patterns.{variable_count, condition_count, header_zero, header_broken}
use Rattle.patterns.specs.Checked.{pattern_of, refused, first_bad_variable, first_bad_condition, pattern_answer}
use Rattle.numbers.proofs.Cases.{neither, not-not}

pub record HeaderInOrder (bytes : List ℕ) : Type 0 where
  pub one : edition bytes ≡ 1
  pub some : 1 ≤ variable_count bytes
  pub few : variable_count bytes ≤ most_variables
  pub few_conditions : condition_count bytes ≤ most_conditions
  pub zero : header_zero bytes ≡ 0

pub header-in-order : (bytes : List ℕ) → header_broken bytes ≡ false → HeaderInOrder bytes
unfolding header_broken
header-in-order bytes h =
    let h1 = neither _ _ h in
    let h2 = neither _ _ h1.1 in
    let h3 = neither _ _ h2.1 in
    let h4 = neither _ _ h3.1 in
    record {
      one = eqb-true _ _ (not-not _ h1.0);
      some = ltb-false _ _ h2.0;
      few = ltb-false _ _ h3.0;
      few_conditions = ltb-false _ _ h4.0;
      zero = eqb-true _ _ (not-not _ h4.1);
    }

abbrev pub whole_length : List ℕ → ℕ
whole_length bytes = header_bytes + variable_count bytes + condition_bytes * condition_count bytes

module _ (bytes : List ℕ) where
  pub answer-short : length bytes < header_bytes → pattern_answer bytes ≡ refused 1 0
  unfolding pattern_answer
  answer-short h = rw (lt-ltb _ _ h, pattern_answer)

  module _ (long : header_bytes ≤ length bytes) where
    pub answer-header : header_broken bytes ≡ true → pattern_answer bytes ≡ refused 2 0
    unfolding pattern_answer
    answer-header h = rw (le-ltb _ _ long, h, pattern_answer)

    module _ (head : header_broken bytes ≡ false) where
      pub answer-length : (length bytes ≡ whole_length bytes → ⊥) → pattern_answer bytes ≡ refused 1 0
      unfolding pattern_answer
      answer-length h = rw (le-ltb _ _ long, head, ne_eqb _ _ h, pattern_answer)

      module _ (whole : length bytes ≡ whole_length bytes) where
        pub answer-variable :
            (v : ℕ) → v ≡ first_bad_variable bytes → v < variable_count bytes → pattern_answer bytes ≡ refused 3 v
        unfolding pattern_answer
        answer-variable v e h =
            let l = rw e at h in
            rw (le-ltb _ _ long, head, eq-eqb _ _ whole, lt-ltb _ _ l, pattern_answer) (ap (refused 3) (sym e))

        module _ (variables : variable_count bytes ≤ first_bad_variable bytes) where
          pub answer-condition :
              (i : ℕ) → i ≡ first_bad_condition bytes → i < condition_count bytes → pattern_answer bytes ≡ refused 4 i
          unfolding pattern_answer
          answer-condition i e h =
              let l = rw e at h in
              rw (le-ltb _ _ long, head, eq-eqb _ _ whole, le-ltb _ _ variables, lt-ltb _ _ l, pattern_answer) (ap (refused 4) (sym e))

          pub answer-pattern :
              condition_count bytes ≤ first_bad_condition bytes
              → pattern_answer bytes ≡ record { code = 0; place = 0; pattern = pattern_of bytes }
          unfolding pattern_answer
          answer-pattern h = rw (le-ltb _ _ long, head, eq-eqb _ _ whole, le-ltb _ _ variables, le-ltb _ _ h, pattern_answer)

-- any two answers that meet the promise of `check_pattern` are equal
pub check-pattern-unique : (bytes : List ℕ) (a b : Checked) → a ≡ pattern_answer bytes → b ≡ pattern_answer bytes → a ≡ b
check-pattern-unique bytes a b p q = p ∙ sym q
