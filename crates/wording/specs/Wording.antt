-- The text that the writer gives a checked pattern.
use Rattle.std.specs.Prelude.{Bool, true, false, not, ◌||◌, List, [], ◌∷◌, ◌++◌, map, ℕ, zero, suc, ◌+◌, ◌-◌, eqb}
use Rattle.numbers.specs.Numbers.{upto}
use Rattle.patterns.specs.declared.Pattern.{Pattern}
use Rattle.patterns.specs.declared.Condition.{Condition}
use Rattle.patterns.specs.Checked.{set_of, is_group, condition_at}
use Rattle.patterns.specs.Comparison.{constant_value}
use Rattle.form.specs.Form.{Member, When, Making, first_letter}
use Rattle.form.specs.Form.Operand.{constant, other}

-- variable v by its letter
abbrev pub letter_of : ℕ → ℕ
letter_of v = first_letter + v

unfoldable pub member_of : Pattern → ℕ → Member
member_of p v = record { name = letter_of v; group = is_group p v }

-- variable v is the first of its set
unfoldable pub begins_set : Pattern → ℕ → Bool
begins_set p v = eqb v 0 || not (eqb (set_of p v) (set_of p (v - 1)))

-- one more in the last of some sets
unfoldable pub in_last : List (List Member) → Member → List (List Member)
in_last [] m = (m ∷ []) ∷ []
in_last (s ∷ []) m = (s ++ (m ∷ [])) ∷ []
in_last (s ∷ t ∷ sets) m = s ∷ in_last (t ∷ sets) m

-- the sets of the first variables, so many
unfoldable pub sets_up_to : Pattern → ℕ → List (List Member)
sets_up_to p zero = []
sets_up_to p (suc v) =
    elim (begins_set p v) [
      | true ↦ sets_up_to p v ++ ((member_of p v ∷ []) ∷ [])
      | false ↦ in_last (sets_up_to p v) (member_of p v)
    ]

unfoldable pub when_of : Condition → When
when_of k =
    record {
      left = record { name = letter_of k.variable; attribute = k.attribute };
      operator = k.operator;
      right =
          elim (eqb k.form 0) [
            | true ↦ constant (constant_value k.attribute k.constant)
            | false ↦ other (record { name = letter_of k.variable2; attribute = k.attribute2 })
          ];
    }

unfoldable pub making_of : Pattern → Making
making_of p =
    record {
      sets = sets_up_to p p.n;
      whens = map (λ i. when_of (condition_at p i)) (upto 0 p.c);
      duration = p.duration;
    }
