-- How many steps the sets of a pattern give.
use Rattle.std.specs.Prelude.{◌&&◌, List, ℕ, ◌+◌, ◌-◌, ◌*◌, ◌^◌, eqb}
use Rattle.numbers.specs.Numbers.{count, field}
use Rattle.patterns.specs.declared.Pattern.{Pattern}
use Rattle.patterns.specs.Checked.{set_of, is_group}
use Rattle.automaton.specs.Filtering.{filter}

-- Rule 4.7: how many variables a set has
abbrev pub set_size : Pattern → ℕ → ℕ
set_size p set = count (λ v. eqb (set_of p v) set) p.n

-- Rule 4.7: how many group variables a set has
abbrev pub group_size : Pattern → ℕ → ℕ
group_size p set = count (λ v. eqb (set_of p v) set && is_group p v) p.n

-- Rule 4.7: the variable of a step
abbrev pub step_variable : ℕ → ℕ
step_variable word = field 4 48 word

-- Rule 4.7: the steps that a set gives: those on its variables, from the merged state before it too
abbrev pub steps_of_set : Pattern → ℕ → List ℕ → List ℕ
steps_of_set p set l = filter (λ w. eqb (set_of p (step_variable w)) set) l

-- Rule 4.7: how many these are
abbrev pub steps_given : Pattern → ℕ → ℕ
steps_given p set = (set_size p set + group_size p set) * 2 ^ (set_size p set - 1)
