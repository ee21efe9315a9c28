-- The automaton of a checked pattern: its states, the steps that leave them, and its listing.
use Rattle.std.specs.Prelude.{◌≡◌, Bool, true, false, not, ◌&&◌, ◌||◌, ℕ, ◌+◌, ◌*◌, ◌^◌, ◌<◌, eqb, ltb}
use mathlib.Core.List.{List, [], ◌∷◌, map, Memᴰ}
use Rattle.numbers.specs.Bits.{bit, mask}
use Rattle.numbers.specs.Numbers.{upto, one_if}
use Rattle.patterns.specs.declared.Condition.{Condition}
use Rattle.patterns.specs.declared.Pattern.{Pattern}
use Rattle.patterns.specs.Checked.{set_of, is_group, condition_at}
use Rattle.automaton.specs.Filtering.{implies, all}

-- Rule 4.2: all variables of a pattern
abbrev pub variables_of : Pattern → List ℕ
variables_of p = upto 0 p.n

-- Rule 4.4: all conditions of a pattern
abbrev pub conditions : Pattern → List Condition
conditions p = map (condition_at p) (upto 0 p.c)

-- ## States and steps

-- Rule 4.1: which variables are bound
abbrev pub State : Type 0
State = ℕ → Bool

-- Rule 4.2: a first binding of v, with the earlier sets complete
unfoldable pub opens : Pattern → State → ℕ → Bool
opens p S v = not (S v) && all (λ u. implies (ltb (set_of p u) (set_of p v)) (S u)) (variables_of p)

-- Rule 4.2: a further binding of v, with the later sets untouched
unfoldable pub loops : Pattern → State → ℕ → Bool
loops p S v = S v && (is_group p v && all (λ u. implies (ltb (set_of p v) (set_of p u)) (not (S u))) (variables_of p))

-- Rule 4.2: in a merged state some variables open and others loop
unfoldable pub leaves : Pattern → State → ℕ → Bool
leaves p S v = ltb v p.n && (opens p S v || loops p S v)

-- Rule 4.3: nothing of v's set is bound, and the set is not the first
unfoldable pub marked : Pattern → State → ℕ → Bool
marked p S v = ltb 1 (set_of p v) && all (λ u. implies (eqb (set_of p u) (set_of p v)) (not (S u))) (variables_of p)

-- Rule 4.4: the step on v from state S tests condition k
unfoldable pub carries : State → ℕ → Condition → Bool
carries S v k =
    elim (eqb k.form 0) [
      | true ↦ eqb k.variable v
      | false ↦ (eqb k.variable v && (eqb k.variable2 v || S k.variable2))
          || (eqb k.variable2 v && S k.variable)
    ]

-- ## The listing

-- Rule 4.1: the state of a number
abbrev pub state_of : ℕ → State
state_of s v = bit s v

-- Rule 4.1: the number is that of a state
unfoldable pub is_state : Pattern → ℕ → Bool
is_state p s =
    ltb s (2 ^ p.n)
    && all
    (λ v. implies (state_of s v) (all (λ u. implies (ltb (set_of p u) (set_of p v)) (state_of s u)) (variables_of p)))
    (variables_of p)

-- Rule 4.4: the conditions of a step as a number, bit i for condition i
unfoldable pub carried : Pattern → State → ℕ → ℕ
carried p S v = mask (λ i. carries S v (condition_at p i)) p.c

-- Rule 4.5: the step from state number s on v. A loop has no order mark.
unfoldable pub step_word : Pattern → ℕ → ℕ → ℕ
step_word p s v =
    s * 2 ^ 52
    + v * 2 ^ 48
    + one_if (opens p (state_of s) v && marked p (state_of s) v) * 2 ^ 47
    + carried p (state_of s) v

-- Rule 4.6: the number of some step
pub record IsStep (p : Pattern) (word : ℕ) : Type 0 where
  pub from : ℕ
  pub on : ℕ
  pub is : is_state p from ≡ true
  pub leave : leaves p (state_of from) on ≡ true
  pub packed : word ≡ step_word p from on

-- Rule 4.6: each number is below all that follow it
abbrev pub Climbing : List ℕ → Type 0
Climbing [] = Unit {0}
Climbing (w ∷ l) = ((x : ℕ) → Memᴰ x l → w < x) × Climbing l

-- Rule 4.6
pub record IsListing (p : Pattern) (l : List ℕ) : Type 0 where
  pub climbing : Climbing l
  pub sound : (w : ℕ) → Memᴰ w l → IsStep p w
  pub complete : (w : ℕ) → IsStep p w → Memᴰ w l
