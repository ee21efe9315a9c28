-- How many steps each set gives to a listing, and that the listing has those of all sets and no others (rule 4.7).
-- Assumes nothing.
use Rattle.std.proofs.Common.{◌≡◌, ◌∙◌, refl, sym, ap, ap₂, Bool, true, false, ◌&&◌, List, [], ◌∷◌, ◌++◌, append-nil}
use Rattle.std.proofs.Common.{ℕ, zero, suc, ◌+◌, ◌-◌, ◌*◌, ◌^◌, ◌≤◌, ◌<◌, zero-add, add-zero, add-mul, arith}
use Rattle.std.proofs.Common.{eqb-true, eqb, length, get_or}
use mathlib.Core.Bool.{and_assoc}
use mathlib.Core.List.{Memᴰ}
use lib.Dec.{eqb-suc-suc}
use Rattle.numbers.specs.Numbers.{upto, count, sum, one_if}
use Rattle.numbers.proofs.Cases.{by-test}
use Rattle.numbers.proofs.Count.{one_if-bound}
use Rattle.numbers.proofs.Sum.{sum_same, sum-zero, sum-add, sum-scale, sum-flag, sum-swap, sum-count, sum_one}
use Rattle.numbers.proofs.Upto.{upto_snoc}
use Rattle.patterns.specs.declared.Pattern.{Pattern}
use Rattle.patterns.specs.Patterns.{most_variables, most_conditions, most_sets}
use Rattle.patterns.specs.Checked.{set_of, is_group, InOrder}
use Rattle.automaton.specs.Filtering.{keep, filter, collect}
use Rattle.automaton.specs.Automaton.{IsListing, state_of, is_state, opens, marked, leaves, step_word}
use Rattle.automaton.specs.Counts.{set_size, group_size, step_variable, steps_of_set, steps_given}
use Rattle.automaton.specs.Steps.{steps, steps_from, step_on, steps_at}
use Rattle.automaton.proofs.Choices.{leaves-count}
use Rattle.automaton.proofs.Listing.{leaves-variable, carried-small, steps-is, one-listing}
use Rattle.automaton.proofs.Sinks.{from-variables, from-states}

-- ## How many entries of a collected list pass a test

keep-size : (t : Bool) (w : ℕ) (l : List ℕ) → length (keep t w l) ≡ one_if t + length l
unfolding keep
keep-size true w l = omega arith
keep-size false w l = omega arith

module _ (test : ℕ → Bool) where
  passing : List ℕ → ℕ
  passing l = length (filter test l)

  passing-append : (l m : List ℕ) → passing (l ++ m) ≡ passing l + passing m
  unfolding passing filter
  passing-append [] m = sym (zero-add (passing m))
  passing-append (w ∷ l) m = omega (arith, keep-size (test w) w (filter test (l ++ m)), keep-size (test w) w (filter test l), passing-append l m)

  collect-snoc :
      (f : ℕ → List ℕ) (l : List ℕ) (k : ℕ)
      → passing (collect f (l ++ (k ∷ []))) ≡ passing (collect f l) + passing (f k)
  unfolding collect passing filter
  collect-snoc f [] k = ap passing (append-nil (f k)) ∙ sym (zero-add (passing (f k)))
  collect-snoc f (x ∷ l) k = omega (arith, passing-append (f x) (collect f (l ++ (k ∷ []))), passing-append (f x) (collect f l), collect-snoc f l k)

  passing-collect : (f : ℕ → List ℕ) (n : ℕ) → passing (collect f (upto 0 n)) ≡ sum (λ i. passing (f i)) n
  unfolding sum upto collect passing filter
  passing-collect f zero = refl
  passing-collect f (suc n) =
      ap (λ (l : List ℕ). passing (collect f l)) (upto_snoc 0 n) ∙ collect-snoc f (upto 0 n) (0 + n)
      ∙ ap₂ ◌+◌ (passing-collect f n) (ap (λ (k : ℕ). passing (f k)) (zero-add n))

  passing_kept : (t : Bool) (w : ℕ) → passing (keep t w []) ≡ one_if (t && test w)
  unfolding passing filter keep
  passing_kept true w = keep-size (test w) w [] ∙ add-zero (one_if (test w))
  passing_kept false w = refl

  -- ## Of the steps

  module _ (p : Pattern) where
    passing-from :
        (s : ℕ) → passing (steps_from p s) ≡ sum (λ v. one_if (leaves p (state_of s) v && test (step_word p s v))) p.n
    unfolding step_on
    passing-from s =
        ap passing (from-variables p s) ∙ passing-collect (step_on p s) p.n
        ∙ sum_same _ _ p.n (λ v h. passing_kept (leaves p (state_of s) v) (step_word p s v))

    passing-at :
        (s : ℕ)
        → passing (steps_at p s)
        ≡ sum (λ v. one_if (is_state p s && (leaves p (state_of s) v && test (step_word p s v)))) p.n
    unfolding steps_at passing filter
    passing-at s =
        by-test (is_state p s)
        (λ e. rw (e, steps_at) (passing-from s))
        (λ e. rw (e, steps_at) (sym (sum-zero (λ v. 0) p.n (λ v h. refl))))

    -- variable by variable
    passing-steps :
        passing (steps p) ≡ sum
        (λ v. sum (λ s. one_if (is_state p s && (leaves p (state_of s) v && test (step_word p s v)))) (2 ^ p.n)) p.n
    passing-steps =
        ap passing (from-states p) ∙ passing-collect (steps_at p) (2 ^ p.n) ∙ sum_same _ _ (2 ^ p.n) (λ s h. passing-at s)
        ∙ sum-swap (λ s v. one_if (is_state p s && (leaves p (state_of s) v && test (step_word p s v)))) (2 ^ p.n) p.n

-- ## The steps of a set

step-variable :
    (p : Pattern) → p.n ≤ most_variables → p.c ≤ most_conditions → (s v : ℕ) → v < p.n
    → step_variable (step_word p s v) ≡ v
unfolding step_word
step-variable p few few_conditions s v h =
    omega (arith, one_if-bound (opens p (state_of s) v && marked p (state_of s) v), carried-small p few few_conditions (state_of s) v)

module _ (p : Pattern) (few : p.n ≤ most_variables) (few_conditions : p.c ≤ most_conditions) (set : ℕ) where
  of_set : ℕ → Bool
  of_set v = eqb (set_of p v) set

  each : ℕ
  each = 2 ^ (set_size p set - 1)

  once-or-twice :
      (t g : Bool) (x y : ℕ) → (t ≡ true → x ≡ y) → one_if t * ((1 + one_if g) * x) ≡ one_if t * y + one_if (t && g) * y
  once-or-twice true true x y e = omega (arith, e refl)
  once-or-twice true false x y e = omega (arith, e refl)
  once-or-twice false g x y e = omega arith

  -- what one variable adds
  added : (v : ℕ) → v < p.n
      → sum (λ s. one_if (is_state p s && (leaves p (state_of s) v && of_set (step_variable (step_word p s v))))) (2 ^ p.n)
      ≡ one_if (of_set v) * each + one_if (of_set v && is_group p v) * each
  unfolding of_set each
  added v h =
      sum_same _ (λ s. one_if (is_state p s && leaves p (state_of s) v && of_set v)) (2 ^ p.n)
      (λ s k. ap (λ (u : ℕ). one_if (is_state p s && (leaves p (state_of s) v && of_set u))) (step-variable p few few_conditions s v h) ∙ ap one_if (sym (and_assoc (is_state p s) (leaves p (state_of s) v) (of_set v))))
      ∙ sum-flag (λ s. is_state p s && leaves p (state_of s) v) (of_set v) (2 ^ p.n)
      ∙ ap (λ (k : ℕ). one_if (of_set v) * k) (leaves-count p v h)
      ∙ once-or-twice (of_set v) (is_group p v) (2 ^ (set_size p (set_of p v) - 1)) each (λ e. ap (λ (t : ℕ). 2 ^ (set_size p t - 1)) (eqb-true (set_of p v) set e))

  counted : length (steps_of_set p set (steps p)) ≡ steps_given p set
  unfolding passing of_set each
  counted =
      passing-steps (λ w. of_set (step_variable w)) p
      ∙ sum_same _ _ p.n added
      ∙ sum-add (λ v. one_if (of_set v) * each) (λ v. one_if (of_set v && is_group p v) * each) p.n
      ∙ ap₂ ◌+◌
      (sum-scale (λ v. one_if (of_set v)) each p.n ∙ ap (λ (k : ℕ). k * each) (sum-count of_set p.n))
      (sum-scale (λ v. one_if (of_set v && is_group p v)) each p.n ∙ ap (λ (k : ℕ). k * each) (sum-count (λ v. of_set v && is_group p v) p.n))
      ∙ sym (add-mul (set_size p set) (group_size p set) each)

-- rule 4.7, of any listing of a pattern in order
pub set-steps :
    (p : Pattern) → InOrder p → (l : List ℕ) → IsListing p l → (set : ℕ)
    → length (steps_of_set p set l) ≡ steps_given p set
set-steps p ok l is set =
    ap (λ (m : List ℕ). length (steps_of_set p set m)) (one-listing p l (steps p) is (steps-is p ok.few ok.few_conditions))
    ∙ counted p ok.few ok.few_conditions set

-- ## The steps of all sets

module _ (f : ℕ → ℕ) (n : ℕ) where
  -- an entry with f from 1 to n is counted at one of these numbers
  at_one : (k : ℕ) → 1 ≤ k → k ≤ n → sum (λ i. one_if (eqb k (suc i))) n ≡ 1
  at_one zero h l = absurd (omega arith)
  at_one (suc k) h l = sum_same _ _ n (λ i d. ap one_if (eqb-suc-suc k i)) ∙ sum_one k n (omega arith)

  split_by :
      (l : List ℕ) → ((w : ℕ) → Memᴰ w l → (1 ≤ f w) × (f w ≤ n))
      → length l ≡ sum (λ i. length (filter (λ w. eqb (f w) (suc i)) l)) n
  unfolding filter
  split_by [] h = sym (sum-zero (λ i. 0) n (λ i d. refl))
  split_by (w ∷ l) h =
      let here = h w (Memᴰ.head refl) in
      let rest = split_by l (λ x m. h x (Memᴰ.tail m)) in
      let whole =
      sum_same (λ i. length (filter (λ x. eqb (f x) (suc i)) (w ∷ l))) (λ i. one_if (eqb (f w) (suc i)) + length (filter (λ x. eqb (f x) (suc i)) l)) n (λ i d. keep-size (eqb (f w) (suc i)) w (filter (λ x. eqb (f x) (suc i)) l))
      ∙ sum-add (λ i. one_if (eqb (f w) (suc i))) (λ i. length (filter (λ x. eqb (f x) (suc i)) l)) n
      in
      omega (arith, whole, rest, at_one (f w) here.0 here.1)

sets-from-one : (p : Pattern) → InOrder p → (v : ℕ) → v < p.n → 1 ≤ set_of p v
sets-from-one p ok zero h = omega (arith, ok.begins)
sets-from-one p ok (suc v) h = omega (arith, sets-from-one p ok v (omega arith), (ok.climbs v h).0)

-- The listing has the steps of all sets; a number that no variable has gives none.
pub all-steps :
    (p : Pattern) → InOrder p → (l : List ℕ) → IsListing p l → length l ≡ sum (λ i. steps_given p (suc i)) most_sets
all-steps p ok l is =
    split_by (λ w. set_of p (step_variable w)) most_sets l within
    ∙ sum_same _ _ most_sets (λ i h. set-steps p ok l is (suc i))
  where
    within : (w : ℕ) → Memᴰ w l → (1 ≤ set_of p (step_variable w)) × (set_of p (step_variable w) ≤ most_sets)
    within w m =
        let step = is.sound w m in
        let inside = leaves-variable p (state_of step.from) step.on step.leave in
        let v : step_variable w ≡ step.on = ap step_variable step.packed ∙ step-variable p ok.few ok.few_conditions step.from step.on inside in
        let s : set_of p (step_variable w) ≡ set_of p step.on = ap (set_of p) v in
        (omega (arith, s, sets-from-one p ok step.on inside), omega (arith, s, ok.few_sets step.on inside))

-- the sets {c, p+, d} and {b}
pub paper-steps :
    (p : Pattern) → InOrder p → (sets : List ℕ) (groups : List Bool)
    → p.n ≡ 4 → p.sets ≡ 1 ∷ 1 ∷ 1 ∷ 2 ∷ sets → p.groups ≡ false ∷ true ∷ false ∷ false ∷ groups
    → (l : List ℕ) → IsListing p l → length l ≡ 17
unfolding sum count
paper-steps p ok sets groups n s g l is = all-steps p ok l is ∙ (λ i. total (s i) (g i) (n i))
  where
    total : List ℕ → List Bool → ℕ → ℕ
    total sets groups n =
        sum (λ i. (count (λ v. eqb (get_or sets v 0) (suc i)) n + count (λ v. eqb (get_or sets v 0) (suc i) && get_or groups v false) n) * 2 ^ (count (λ v. eqb (get_or sets v 0) (suc i)) n - 1)) most_sets
