-- The steps in order are the listing, and there is only one. Assumes nothing.
use Rattle.std.proofs.Common.{◌≡◌, true, ◌&&◌, List, [], ◌∷◌, ℕ, ◌^◌, ◌≤◌, ◌<◌, arith, lt_of_lt_of_le, ltb, pow_mono}
use Rattle.std.proofs.Common.{ltb-true}
use mathlib.Core.List.Memᴰ
use mathlib.Core.List.{Memᴰ}
use Rattle.numbers.specs.Numbers.{upto}
use Rattle.numbers.proofs.Bits.{mask_bound}
use Rattle.numbers.proofs.Count.{one_if-bound}
use Rattle.patterns.specs.declared.Pattern.{Pattern}
use Rattle.patterns.specs.Patterns.{most_variables, most_conditions}
use Rattle.patterns.specs.Checked.{condition_at}
use Rattle.automaton.specs.Filtering.{filter, collect}
use Rattle.automaton.specs.Automaton.{State, IsListing, state_of, is_state, leaves, opens, marked, carries, carried}
use Rattle.automaton.specs.Automaton.{step_word, variables_of}
use Rattle.automaton.specs.Steps.{steps_from, steps}
use Rattle.automaton.proofs.Membership.{both, mem-filter, filter-mem, mem-map, map-mem, mem-collect, collect-mem}
use Rattle.automaton.proofs.Membership.{upto-mem}
use Rattle.automaton.proofs.Ordered.{Ordered, ordered-append, ordered-filter, ordered-map, ordered-upto}
use Rattle.automaton.proofs.Ordered.{ordered-unique}

pub leaves-variable : (p : Pattern) (S : State) (v : ℕ) → leaves p S v ≡ true → v < p.n
unfolding leaves
leaves-variable p S v h = ltb-true v p.n (both {a = ltb v p.n} h).0

state-small : (p : Pattern) (s : ℕ) → is_state p s ≡ true → s < 2 ^ p.n
unfolding is_state
state-small p s h = ltb-true s (2 ^ p.n) (both {a = ltb s (2 ^ p.n)} h).0

-- every step of a state lies in the state's range of numbers, and in its variable's
module _ (p : Pattern) (few : p.n ≤ most_variables) (few_conditions : p.c ≤ most_conditions) where
  pub carried-small : (S : State) (v : ℕ) → carried p S v < 2 ^ 32
  unfolding carried
  carried-small S v = lt_of_lt_of_le (mask_bound (λ i. carries S v (condition_at p i)) p.c) (pow_mono few_conditions)

  word-variable : (s v w : ℕ) → v < w → step_word p s v < step_word p s w
  unfolding step_word
  word-variable s v w h = omega (arith, one_if-bound (opens p (state_of s) v && marked p (state_of s) v), carried-small (state_of s) v)

  word-state : (s t v w : ℕ) → s < t → v < 16 → step_word p s v < step_word p t w
  unfolding step_word
  word-state s t v w h g = omega (arith, one_if-bound (opens p (state_of s) v && marked p (state_of s) v), carried-small (state_of s) v)

  mem-from :
      (s : ℕ) {w : ℕ} → Memᴰ w (steps_from p s) → (v : ℕ) × (leaves p (state_of s) v ≡ true) × (w ≡ step_word p s v)
  unfolding steps_from
  mem-from s m =
      let h = mem-map (step_word p s) (filter (leaves p (state_of s)) (variables_of p)) m in
      (h.0, (mem-filter (leaves p (state_of s)) (variables_of p) h.1).0, h.2)

  from-mem : (s v : ℕ) → leaves p (state_of s) v ≡ true → Memᴰ (step_word p s v) (steps_from p s)
  unfolding steps_from
  from-mem s v h = map-mem (step_word p s) (filter-mem (leaves p (state_of s)) (upto-mem 0 p.n v (omega arith) (omega (arith, leaves-variable p (state_of s) v h))) h)

  from-ordered : (s : ℕ) → Ordered ◌<◌ (steps_from p s)
  unfolding steps_from
  from-ordered s =
      ordered-map ◌<◌ ◌<◌ (step_word p s) (λ v w h. word-variable s v w h) (filter (leaves p (state_of s)) (variables_of p))
      (ordered-filter ◌<◌ (leaves p (state_of s)) (variables_of p) (ordered-upto 0 p.n))

  all-ordered : (l : List ℕ) → Ordered ◌<◌ l → Ordered ◌<◌ (collect (steps_from p) l)
  unfolding collect
  all-ordered [] h = tt
  all-ordered (s ∷ l) h = ordered-append ◌<◌ (steps_from p s) (collect (steps_from p) l) (from-ordered s) (all-ordered l h.1) cross
    where
      cross : (x y : ℕ) → Memᴰ x (steps_from p s) → Memᴰ y (collect (steps_from p) l) → x < y
      cross x y i j =
          let a = mem-from s i in
          let c = mem-collect (steps_from p) l j in
          let b = mem-from c.0 c.2 in
          omega (arith, a.2, b.2, word-state s c.0 a.0 b.0 (h.0 c.0 c.1) (omega (arith, leaves-variable p (state_of s) a.0 a.1)))

  pub steps-is : IsListing p (steps p)
  unfolding steps
  steps-is = record {
    climbing = all-ordered (filter (is_state p) (upto 0 (2 ^ p.n))) (ordered-filter ◌<◌ (is_state p) (upto 0 (2 ^ p.n)) (ordered-upto 0 (2 ^ p.n)));
    sound = λ w m.
        let c = mem-collect (steps_from p) _ m in
        let a = mem-from c.0 c.2 in
        record { from = c.0; on = a.0; is = (mem-filter (is_state p) _ c.1).0; leave = a.1; packed = a.2 };
    complete = λ w h.
        collect-mem (steps_from p)
        (filter-mem (is_state p) (upto-mem 0 (2 ^ p.n) h.from (omega arith) (omega (arith, state-small p h.from h.is))) h.is)
        (Memᴰ.cast h.packed (from-mem h.from h.on h.leave));
  }

pub one-listing : (p : Pattern) (l m : List ℕ) → IsListing p l → IsListing p m → l ≡ m
one-listing p l m h g =
    ordered-unique (λ x y. x < y) (λ x y a b. omega arith) l m h.climbing g.climbing
    (λ x k. g.complete x (h.sound x k)) (λ x k. h.complete x (g.sound x k))
