-- From how many states a variable leaves: the variables of its set but itself are free, every other bit of the state's
-- number is settled. Assumes nothing.
use Rattle.std.proofs.Common.{◌≡◌, ◌∙◌, refl, sym, ap, ap₂, subst, Bool, true, false, not, ◌&&◌, ◌||◌, ℕ, ◌+◌, ◌-◌}
use Rattle.std.proofs.Common.{◌*◌, ◌^◌, ◌≤◌, ◌<◌, zero-add, one-mul, zero-mul, add-mul, arith, lt-ltb, le-ltb}
use Rattle.std.proofs.Common.{ltb-true, eq-eqb, ne_eqb, eqb-true, eqb, ltb}
use mathlib.Core.Bool.{and-false}
use borrow.Author.Tests.{not-true}
use Rattle.numbers.specs.Bits.{bit}
use Rattle.numbers.specs.Numbers.{count, sum, one_if}
use Rattle.numbers.proofs.Cases.{by-test, by_order, same_test}
use Rattle.numbers.proofs.Count.{count-but}
use Rattle.numbers.proofs.Every.{every_true, every_of}
use Rattle.numbers.proofs.Sum.{sum_same, sum-zero, sum-add}
use Rattle.numbers.proofs.Subsets.{allowed, asked, forced, forced-of, count-asked}
use Rattle.patterns.specs.declared.Pattern.{Pattern}
use Rattle.patterns.specs.Checked.{set_of, is_group}
use Rattle.automaton.specs.Filtering.{implies, all}
use Rattle.automaton.specs.Automaton.{state_of, is_state, opens, loops, leaves, variables_of}
use Rattle.automaton.specs.Counts.{set_size}
use Rattle.automaton.proofs.Membership.{both, clash, all-mem, upto-mem, all-upto-true}

implied : (a b : Bool) → implies a b ≡ true → a ≡ true → b ≡ true
implied true b h e = h
implied false b h e = clash e refl

implied-of : (a b : Bool) → (a ≡ true → b ≡ true) → implies a b ≡ true
implied-of true b f = f refl
implied-of false b f = refl

and-of : (a b : Bool) → a ≡ true → b ≡ true → a && b ≡ true
and-of a b e d = ap₂ ◌&&◌ e d

-- the state s has all of the sets before that of v, nothing of those after it, and v itself or not
record Chosen (p : Pattern) (v s : ℕ) (b : Bool) : Type 0 where
  earlier : (u : ℕ) → u < p.n → set_of p u < set_of p v → bit s u ≡ true
  later : (u : ℕ) → u < p.n → set_of p v < set_of p u → bit s u ≡ false
  here : bit s v ≡ b

-- ## The tests of the automaton, as facts

module _ (p : Pattern) (test : ℕ → Bool) where
  each : all test (variables_of p) ≡ true → (u : ℕ) → u < p.n → test u ≡ true
  each h u l = all-mem test (upto-mem 0 p.n u (omega arith) (omega arith)) h

module _ (p : Pattern) (s : ℕ) where
  earlier_than : ℕ → Bool
  earlier_than v = all (λ u. implies (ltb (set_of p u) (set_of p v)) (state_of s u)) (variables_of p)

  earlier-bound : (v : ℕ) → earlier_than v ≡ true → (u : ℕ) → u < p.n → set_of p u < set_of p v → bit s u ≡ true
  unfolding earlier_than
  earlier-bound v h u l k = implied (ltb (set_of p u) (set_of p v)) (bit s u) (each p (λ u. implies (ltb (set_of p u) (set_of p v)) (state_of s u)) h u l) (lt-ltb _ _ k)

  bound-earlier : (v : ℕ) → ((u : ℕ) → u < p.n → set_of p u < set_of p v → bit s u ≡ true) → earlier_than v ≡ true
  unfolding earlier_than
  bound-earlier v f = all-upto-true (λ u. implies (ltb (set_of p u) (set_of p v)) (state_of s u)) p.n (λ u l. implied-of (ltb (set_of p u) (set_of p v)) (bit s u) (λ e. f u l (ltb-true _ _ e)))

  state-closed :
      is_state p s ≡ true → (v : ℕ) → v < p.n → bit s v ≡ true → (u : ℕ) → u < p.n → set_of p u < set_of p v
      → bit s u ≡ true
  unfolding is_state earlier_than
  state-closed h v l e = earlier-bound v (implied (state_of s v) (earlier_than v) (each p (λ v. implies (state_of s v) (earlier_than v)) (both {a = ltb s (2 ^ p.n)} h).1 v l) e)

  closed-state :
      s < 2 ^ p.n → ((v : ℕ) → v < p.n → bit s v ≡ true → (u : ℕ) → u < p.n → set_of p u < set_of p v → bit s u ≡ true)
      → is_state p s ≡ true
  unfolding is_state earlier_than
  closed-state h f = and-of _ _ (lt-ltb _ _ h) (all-upto-true (λ v. implies (state_of s v) (earlier_than v)) p.n (λ v l. implied-of (state_of s v) (earlier_than v) (λ e. bound-earlier v (f v l e))))

-- ## The settled bits

module _ (p : Pattern) (v : ℕ) (inside : v < p.n) where
  free : ℕ → Bool
  free u = eqb (set_of p u) (set_of p v) && not (eqb u v)

  want : Bool → ℕ → Bool
  want b u = ltb (set_of p u) (set_of p v) || (eqb u v && b)

  free_other : (u : ℕ) → ¬ (set_of p u ≡ set_of p v) → free u ≡ false
  unfolding free
  free_other u h = rw (ne_eqb _ _ h)

  free-here : free v ≡ false
  unfolding free
  free-here = rw (eq-eqb v v refl) (and-false (eqb (set_of p v) (set_of p v)))

  free-same : (u : ℕ) → set_of p u ≡ set_of p v → eqb u v ≡ false → free u ≡ true
  unfolding free
  free-same u e d = rw (eq-eqb _ _ e, d)

  want-earlier : (b : Bool) (u : ℕ) → set_of p u < set_of p v → want b u ≡ true
  unfolding want
  want-earlier b u h = rw (lt-ltb _ _ h)

  want-later : (b : Bool) (u : ℕ) → set_of p v < set_of p u → want b u ≡ false
  unfolding want
  want-later b u h =
      let other : ¬ (u ≡ v) = λ e. (let d = ap (set_of p) e in omega arith) in
      let after : set_of p v ≤ set_of p u = omega arith in
      rw (le-ltb _ _ after, ne_eqb _ _ other)

  want-here : (b : Bool) → want b v ≡ b
  unfolding want
  want-here b =
      let same : set_of p v ≤ set_of p v = omega arith in
      rw (le-ltb _ _ same, eq-eqb v v refl)

  module _ (s : ℕ) (b : Bool) where
    asked-chosen : asked free (want b) p.n s ≡ true → Chosen p v s b
    asked-chosen e =
        let at = every_true (allowed free (want b) s) p.n e in
        record {
          earlier = λ u l h. forced (free u) (bit s u) (want b u) (free_other u (λ d. omega arith)) (at u l) ∙ want-earlier b u h;
          later = λ u l h. forced (free u) (bit s u) (want b u) (free_other u (λ d. omega arith)) (at u l) ∙ want-later b u h;
          here = forced (free v) (bit s v) (want b v) free-here (at v inside) ∙ want-here b;
        }

    chosen-asked : Chosen p v s b → asked free (want b) p.n s ≡ true
    chosen-asked c =
        every_of (allowed free (want b) s) p.n
        (λ u l. by_order (set_of p u) (set_of p v)
        (λ h. forced-of (free u) (bit s u) (want b u) (c.earlier u l h ∙ sym (want-earlier b u h)))
        (λ g. by_order (set_of p v) (set_of p u)
        (λ h. forced-of (free u) (bit s u) (want b u) (c.later u l h ∙ sym (want-later b u h)))
        (λ k. by-test (eqb u v)
        (λ e. forced-of (free u) (bit s u) (want b u) (subst (λ (w : ℕ). bit s w ≡ want b w) (sym (eqb-true u v e)) (c.here ∙ sym (want-here b))))
        (λ e. let q : set_of p u ≡ set_of p v = omega arith in rw (free-same u q e)))))

    -- such a number is a state
    chosen-state : s < 2 ^ p.n → Chosen p v s b → is_state p s ≡ true
    chosen-state h c =
        closed-state p s h
        (λ w l e u k g. by_order (set_of p v) (set_of p w)
        (λ after. clash e (c.later w l after))
        (λ before. c.earlier u k (omega arith)))

  -- ## A variable that opens

  module _ (s : ℕ) (small : s < 2 ^ p.n) where
    open-chosen : is_state p s && opens p (state_of s) v ≡ true → Chosen p v s false
    unfolding opens earlier_than
    open-chosen h =
        let parts = both {a = is_state p s} h in
        let opened = both {a = not (bit s v)} parts.1 in
        let unbound = not-true (bit s v) opened.0 in
        record {
          earlier = earlier-bound p s v opened.1;
          later = λ u l g. by-test (bit s u) (λ e. clash (state-closed p s parts.0 u l e v inside g) unbound) (λ e. e);
          here = unbound;
        }

    chosen-open : Chosen p v s false → is_state p s && opens p (state_of s) v ≡ true
    unfolding opens earlier_than
    chosen-open c = and-of _ _ (chosen-state s false small c) (and-of _ _ (ap not c.here) (bound-earlier p s v c.earlier))

    opens-asked : is_state p s && opens p (state_of s) v ≡ asked free (want false) p.n s
    opens-asked = same_test _ _ (λ e. chosen-asked s false (open-chosen e)) (λ e. chosen-open (asked-chosen s false e))

    -- ## A loop

    module _ (group : is_group p v ≡ true) where
      loop-chosen : is_state p s && loops p (state_of s) v ≡ true → Chosen p v s true
      unfolding loops
      loop-chosen h =
          let parts = both {a = is_state p s} h in
          let loop = both {a = bit s v} parts.1 in
          let after = (both {a = is_group p v} loop.1).1 in
          record {
            earlier = state-closed p s parts.0 v inside loop.0;
            later = λ u l g. not-true (bit s u) (implied (ltb (set_of p v) (set_of p u)) (not (bit s u)) (each p (λ u. implies (ltb (set_of p v) (set_of p u)) (not (state_of s u))) after u l) (lt-ltb _ _ g));
            here = loop.0;
          }

      chosen-loop : Chosen p v s true → is_state p s && loops p (state_of s) v ≡ true
      unfolding loops
      chosen-loop c =
          and-of _ _ (chosen-state s true small c)
          (and-of _ _ c.here
          (and-of _ _ group
          (all-upto-true (λ u. implies (ltb (set_of p v) (set_of p u)) (not (state_of s u))) p.n
          (λ u l. implied-of (ltb (set_of p v) (set_of p u)) (not (bit s u)) (λ e. ap not (c.later u l (ltb-true _ _ e)))))))

      loops-asked : is_state p s && loops p (state_of s) v ≡ asked free (want true) p.n s
      loops-asked = same_test _ _ (λ e. chosen-asked s true (loop-chosen e)) (λ e. chosen-loop (asked-chosen s true e))

  -- ## How many states

  free-count : count free p.n ≡ set_size p (set_of p v) - 1
  unfolding free
  free-count = omega (arith, count-but (λ u. eqb (set_of p u) (set_of p v)) v p.n inside (eq-eqb (set_of p v) (set_of p v) refl))

  asked-count :
      (b : Bool) → sum (λ s. one_if (asked free (want b) p.n s)) (2 ^ p.n) ≡ 2 ^ (set_size p (set_of p v) - 1)
  asked-count b = count-asked free (want b) p.n ∙ ap (λ (k : ℕ). 2 ^ k) free-count

  opens-count : sum (λ s. one_if (is_state p s && opens p (state_of s) v)) (2 ^ p.n) ≡ 2 ^ (set_size p (set_of p v) - 1)
  opens-count = sum_same _ _ (2 ^ p.n) (λ s h. ap one_if (opens-asked s h)) ∙ asked-count false

  no_loop : (s : ℕ) → is_group p v ≡ false → is_state p s && loops p (state_of s) v ≡ false
  unfolding loops
  no_loop s e = rw (e, and-false (bit s v)) (and-false (is_state p s))

  loops-count :
      sum (λ s. one_if (is_state p s && loops p (state_of s) v)) (2 ^ p.n)
      ≡ one_if (is_group p v) * 2 ^ (set_size p (set_of p v) - 1)
  loops-count =
      by-test (is_group p v)
      (λ e. sum_same _ _ (2 ^ p.n) (λ s h. ap one_if (loops-asked s h e)) ∙ asked-count true ∙ rw e (sym (one-mul _)))
      (λ e. sum-zero _ (2 ^ p.n) (λ s h. ap one_if (no_loop s e)) ∙ rw e (sym (zero-mul _)))

  -- an unbound variable is no loop
  exclusive : (a o l : Bool) → (o ≡ true → l ≡ false) → one_if (a && (o || l)) ≡ one_if (a && o) + one_if (a && l)
  exclusive true true l f = rw (f refl)
  exclusive true false l f = sym (zero-add (one_if l))
  exclusive false o l f = refl

  open-no-loop : (s : ℕ) → opens p (state_of s) v ≡ true → loops p (state_of s) v ≡ false
  unfolding opens loops
  open-no-loop s h = rw (not-true (bit s v) (both {a = not (bit s v)} h).0)

  leaves_either : (s : ℕ) → leaves p (state_of s) v ≡ opens p (state_of s) v || loops p (state_of s) v
  unfolding leaves
  leaves_either s = rw (lt-ltb _ _ inside)

  -- a variable leaves as many states as its set has parts without it, and once more as many where it is a
  -- group variable
  pub leaves-count :
      sum (λ s. one_if (is_state p s && leaves p (state_of s) v)) (2 ^ p.n)
      ≡ (1 + one_if (is_group p v)) * 2 ^ (set_size p (set_of p v) - 1)
  leaves-count =
      sum_same _ _ (2 ^ p.n) (λ s h. ap (λ (t : Bool). one_if (is_state p s && t)) (leaves_either s) ∙ exclusive (is_state p s) (opens p (state_of s) v) (loops p (state_of s) v) (open-no-loop s))
      ∙ sum-add (λ s. one_if (is_state p s && opens p (state_of s) v)) (λ s. one_if (is_state p s && loops p (state_of s) v)) (2 ^ p.n)
      ∙ ap₂ ◌+◌ (opens-count ∙ sym (one-mul _)) loops-count
      ∙ sym (add-mul 1 (one_if (is_group p v)) (2 ^ (set_size p (set_of p v) - 1)))
