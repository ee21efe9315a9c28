-- The masks of a plan against the number of a state: v leaves the state, and the order mark stands, exactly where the
-- automaton says so. Assumes nothing.
use Rattle.std.proofs.Common.{◌≡◌, ◌∙◌, refl, sym, ap, ap₂, Bool, true, false, not, ◌&&◌, ◌||◌, true≢false, ℕ, ◌≤◌}
use Rattle.std.proofs.Common.{◌<◌, arith, eqb, ltb, leb}
use mathlib.Core.Bool.{or-false}
use borrow.Author.Tests.{lt-ltb, lt-leb, eq-eqb, ltb-true, leb-false, not-true}
use Rattle.numbers.specs.Bits.{bit, mask, within, disjoint}
use Rattle.numbers.specs.Numbers.{every}
use Rattle.numbers.proofs.Cases.{by-test, neither, not-not, both, same_test}
use Rattle.numbers.proofs.Every.{every_of, every_true}
use Rattle.numbers.proofs.Bits.{mask-inside, mask-bit, within-mask, within-mask-of, disjoint-mask, disjoint-mask-of}
use Rattle.patterns.specs.declared.Pattern.{Pattern}
use Rattle.patterns.specs.Patterns.{most_variables}
use Rattle.patterns.specs.Checked.{set_of, is_group}
use Rattle.automaton.specs.Filtering.{implies, all}
use Rattle.automaton.specs.Automaton.{State, variables_of, opens, loops, leaves, marked}
use Rattle.automaton.proofs.Membership.{clash}
use Rattle.automaton.proofs.All.{implies-of, implies_true, all-upto}
use Rattle.plans.specs.Plan.{standing, stands, variable_mask}

not-of : (t : Bool) → t ≡ false → not t ≡ true
not-of t e = ap not e

or-of : (s t : Bool) → s ≡ false → t ≡ false → s || t ≡ false
or-of s t e f = ap₂ (λ (x y : Bool). x || y) e f

-- a test that cannot pass
fails : (t : Bool) → (t ≡ true → ⊥) → t ≡ false
fails true h = absurd (h refl)
fails false h = refl

module _ (p : Pattern) (few : p.n ≤ most_variables) (S : State) (v : ℕ) (l : v < p.n) where
  -- a bit of a mask of v, for a variable of the pattern
  in-mask : (which u : ℕ) → u < p.n → bit (variable_mask p which v) u ≡ stands p which v u
  unfolding variable_mask
  in-mask which u h = mask-inside (stands p which v) p.n u h

  -- a mask of v has no bit of a variable that fails its test
  out-mask : (which u : ℕ) → (u < p.n → stands p which v u ≡ false) → bit (variable_mask p which v) u ≡ false
  unfolding variable_mask
  out-mask which u f =
      mask-bit (stands p which v) p.n u
      ∙ by-test (ltb u p.n)
      (λ e. ap₂ (λ (s t : Bool). s && t) e (f (ltb-true u p.n e)))
      (λ e. ap (λ (s : Bool). s && stands p which v u) e)

  -- all of the earlier sets is bound
  opens_by :
      within (variable_mask p 0 v) (mask S most_variables)
      ≡ all (λ u. implies (ltb (set_of p u) (set_of p v)) (S u)) (variables_of p)
  unfolding variable_mask standing
  opens_by =
      let f : ℕ → Bool = λ u. implies (ltb (set_of p u) (set_of p v)) (S u) in
      same_test (within (variable_mask p 0 v) (mask S most_variables)) (every f p.n)
      (λ e. every_of f p.n (λ u h.
      implies-of (ltb (set_of p u) (set_of p v)) (S u)
      (λ t. sym (mask-inside S most_variables u (omega arith)) ∙ within-mask (stands p 0 v) (mask S most_variables) p.n e u h t)))
      (λ e. within-mask-of (stands p 0 v) (mask S most_variables) p.n (λ u h t.
      mask-inside S most_variables u (omega arith)
      ∙ implies_true (ltb (set_of p u) (set_of p v)) (S u) (every_true f p.n e u h) t))
      ∙ sym (all-upto f p.n)

  -- nothing of a later set is bound, and v is a group variable
  loops-by :
      S v ≡ true
      → disjoint (mask S most_variables) (variable_mask p 1 v)
      ≡ is_group p v && all (λ u. implies (ltb (set_of p v) (set_of p u)) (not (S u))) (variables_of p)
  unfolding standing
  loops-by bound =
      let f : ℕ → Bool = λ u. implies (ltb (set_of p v) (set_of p u)) (not (S u)) in
      same_test (disjoint (mask S most_variables) (variable_mask p 1 v)) (is_group p v && every f p.n)
      (λ e.
      let free : (u : ℕ) → u < p.n → S u ≡ true → ltb (set_of p v) (set_of p u) || (eqb u v && not (is_group p v)) ≡ false =
      λ u h s. sym (in-mask 1 u h) ∙ disjoint-mask S (variable_mask p 1 v) most_variables e u (omega arith) s in
      ap₂ (λ (s t : Bool). s && t)
      (not-not (is_group p v) (sym (ap (λ (t : Bool). t && not (is_group p v)) (eq-eqb v v refl)) ∙ (neither (ltb (set_of p v) (set_of p v)) (eqb v v && not (is_group p v)) (free v l bound)).1))
      (every_of f p.n (λ u h.
      implies-of (ltb (set_of p v) (set_of p u)) (not (S u))
      (λ t. not-of (S u) (fails (S u) (λ s. true≢false (sym t ∙ (neither (ltb (set_of p v) (set_of p u)) (eqb u v && not (is_group p v)) (free u h s)).0)))))))
      (λ e.
      let h = both (is_group p v) (every f p.n) e in
      disjoint-mask-of S (variable_mask p 1 v) most_variables (λ u k s.
      out-mask 1 u (λ m.
      or-of (ltb (set_of p v) (set_of p u)) (eqb u v && not (is_group p v))
      (fails (ltb (set_of p v) (set_of p u)) (λ t. clash s (not-true (S u) (implies_true (ltb (set_of p v) (set_of p u)) (not (S u)) (every_true f p.n h.1 u m) t))))
      (fails (eqb u v && not (is_group p v)) (λ t. clash h.0 (not-true (is_group p v) (both (eqb u v) (not (is_group p v)) t).1))))))
      ∙ ap (λ (t : Bool). is_group p v && t) (sym (all-upto f p.n))

  -- the order mark, where something is bound
  pub marked_by : (w : ℕ) → w < p.n → S w ≡ true → disjoint (mask S most_variables) (variable_mask p 2 v) ≡ marked p S v
  unfolding standing marked
  marked_by w small bound =
      let f : ℕ → Bool = λ u. implies (eqb (set_of p u) (set_of p v)) (not (S u)) in
      same_test (disjoint (mask S most_variables) (variable_mask p 2 v)) (ltb 1 (set_of p v) && every f p.n)
      (λ e.
      let free : (u : ℕ) → u < p.n → S u ≡ true → leb (set_of p v) 1 || eqb (set_of p u) (set_of p v) ≡ false =
      λ u h s. sym (in-mask 2 u h) ∙ disjoint-mask S (variable_mask p 2 v) most_variables e u (omega arith) s in
      ap₂ (λ (s t : Bool). s && t)
      (lt-ltb 1 (set_of p v) (leb-false (set_of p v) 1 (neither (leb (set_of p v) 1) (eqb (set_of p w) (set_of p v)) (free w small bound)).0))
      (every_of f p.n (λ u h.
      implies-of (eqb (set_of p u) (set_of p v)) (not (S u))
      (λ t. not-of (S u) (fails (S u) (λ s. true≢false (sym t ∙ (neither (leb (set_of p v) 1) (eqb (set_of p u) (set_of p v)) (free u h s)).1)))))))
      (λ e.
      let h = both (ltb 1 (set_of p v)) (every f p.n) e in
      disjoint-mask-of S (variable_mask p 2 v) most_variables (λ u k s.
      out-mask 2 u (λ m.
      or-of (leb (set_of p v) 1) (eqb (set_of p u) (set_of p v))
      (lt-leb (set_of p v) 1 (ltb-true 1 (set_of p v) h.0))
      (fails (eqb (set_of p u) (set_of p v)) (λ t. clash s (not-true (S u) (implies_true (eqb (set_of p u) (set_of p v)) (not (S u)) (every_true f p.n h.1 u m) t)))))))
      ∙ ap (λ (t : Bool). ltb 1 (set_of p v) && t) (sym (all-upto f p.n))

  leaves-bound : S v ≡ true → disjoint (mask S most_variables) (variable_mask p 1 v) ≡ leaves p S v
  unfolding leaves opens loops
  leaves-bound bound = rw (lt-ltb v p.n l, bound) (loops-by bound)

  leaves-unbound : S v ≡ false → within (variable_mask p 0 v) (mask S most_variables) ≡ leaves p S v
  unfolding leaves opens loops
  leaves-unbound free = rw (lt-ltb v p.n l, free) (opens_by ∙ sym (or-false (all (λ u. implies (ltb (set_of p u) (set_of p v)) (S u)) (variables_of p))))

  pub leaves_by_lem :
      elim (bit (mask S most_variables) v) [
        | true ↦ disjoint (mask S most_variables) (variable_mask p 1 v)
        | false ↦ within (variable_mask p 0 v) (mask S most_variables)
      ] ≡ leaves p S v
  leaves_by_lem =
      let b = mask-inside S most_variables v (omega arith) in
      by-test (S v) (λ e. rw (b, e) (leaves-bound e)) (λ e. rw (b, e) (leaves-unbound e))
