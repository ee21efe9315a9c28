-- The mark of a gap by the plan is the rule's: a step leaves the state of all variables exactly where the last set has
-- a group variable. Assumes nothing.
use Rattle.std.proofs.Common.{◌≡◌, refl, sym, ap, ap₂, ◌∙◌, Bool, true, false, not, List, ℕ, ◌-◌, ◌<◌, ◌^◌, arith}
use Rattle.std.proofs.Common.{ltb, pow_mono}
use borrow.Author.Tests.{ltb-true, not-true}
use Rattle.numbers.specs.Numbers.{every}
use Rattle.numbers.specs.Bits.{bit, mask, within, disjoint}
use Rattle.numbers.proofs.Cases.{by-test, both}
use Rattle.numbers.proofs.Every.{every_of, every_true}
use Rattle.numbers.proofs.Bits.{mask-all, mask-inside, mask-of-bits}
use Rattle.patterns.specs.declared.Pattern.{Pattern}
use Rattle.patterns.specs.Patterns.{most_variables}
use Rattle.patterns.specs.Checked.{InOrder}
use Rattle.automaton.specs.Filtering.{all}
use Rattle.automaton.specs.Automaton.{variables_of, leaves}
use Rattle.automaton.proofs.Membership.{clash, all-upto-true}
use Rattle.rule.specs.Rule.{open_mark, complete_mark, last_set_plain, gap_mark}
use Rattle.rule.proofs.GapMarks.{mark-plain, mark-group, plain-ends, group-leaves}
use Rattle.plans.specs.Plan.{variable_mask, IsPlan}
use Rattle.plans.proofs.States.{leaves_by_lem}
use Rattle.plans.proofs.Plans.{before-in, after-in}
use Rattle.firing.specs.Firing.{leaves_by}
use Rattle.closings.specs.Closings.{gap_mark_by}

module _ (plan : List ℕ) (n : ℕ) where
  abbrev stays : ℕ → Bool
  stays v = not (leaves_by plan (2 ^ n - 1) v)

  pub gap-open : (v : ℕ) → v < n → leaves_by plan (2 ^ n - 1) v ≡ true → open_mark ≡ gap_mark_by plan n
  unfolding gap_mark_by
  gap-open v l h =
      let e : every stays n ≡ false =
      by-test (every stays n) (λ t. clash h (not-true (leaves_by plan (2 ^ n - 1) v) (every_true stays n t v l))) (λ t. t) in
      rw (e, gap_mark_by)

  pub gap-complete : ((v : ℕ) → v < n → leaves_by plan (2 ^ n - 1) v ≡ false) → complete_mark ≡ gap_mark_by plan n
  unfolding gap_mark_by
  gap-complete h = let e = every_of stays n (λ v l. ap not (h v l)) in rw (e, gap_mark_by)

module _ (p : Pattern) (o : InOrder p) (plan : List ℕ) (is : IsPlan p plan) where
  abbrev state : ℕ
  state = 2 ^ p.n - 1

  bound : (v : ℕ) → v < p.n → bit state v ≡ true
  bound v l = ap (λ (x : ℕ). bit x v) (sym (mask-all (λ u. true) p.n (λ u. refl))) ∙ mask-inside (λ u. true) p.n v l

  full : all (bit state) (variables_of p) ≡ true
  full = all-upto-true (bit state) p.n bound

  leaving-full : (v : ℕ) → v < p.n → leaves_by plan state v ≡ leaves p (bit state) v
  unfolding leaves_by
  leaving-full v l =
      let few = o.few in
      let narrow : v < most_variables = omega arith in
      let most = pow_mono {i = p.n} {j = most_variables} o.few in
      let same : mask (bit state) most_variables ≡ state = mask-of-bits state most_variables (omega arith) in
      ap₂ (λ (a b : ℕ). elim (bit state v) [ true ↦ disjoint state a | false ↦ within b state ])
      (after-in p plan is v narrow)
      (before-in p plan is v narrow)
      ∙ ap (λ (s : ℕ). elim (bit s v) [ true ↦ disjoint s (variable_mask p 1 v) | false ↦ within (variable_mask p 0 v) s ]) (sym same)
      ∙ leaves_by_lem p o.few (bit state) v l

  below : (v : ℕ) → leaves p (bit state) v ≡ true → v < p.n
  unfolding leaves
  below v h = ltb-true v p.n (both (ltb v p.n) _ h).0

  pub gap-mark-by : gap_mark_by plan p.n ≡ gap_mark p
  gap-mark-by =
      by-test (last_set_plain p)
      (λ e. sym (gap-complete plan p.n (λ v l. leaving-full v l ∙ plain-ends p o (bit state) full e v)) ∙ sym (mark-plain p e))
      (λ e.
      let q = group-leaves p o (bit state) full e in
      let l = below q.0 q.1 in
      sym (gap-open plan p.n q.0 l (leaving-full q.0 l ∙ q.1)) ∙ sym (mark-group p e))
