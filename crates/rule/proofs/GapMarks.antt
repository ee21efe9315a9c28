-- What the marks of a gap tell (rule 5.8). With mark 4 no step leaves the state of a full reading, so no event is ever
-- bound to it; with mark 3 some step does. Assumes nothing.
use mathlib.Core.Path.{◌≡◌, refl, ap}
use mathlib.Core.Bool.{Bool, true, false, not, ◌&&◌, true≢false}
use mathlib.Core.List.{List, [], ◌∷◌, Memᴰ}
use Prim.Native.Nat.{ℕ, zero, suc, ◌+◌, ◌-◌, ◌≤◌, ◌<◌}
use native.Mathlib.Omega.{arith}
use lib.Dec.{eqb, ltb}
use borrow.Author.Tests.{lt-ltb, le-ltb, ltb-true, eq-eqb, eqb-true, not-true}
use Rattle.numbers.proofs.Cases.{by-test, by_order}
use Rattle.patterns.specs.declared.Pattern.{Pattern}
use Rattle.patterns.specs.Checked.{set_of, is_group, InOrder}
use Rattle.automaton.specs.Filtering.{implies, all}
use Rattle.automaton.specs.Automaton.{State, variables_of, opens, loops, leaves}
use Rattle.automaton.proofs.Membership.{both, clash, all-mem, upto-mem, upto-below}
use Rattle.automaton.proofs.All.{all_of}
use Rattle.rule.specs.Rule.{Block, Reading, binds, in_order, allowed, fires, is_full, open_mark, complete_mark}
use Rattle.rule.specs.Rule.{last_set_plain, gap_mark}
use Rattle.rule.proofs.EveryReading.{or_right, given, opens-new}

-- ## The mark by the last set

module _ (p : Pattern) where
  pub mark-plain : last_set_plain p ≡ true → gap_mark p ≡ complete_mark
  unfolding gap_mark
  mark-plain e = rw (e, gap_mark)

  pub mark-group : last_set_plain p ≡ false → gap_mark p ≡ open_mark
  unfolding gap_mark
  mark-group e = rw (e, gap_mark)

  pub gap-mark-range : (open_mark ≤ gap_mark p) × (gap_mark p ≤ complete_mark)
  gap-mark-range =
      by-test (last_set_plain p)
      (λ e. let m = mark-plain e in (omega arith, omega arith))
      (λ e. let m = mark-group e in (omega arith, omega arith))

  plain-mark : gap_mark p ≡ complete_mark → last_set_plain p ≡ true
  plain-mark m = by-test (last_set_plain p) (λ e. e) (λ e. absurd (omega (arith, m, mark-group e)))

  group-mark : gap_mark p ≡ open_mark → last_set_plain p ≡ false
  group-mark m = by-test (last_set_plain p) (λ e. absurd (omega (arith, m, mark-plain e))) (λ e. e)

-- ## Sets climb

module _ (p : Pattern) (o : InOrder p) where
  sets-climb : (v d : ℕ) → v + d < p.n → set_of p v ≤ set_of p (v + d)
  sets-climb v zero h = let e : v + 0 ≡ v = omega arith in omega (arith, ap (set_of p) e)
  sets-climb v (suc d) h =
      let e : v + suc d ≡ suc (v + d) = omega arith in
      omega (arith, sets-climb v d (omega arith), (o.climbs (v + d) (omega arith)).0, ap (set_of p) e)

  last_set : (v : ℕ) → v < p.n → set_of p v ≤ set_of p (p.n - 1)
  last_set v l =
      let e : v + (p.n - 1 - v) ≡ p.n - 1 = omega arith in
      omega (arith, sets-climb v (p.n - 1 - v) (omega arith), ap (set_of p) e)

-- ## Steps from a state in which every variable is bound

-- an entry that fails a test
fails-at : {A : Type 0} (f : A → Bool) (l : List A) → all f l ≡ false → (a : A) × Memᴰ a l × (f a ≡ false)
unfolding all
fails-at f [] e = absurd (true≢false e)
fails-at {A} f (x ∷ l) e = go (λ h. fails-at f l h) (f x) refl e
  where
    go :
        (all f l ≡ false → (a : A) × Memᴰ a l × (f a ≡ false)) → (t : Bool) → f x ≡ t → t && all f l ≡ false
        → (a : A) × Memᴰ a (x ∷ l) × (f a ≡ false)
    go ih true d h = let q = ih h in (q.0, Memᴰ.tail q.1, q.2)
    go ih false d h = (x, Memᴰ.head refl, d)

implied-not : (s t : Bool) → implies s (not t) ≡ false → (s ≡ true) × (t ≡ true)
implied-not true true e = (refl, refl)
implied-not true false e = absurd (true≢false e)
implied-not false t e = absurd (true≢false e)

module _ (p : Pattern) (o : InOrder p) (S : State) (full : all S (variables_of p) ≡ true) where
  bound : (v : ℕ) → v < p.n → S v ≡ true
  bound v l = all-mem S (upto-mem 0 p.n v (omega arith) (omega arith)) full

  -- what loops is a group variable of the last set
  loop-last : (v : ℕ) → v < p.n → loops p S v ≡ true → (is_group p v ≡ true) × (set_of p v ≡ set_of p (p.n - 1))
  unfolding loops
  loop-last v l h =
      let some = o.some in
      let q = both {a = is_group p v} (both {a = S v} h).1 in
      let last = all-mem (λ u. implies (ltb (set_of p v) (set_of p u)) (not (S u))) (upto-mem 0 p.n (p.n - 1) (omega arith) (omega arith)) q.1 in (
        q.0,
        by_order (set_of p v) (set_of p (p.n - 1))
            (λ k. clash (bound (p.n - 1) (omega arith)) (not-true (S (p.n - 1)) (given (ltb (set_of p v) (set_of p (p.n - 1))) last (lt-ltb _ _ k))))
            (λ k. omega (arith, last_set p o v l)),
      )

  pub plain-ends : last_set_plain p ≡ true → (v : ℕ) → leaves p S v ≡ false
  unfolding leaves last_set_plain
  plain-ends e v =
      by-test (leaves p S v)
      (λ h.
      let q = both {a = ltb v p.n} h in
      let l = ltb-true v p.n q.0 in
      by-test (opens p S v)
      (λ s. clash (bound v l) (opens-new p [] S v s))
      (λ s.
      let loop = loop-last v l (rw s at q.1) in
      let plain = all-mem (λ w. implies (eqb (set_of p w) (set_of p (p.n - 1))) (not (is_group p w))) (upto-mem 0 p.n v (omega arith) (omega arith)) e in
      clash loop.0 (not-true (is_group p v) (given (eqb (set_of p v) (set_of p (p.n - 1))) plain (eq-eqb _ _ loop.1)))))
      (λ h. h)

  pub group-leaves : last_set_plain p ≡ false → (v : ℕ) × (leaves p S v ≡ true)
  unfolding leaves loops last_set_plain
  group-leaves e =
      let q = fails-at (λ w. implies (eqb (set_of p w) (set_of p (p.n - 1))) (not (is_group p w))) (variables_of p) e in
      let v = q.0 in
      let l : v < p.n = omega (arith, upto-below 0 p.n q.1) in
      let group = implied-not (eqb (set_of p v) (set_of p (p.n - 1))) (is_group p v) q.2 in
      let last : set_of p v ≡ set_of p (p.n - 1) = eqb-true _ _ group.0 in
      let later : all (λ u. implies (ltb (set_of p v) (set_of p u)) (not (S u))) (variables_of p) ≡ true =
      all_of _ (variables_of p) (λ u m. rw (le-ltb (set_of p v) (set_of p u) (omega (arith, last_set p o u (omega (arith, upto-below 0 p.n m))))) refl) in
      (v, rw (lt-ltb v p.n l) (or_right (opens p S v) (rw (bound v l, group.1) later)))

-- ## Full readings

module _ (p : Pattern) (o : InOrder p) (r : Reading) (full : is_full p r ≡ true) where
  -- mark 4: no step leaves the state
  pub complete-ends : gap_mark p ≡ complete_mark → (v : ℕ) → leaves p (binds r) v ≡ false
  unfolding is_full
  complete-ends m = plain-ends p o (binds r) full (plain-mark p m)

  -- so that no step fires, at any record of any block
  pub complete-takes-none : gap_mark p ≡ complete_mark → (B : Block) (v j : ℕ) → fires p B r v j ≡ false
  unfolding fires
  complete-takes-none m B v j = ap (λ (t : Bool). t && (in_order p B r v j && allowed p B r v j)) (complete-ends m v)

  -- mark 3: some step leaves it
  pub open-leaves : gap_mark p ≡ open_mark → (v : ℕ) × (leaves p (binds r) v ≡ true)
  unfolding is_full
  open-leaves m = group-leaves p o (binds r) full (group-mark p m)
