-- Every line of a report tells of a reading that meets Definition 2, conditions 1 to 3, and no gap stands between its
-- records. Assumes nothing.
use mathlib.Core.Path.{◌≡◌, refl, sym, ap, subst, ◌∙◌}
use mathlib.Core.Logic.{◌⊎◌, inl, inr}
use mathlib.Core.Bool.{Bool, true, false, ◌||◌, false≢true}
use mathlib.Core.List.{List, [], ◌∷◌, ◌++◌, Memᴰ}
use Prim.Native.Nat.{ℕ, ◌+◌, ◌≤◌, ◌<◌}
use native.Mathlib.Omega.{arith}
use native.Mathlib.Decide.{ℕ_discrete}
use lib.Dec.{eqb}
use lib.ListN.{length}
use borrow.Author.Tests.{eq-eqb, eqb-true}
use Rattle.records.specs.declared.Record.{Record}
use Rattle.patterns.specs.declared.Condition.{Condition}
use Rattle.patterns.specs.declared.Pattern.{Pattern}
use Rattle.patterns.specs.Checked.{set_of, is_group, condition_at, InOrder}
use Rattle.patterns.specs.Comparison.{holds, compared_with}
use Rattle.automaton.specs.Filtering.{keep, filter}
use Rattle.automaton.specs.Automaton.{State, opens, loops, conditions}
use Rattle.automaton.proofs.Membership.{both, clash, all-mem, mem-map, upto-mem, upto-below}
use Rattle.numbers.proofs.Cases.{neither}
use Rattle.rule.specs.Rule.{Block, Binding, Reading, Line, Event, Report, record_in, time_at, start_of, last_of}
use Rattle.rule.specs.Rule.{binds, is_full, TimesNeverFall}
use Rattle.rule.specs.Growth.{Partial, Live}
use Rattle.rule.specs.Calls.{input_answer, pattern_in, block_in}
use Rattle.rule.proofs.EveryReading.{below, constant-holds, pair-holds, opens-or-loops, opens-new, bound-span}
use Rattle.rule.proofs.EveryReading.{duration, variable-in}
use Rattle.rule.proofs.ReadingBounds.{bound-in, set-order-time}
use Rattle.rule.proofs.Report.{spans}
use Rattle.rule.proofs.Written.{written-reported}
use Rattle.rule.proofs.Inputs.{input-in-order, times-never-fall}

-- the bindings of a reading that are of variable v
abbrev pub bindings_of : ℕ → Reading → Reading
bindings_of v r = filter (λ (b : Binding). eqb b.variable v) r

-- one binding for each variable, of those that the reading has: the record that is chosen for each
pub record Choice (p : Pattern) (r : Reading) (chosen : ℕ → ℕ) : Type 0 where
  pub bound : (v : ℕ) → v < p.n → Memᴰ (record { variable = v; at = chosen v }) r

-- What a reported reading has.
pub record Sound (p : Pattern) (B : Block) (r : Reading) : Type 0 where
  -- every variable is bound, and one that is no group variable once;
  pub once : (v : ℕ) → v < p.n → is_group p v ≡ false → length (bindings_of v r) ≡ 1
  pub one_or_more : (v : ℕ) → v < p.n → 1 ≤ length (bindings_of v r)
  -- nothing else is,
  pub variable : (b : Binding) → Memᴰ b r → b.variable < p.n
  -- and to events of the block, no two bindings to one: what is bound before b, and so stands behind it, is of an
  -- earlier record.
  pub event : (b : Binding) → Memᴰ b r → Event B b.at
  pub distinct :
      (t : Reading) (b : Binding) (s : Reading) → r ≡ t ++ (b ∷ s) → (a : Binding) → Memᴰ a s → a.at < b.at
  -- Condition 1, a condition with a constant: it holds of each binding of its variable.
  pub constant : (k : Condition) → Memᴰ k (conditions p) → k.form ≡ 0
      → (a : Binding) → Memᴰ a r → a.variable ≡ k.variable
      → holds k (record_in B a.at) (record_in B a.at) ≡ true
  -- Condition 1, a condition with two variables: it holds of each combination of their bindings; if it names one
  -- variable twice, of each binding with itself.
  pub pair : (k : Condition) → Memᴰ k (conditions p) → ¬ (k.form ≡ 0)
      → (a b : Binding) → Memᴰ a r → Memᴰ b r → a.variable ≡ k.variable → b.variable ≡ k.variable2
      → (k.variable ≡ k.variable2 → a ≡ b)
      → holds k (record_in B a.at) (record_in B b.at) ≡ true
  -- Condition 1, in the paper's form: with one binding chosen of each variable, however they are chosen, all conditions
  -- hold.
  pub choice : (chosen : ℕ → ℕ) → Choice p r chosen → (k : Condition) → Memᴰ k (conditions p)
      → holds k (record_in B (chosen k.variable)) (record_in B (chosen k.variable2)) ≡ true
  -- Condition 2: of two sets, the earlier one's events have the smaller times.
  pub order : (a b : Binding) → Memᴰ a r → Memᴰ b r → set_of p a.variable < set_of p b.variable
      → time_at B a.at < time_at B b.at
  -- Condition 3: no two events are further apart than the duration.
  pub duration : (a b : Binding) → Memᴰ a r → Memᴰ b r → time_at B b.at ≤ time_at B a.at + p.duration
  -- a reading does not reach over a gap: each record from its first to its last is an event
  pub no_gap : (i : ℕ) → start_of r ≤ i → i ≤ last_of r → Event B i
  pub within : (b : Binding) → Memᴰ b r → (start_of r ≤ b.at) × (b.at ≤ last_of r)

-- ## Counts of bindings

none-bound : (r : Reading) (v : ℕ) → binds r v ≡ false → length (bindings_of v r) ≡ 0
unfolding binds filter keep
none-bound [] v h = refl
none-bound (b ∷ r) v h = let q = neither (eqb b.variable v) (binds r v) h in rw q.0 (none-bound r v q.1)

some-bound : (r : Reading) (v : ℕ) → binds r v ≡ true → 1 ≤ length (bindings_of v r)
unfolding binds filter keep
some-bound [] v h = absurd (false≢true h)
some-bound (b ∷ r) v h = go (eqb b.variable v) h (some-bound r v)
  where
    go :
        (t : Bool) → t || binds r v ≡ true → (binds r v ≡ true → 1 ≤ length (bindings_of v r))
        → 1 ≤ length (keep t b (bindings_of v r))
    go true e ih = omega arith
    go false e ih = ih e

module _ (p : Pattern) (B : Block) where
  loops-group : (S : State) (v : ℕ) → loops p S v ≡ true → is_group p v ≡ true
  unfolding loops
  loops-group S v h = (both {a = is_group p v} (both {a = S v} h).1).0

  -- a variable that is no group variable is not bound again
  not-again :
      (x : Binding) (r : Reading) → Partial p B (x ∷ r) → is_group p x.variable ≡ false
      → binds r x.variable ≡ false
  not-again x r h g = go (opens-or-loops p B x r h)
    where
      go :
          (opens p (binds r) x.variable ≡ true) ⊎ (loops p (binds r) x.variable ≡ true)
          → binds r x.variable ≡ false
      go (inl o) = opens-new p B (binds r) x.variable o
      go (inr o) = clash (loops-group (binds r) x.variable o) g

  one_more :
      (x : Binding) (r : Reading) → Partial p B (x ∷ r) → (v : ℕ) → is_group p v ≡ false → length (bindings_of v r) ≤ 1
      → length (bindings_of v (x ∷ r)) ≤ 1
  unfolding filter keep
  one_more x r h v g l = go (eqb x.variable v) refl
    where
      go : (t : Bool) → eqb x.variable v ≡ t → length (keep t x (bindings_of v r)) ≤ 1
      go true e = let q = eqb-true x.variable v e in omega (arith, none-bound r v (subst (λ u. binds r u ≡ false) q (not-again x r h (subst (λ u. is_group p u ≡ false) (sym q) g))))
      go false e = l

  at-most-once : (r : Reading) → Partial p B r → (v : ℕ) → is_group p v ≡ false → length (bindings_of v r) ≤ 1
  unfolding filter
  at-most-once [] h v g = absurd h
  at-most-once (x ∷ []) h v g = one_more x [] h v g (omega arith)
  at-most-once (x ∷ y ∷ r) h v g = one_more x (y ∷ r) h v g (at-most-once (y ∷ r) h.0 v g)

  -- ## From the first record to the last

  last-bound : (r : Reading) → Partial p B r → (b : Binding) → Memᴰ b r → b.at ≤ last_of r
  last-bound [] h b _ = elim h [ ]
  last-bound (x ∷ r) h b (Memᴰ.head e) = omega (arith, ap (λ (c : Binding). c.at) e)
  last-bound (x ∷ r) h b (Memᴰ.tail m) = omega (arith, below p B x r h m)

  -- what stands behind a binding is a partial reading too
  ends_at : (t : Reading) (b : Binding) (s : Reading) → Partial p B (t ++ (b ∷ s)) → Partial p B (b ∷ s)
  ends_at [] b s h = h
  ends_at (x ∷ []) b s h = h.0
  ends_at (x ∷ y ∷ t) b s h = ends_at (y ∷ t) b s h.0

-- ## Conditions

-- with a constant the second record is not looked at
constant-alone : (k : Condition) (a b c : Record) → k.form ≡ 0 → holds k a b ≡ holds k a c
unfolding holds compared_with
constant-alone k a b c e = rw (eq-eqb k.form 0 e, compared_with)

module _ (p : Pattern) (B : Block) (mono : TimesNeverFall B) (checked : InOrder p) (r : Reading)
    (reads : Partial p B r) where
  choice-holds :
      (chosen : ℕ → ℕ) → Choice p r chosen → (k : Condition) → Memᴰ k (conditions p)
      → holds k (record_in B (chosen k.variable)) (record_in B (chosen k.variable2)) ≡ true
  choice-holds chosen c k m =
      let q = mem-map (condition_at p) _ m in
      let i = upto-below 0 p.c q.1 in
      let v = subst (λ (c : Condition). c.variable < p.n) (sym q.2) (checked.variable q.0 (omega arith)) in
      let w = subst (λ (c : Condition). c.variable2 < p.n) (sym q.2) (checked.variable2 q.0 (omega arith)) in
      of-form (c.bound k.variable v) (c.bound k.variable2 w) (ℕ_discrete k.form 0)
    where
      a : Binding
      a = record { variable = k.variable; at = chosen k.variable }

      b : Binding
      b = record { variable = k.variable2; at = chosen k.variable2 }

      of-form :
          Memᴰ a r → Memᴰ b r → Dec (k.form ≡ 0) → holds k (record_in B a.at) (record_in B b.at) ≡ true
      of-form i j (yes e) = constant-alone k (record_in B a.at) (record_in B b.at) (record_in B a.at) e ∙ constant-holds p B r reads k m e a i refl
      of-form i j (no n) = pair-holds p B r reads k m n a b i j refl refl (λ e. ap (λ u. record { variable = u; at = chosen u }) e)

module _ (p : Pattern) (B : Block) (mono : TimesNeverFall B) (checked : InOrder p) where
  -- whatever is live and full
  live-sound : (r : Reading) (k : ℕ) → Live p B r k → is_full p r ≡ true → Sound p B r
  unfolding is_full
  live-sound r k live full =
      let h = live.reads in
      let events : (i : ℕ) → start_of r ≤ i → i ≤ last_of r → Event B i = λ i lo hi. (spans p B r k h live.kept i lo (omega (arith, live.kept.later))).0 in
      let bound : (v : ℕ) → v < p.n → binds r v ≡ true = λ v l. all-mem (binds r) (upto-mem 0 p.n v (omega arith) (omega arith)) full in
      record {
        once = λ v l g. omega (arith, at-most-once p B r h v g, some-bound r v (bound v l));
        one_or_more = λ v l. some-bound r v (bound v l);
        variable = λ b m. variable-in p B r h m;
        event = λ b m. events b.at (bound-span p B r h m).0 (last-bound p B r h b m);
        distinct = λ t b s e a m. below p B b s (ends_at p B t b s (subst (Partial p B) e h)) m;
        constant = λ c m f a i e. constant-holds p B r h c m f a i e;
        pair = λ c m f a b i j d e s. pair-holds p B r h c m f a b i j d e s;
        choice = choice-holds p B mono checked r h;
        order = λ a b i j l. set-order-time p B mono checked r h a b i j l;
        duration = λ a b i j. duration p B mono r h a b i j (bound-in p B r h a i);
        no_gap = events;
        within = λ b m. ((bound-span p B r h m).0, last-bound p B r h b m);
      }

-- every line of a report, of what has closed at record J or before
pub report-sound :
    (p : Pattern) (B : Block) → TimesNeverFall B → InOrder p
    → (J : ℕ) (l : List Line) → Report p B J l → (x : Line) → Memᴰ x l
    → Sound p B x.reading
report-sound p B mono checked J l report x m =
    let q = written-reported p B mono J x (report.sound x m) in
    live-sound p B mono checked x.reading q.at q.live q.full

-- the same from the caller's bytes
pub input-report-sound :
    (pattern block : List ℕ) → (input_answer pattern block).code ≡ 0 → (J : ℕ) (l : List Line)
    → Report (pattern_in pattern) (block_in block) J l → (x : Line) → Memᴰ x l
    → Sound (pattern_in pattern) (block_in block) x.reading
input-report-sound pattern block accepted J l report x m =
    let q = input-in-order pattern block accepted in
    report-sound (pattern_in pattern) (block_in block) (times-never-fall block q.ordered) q.checked J l report x m
