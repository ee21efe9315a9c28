-- What every partial reading has: no record twice, all conditions, set order, duration. Assumes nothing.
use mathlib.Core.Path.{◌≡◌, refl, sym, ap, ap₂, subst, subst₂, ◌∙◌}
use mathlib.Core.Logic.{◌⊎◌, inl, inr}
use mathlib.Core.Bool.{Bool, true, false, not, ◌&&◌, ◌||◌, false≢true}
use mathlib.Core.List.Memᴰ
use mathlib.Core.List.{[], ◌∷◌, map, nil≢cons, Memᴰ}
use Prim.Native.Nat.{ℕ, ◌+◌, ◌≤◌, ◌<◌}
use native.Mathlib.Omega.{arith}
use native.Mathlib.Decide.{ℕ_discrete}
use lib.ListN.{length}
use lib.Dec.{ltb, eqb}
use borrow.Author.Tests.{ltb-true, lt-ltb, eqb-true, eq-eqb, ne_eqb, not-true}
use Rattle.patterns.specs.declared.Condition.{Condition}
use Rattle.patterns.specs.declared.Pattern.{Pattern}
use Rattle.patterns.specs.Checked.{set_of, is_group}
use Rattle.patterns.specs.Comparison.{holds}
use Rattle.automaton.specs.Filtering.{all, filter, implies}
use Rattle.automaton.specs.Automaton.{leaves, opens, loops, carries, conditions}
use Rattle.rule.specs.Rule.{Block, Binding, Reading, PartialReading, start_of, InWindow, time_at, record_in, fires}
use Rattle.rule.specs.Rule.{choices, passes, in_order, allowed, binds, TimesNeverFall}
use Rattle.rule.specs.Growth.{Partial}
use Rattle.rule.specs.Promises.{Twice}
use Rattle.automaton.proofs.Membership.{both, clash, all-mem, filter-mem, map-mem, upto-mem}
use Rattle.rule.proofs.LiveOrder.{start-le}

either : (a b : Bool) → a || b ≡ true → (a ≡ true) ⊎ (b ≡ true)
either true b h = inl refl
either false b h = inr h

pub or_right : (a : Bool) {b : Bool} → b ≡ true → a || b ≡ true
or_right true h = refl
or_right false h = h

pub given : (a : Bool) {b : Bool} → implies a b ≡ true → a ≡ true → b ≡ true
given true h e = h
given false h e = absurd (false≢true e)

pub binds-mem : (r : Reading) {b : Binding} → Memᴰ b r → binds r b.variable ≡ true
unfolding binds
binds-mem [] {b = b} x' = elim x' [ ]
binds-mem (x ∷ r) {b} (Memᴰ.head e) = ap (λ t. t || binds r b.variable) (eq-eqb x.variable b.variable (ap (λ (c : Binding). c.variable) (sym e)))
binds-mem (x ∷ r) {b} (Memᴰ.tail m) = or_right (eqb x.variable b.variable) (binds-mem r m)

pub mem-binds : (r : Reading) (v : ℕ) → binds r v ≡ true → (b : Binding) × Memᴰ b r × (b.variable ≡ v)
unfolding binds
mem-binds [] v h = absurd (false≢true h)
mem-binds (x ∷ r) v h = go (λ k. mem-binds r v k) (either (eqb x.variable v) (binds r v) h)
  where
    go :
        (binds r v ≡ true → (b : Binding) × Memᴰ b r × (b.variable ≡ v))
        → (eqb x.variable v ≡ true) ⊎ (binds r v ≡ true)
        → (b : Binding) × Memᴰ b (x ∷ r) × (b.variable ≡ v)
    go ih (inl e) = (x, Memᴰ.head refl, eqb-true _ _ e)
    go ih (inr k) = let q = ih k in (q.0, Memᴰ.tail q.1, q.2)

module _ (p : Pattern) (B : Block) where
  -- each binding fired from what was bound before it
  pub step-fires : (x : Binding) (r : Reading) → Partial p B (x ∷ r) → fires p B r x.variable x.at ≡ true
  step-fires x [] h = h.1
  step-fires x (b ∷ r) h = h.2.fire

  -- ## No record is bound twice

  pub below : (x : Binding) (r : Reading) → Partial p B (x ∷ r) → {b : Binding} → Memᴰ b r → b.at < x.at
  below x [] h {b = b} x4 = elim x4 [ ]
  below x (y ∷ r) h (Memᴰ.head e) = omega (arith, h.1.later, ap (λ (c : Binding). c.at) e)
  below x (y ∷ r) h (Memᴰ.tail m) = omega (arith, h.1.later, below y r h.0 m)

  shorter : (x y : Binding) (s : Reading) → PartialReading p B (x ∷ y ∷ s) → PartialReading p B (y ∷ s)
  shorter x y s h = record { one_or_more = λ q. nil≢cons (sym q); each = λ t b u e. h.each (x ∷ t) b u (ap (λ l. x ∷ l) e) }

  pub rises : (x : Binding) (s : Reading) → PartialReading p B (x ∷ s) → {b : Binding} → Memᴰ b s → b.at < x.at
  rises x [] h {b = b} x4 = elim x4 [ ]
  rises x (y ∷ s) h (Memᴰ.head e) =
      omega (arith, (h.each [] x (y ∷ s) refl).rising (λ q. nil≢cons (sym q)), ap (λ (c : Binding). c.at) e)
  rises x (y ∷ s) h (Memᴰ.tail m) =
      omega (arith, (h.each [] x (y ∷ s) refl).rising (λ q. nil≢cons (sym q)), rises y s (shorter x y s h) m)

  pub never-twice : (j : ℕ) → ¬ Twice p B j
  never-twice j t = omega (arith, rises t.last t.before t.reads t.bound, t.ends, t.same)

  -- ## All conditions hold

  new-choice : (r : Reading) (v j u : ℕ) → u ≡ v → Memᴰ j (choices r v j u)
  unfolding choices
  new-choice r v j u e = subst (λ t. Memᴰ j (elim t [ true ↦ j ∷ [] | false ↦ map (λ (b : Binding). b.at) (filter (λ (b : Binding). eqb b.variable u) r) ])) (sym (eq-eqb u v e)) (Memᴰ.head refl)

  old-choice :
      (r : Reading) (v j u : ℕ) → ¬ (u ≡ v) → {b : Binding} → Memᴰ b r → b.variable ≡ u
      → Memᴰ b.at (choices r v j u)
  unfolding choices
  old-choice r v j u n {b} m e = subst (λ t. Memᴰ b.at (elim t [ true ↦ j ∷ [] | false ↦ map (λ (b : Binding). b.at) (filter (λ (b : Binding). eqb b.variable u) r) ])) (sym (ne_eqb u v n)) (map-mem (λ (b : Binding). b.at) (filter-mem (λ (b : Binding). eqb b.variable u) m (eq-eqb _ _ e)))

  carried-passes :
      (x : Binding) (r : Reading) → Partial p B (x ∷ r) → (c : Condition)
      → Memᴰ c (conditions p) → carries (binds r) x.variable c ≡ true
      → passes B r x.variable x.at c ≡ true
  unfolding fires allowed
  carried-passes x r h c m k = given (carries (binds r) x.variable c) (all-mem _ m (both {a = in_order p B r x.variable x.at} (both {a = leaves p (binds r) x.variable} (step-fires x r h)).1).1) k

  carries-const : (S : ℕ → Bool) (v : ℕ) (c : Condition) → c.form ≡ 0 → c.variable ≡ v → carries S v c ≡ true
  unfolding carries
  carries-const S v c f e = subst (λ t. (elim t [ true ↦ eqb c.variable v | false ↦ (eqb c.variable v && (eqb c.variable2 v || S c.variable2)) || (eqb c.variable2 v && S c.variable) ]) ≡ true) (sym (eq-eqb _ _ f)) (eq-eqb _ _ e)

  carries-first :
      (S : ℕ → Bool) (v : ℕ) (c : Condition) → ¬ (c.form ≡ 0)
      → c.variable ≡ v → eqb c.variable2 v || S c.variable2 ≡ true
      → carries S v c ≡ true
  unfolding carries
  carries-first S v c f e h = subst (λ t. (elim t [ true ↦ eqb c.variable v | false ↦ (eqb c.variable v && (eqb c.variable2 v || S c.variable2)) || (eqb c.variable2 v && S c.variable) ]) ≡ true) (sym (ne_eqb _ _ f)) (ap (λ t. t || (eqb c.variable2 v && S c.variable)) (ap₂ ◌&&◌ (eq-eqb _ _ e) h))

  carries-second :
      (S : ℕ → Bool) (v : ℕ) (c : Condition) → ¬ (c.form ≡ 0) → c.variable2 ≡ v → S c.variable ≡ true
      → carries S v c ≡ true
  unfolding carries
  carries-second S v c f e h = subst (λ t. (elim t [ true ↦ eqb c.variable v | false ↦ (eqb c.variable v && (eqb c.variable2 v || S c.variable2)) || (eqb c.variable2 v && S c.variable) ]) ≡ true) (sym (ne_eqb _ _ f)) (or_right (eqb c.variable v && (eqb c.variable2 v || S c.variable2)) (ap₂ ◌&&◌ (eq-eqb _ _ e) h))

  passes-const :
      (r : Reading) (v j : ℕ) (c : Condition) → c.form ≡ 0 → passes B r v j c ≡ true
      → holds c (record_in B j) (record_in B j) ≡ true
  unfolding passes
  passes-const r v j c f h = subst (λ t. (elim t [ true ↦ holds c (record_in B j) (record_in B j) | false ↦ all (λ i. all (λ k. holds c (record_in B i) (record_in B k)) (choices r v j c.variable2)) (choices r v j c.variable) ]) ≡ true) (eq-eqb _ _ f) h

  passes-pair :
      (r : Reading) (v j : ℕ) (c : Condition) → ¬ (c.form ≡ 0) → passes B r v j c ≡ true → {i k : ℕ}
      → Memᴰ i (choices r v j c.variable) → Memᴰ k (choices r v j c.variable2)
      → holds c (record_in B i) (record_in B k) ≡ true
  unfolding passes
  passes-pair r v j c f h {i} {k} m n =
      let q = subst (λ t. (elim t [ true ↦ holds c (record_in B j) (record_in B j) | false ↦ all (λ i. all (λ k. holds c (record_in B i) (record_in B k)) (choices r v j c.variable2)) (choices r v j c.variable) ]) ≡ true) (ne_eqb _ _ f) h in
      all-mem (λ k. holds c (record_in B i) (record_in B k)) n (all-mem (λ i. all (λ k. holds c (record_in B i) (record_in B k)) (choices r v j c.variable2)) m q)

  pub earlier : (x : Binding) (r : Reading) → Partial p B (x ∷ r) → {b : Binding} → Memᴰ b r → Partial p B r
  earlier x [] h m = absurd (Memᴰ.not-nil m)
  earlier x (y ∷ r) h m = h.0

  pub constant-holds :
      (r : Reading) → Partial p B r → (c : Condition) → Memᴰ c (conditions p)
      → c.form ≡ 0 → (a : Binding) → Memᴰ a r → a.variable ≡ c.variable
      → holds c (record_in B a.at) (record_in B a.at) ≡ true
  constant-holds [] h c m f a _ e = elim h [ ]
  constant-holds (x ∷ r) h c m f a (Memᴰ.tail i) e = constant-holds r (earlier x r h i) c m f a i e
  constant-holds (x ∷ r) h c m f a (Memᴰ.head d) e =
      subst (λ (b : Binding). holds c (record_in B b.at) (record_in B b.at) ≡ true) (sym d)
      (passes-const r x.variable x.at c f (carried-passes x r h c m (carries-const (binds r) x.variable c f (sym e ∙ ap (λ (b : Binding). b.variable) d))))

  pub pair-holds :
      (r : Reading) → Partial p B r → (c : Condition) → Memᴰ c (conditions p) → ¬ (c.form ≡ 0)
      → (a b : Binding) → Memᴰ a r → Memᴰ b r → a.variable ≡ c.variable
      → b.variable ≡ c.variable2 → (c.variable ≡ c.variable2 → a ≡ b)
      → holds c (record_in B a.at) (record_in B b.at) ≡ true
  pair-holds [] h c m f a b _ _ d e s = elim h [ ]
  pair-holds (x ∷ r) h c m f a b (Memᴰ.tail i) (Memᴰ.tail j) d e s = pair-holds r (earlier x r h i) c m f a b i j d e s
  pair-holds (x ∷ r) h c m f a b (Memᴰ.head i) (Memᴰ.head j) d e s =
      let dx = sym d ∙ ap (λ (b : Binding). b.variable) i in
      let ex = sym e ∙ ap (λ (b : Binding). b.variable) j in
      subst₂ (λ (y z : Binding). holds c (record_in B y.at) (record_in B z.at) ≡ true) (sym i) (sym j)
      (passes-pair r x.variable x.at c f (carried-passes x r h c m (carries-first (binds r) x.variable c f dx (ap (λ t. t || binds r c.variable2) (eq-eqb _ _ ex)))) (new-choice r x.variable x.at c.variable dx) (new-choice r x.variable x.at c.variable2 ex))
  pair-holds (x ∷ r) h c m f a b (Memᴰ.head i) (Memᴰ.tail j) d e s = go (ℕ_discrete c.variable2 x.variable)
    where
      dx : c.variable ≡ x.variable
      dx = sym d ∙ ap (λ (b : Binding). b.variable) i

      go : Dec (c.variable2 ≡ x.variable) → holds c (record_in B a.at) (record_in B b.at) ≡ true
      go (yes q) = let z = ap (λ (b : Binding). b.at) (sym i ∙ s (dx ∙ sym q)) in absurd (omega (arith, below x r h j))
      go (no q) =
          subst (λ (y : Binding). holds c (record_in B y.at) (record_in B b.at) ≡ true) (sym i)
          (passes-pair r x.variable x.at c f (carried-passes x r h c m (carries-first (binds r) x.variable c f dx (or_right (eqb c.variable2 x.variable) (ap (binds r) (sym e) ∙ binds-mem r j)))) (new-choice r x.variable x.at c.variable dx) (old-choice r x.variable x.at c.variable2 q j e))
  pair-holds (x ∷ r) h c m f a b (Memᴰ.tail i) (Memᴰ.head j) d e s = go (ℕ_discrete c.variable x.variable)
    where
      ex : c.variable2 ≡ x.variable
      ex = sym e ∙ ap (λ (b : Binding). b.variable) j

      go : Dec (c.variable ≡ x.variable) → holds c (record_in B a.at) (record_in B b.at) ≡ true
      go (yes q) = let z = ap (λ (b : Binding). b.at) (s (q ∙ sym ex) ∙ j) in absurd (omega (arith, below x r h i))
      go (no q) =
          subst (λ (y : Binding). holds c (record_in B a.at) (record_in B y.at) ≡ true) (sym j)
          (passes-pair r x.variable x.at c f (carried-passes x r h c m (carries-second (binds r) x.variable c f ex (ap (binds r) (sym d) ∙ binds-mem r i))) (old-choice r x.variable x.at c.variable q i d) (new-choice r x.variable x.at c.variable2 ex))

  -- ## Set order

  pub opens-or-loops :
      (x : Binding) (r : Reading) → Partial p B (x ∷ r)
      → (opens p (binds r) x.variable ≡ true) ⊎ (loops p (binds r) x.variable ≡ true)
  unfolding fires leaves
  opens-or-loops x r h = either (opens p (binds r) x.variable) (loops p (binds r) x.variable) (both {a = ltb x.variable p.n} (both {a = leaves p (binds r) x.variable} (step-fires x r h)).0).1

  opens-earlier : (S : ℕ → Bool) (v u : ℕ) → opens p S v ≡ true → u < p.n → set_of p u < set_of p v → S u ≡ true
  unfolding opens
  opens-earlier S v u h l g = given (ltb (set_of p u) (set_of p v)) (all-mem (λ u. implies (ltb (set_of p u) (set_of p v)) (S u)) (upto-mem 0 p.n u (omega arith) (omega arith)) (both {a = not (S v)} h).1) (lt-ltb _ _ g)

  pub opens-new : (S : ℕ → Bool) (v : ℕ) → opens p S v ≡ true → S v ≡ false
  unfolding opens
  opens-new S v h = not-true (S v) (both {a = not (S v)} h).0

  loops-last : (S : ℕ → Bool) (v u : ℕ) → loops p S v ≡ true → u < p.n → set_of p v < set_of p u → S u ≡ false
  unfolding loops
  loops-last S v u h l g = not-true (S u) (given (ltb (set_of p v) (set_of p u)) (all-mem (λ u. implies (ltb (set_of p v) (set_of p u)) (not (S u))) (upto-mem 0 p.n u (omega arith) (omega arith)) (both {a = is_group p v} (both {a = S v} h).1).1) (lt-ltb _ _ g))

  loops-bound : (S : ℕ → Bool) (v : ℕ) → loops p S v ≡ true → S v ≡ true
  unfolding loops
  loops-bound S v h = (both {a = S v} h).0

  pub variable-in : (r : Reading) → Partial p B r → {b : Binding} → Memᴰ b r → b.variable < p.n
  unfolding fires leaves
  variable-in [] h {b = b} _ = elim h [ ]
  variable-in (x ∷ r) h (Memᴰ.tail m) = variable-in r (earlier x r h m) m
  variable-in (x ∷ r) h (Memᴰ.head e) = omega (arith, ap (λ (b : Binding). b.variable) e, ltb-true x.variable p.n (both {a = ltb x.variable p.n} (both {a = leaves p (binds r) x.variable} (step-fires x r h)).0).0)

  binds-more : (x : Binding) (r : Reading) (u : ℕ) → binds r u ≡ true → binds (x ∷ r) u ≡ true
  unfolding binds
  binds-more x r u h = or_right (eqb x.variable u) h

  -- with a variable all of the earlier sets is bound
  state-of :
      (r : Reading) → Partial p B r → {b : Binding} → Memᴰ b r
      → (u : ℕ) → u < p.n → set_of p u < set_of p b.variable
      → binds r u ≡ true
  state-of [] h {b = b} _ u l g = elim h [ ]
  state-of (x ∷ r) h (Memᴰ.tail m) u l g = binds-more x r u (state-of r (earlier x r h m) m u l g)
  state-of (x ∷ r) h {b} (Memᴰ.head e) u l g = binds-more x r u (go (λ c i. state-of r (earlier x r h i) i u l) (opens-or-loops x r h))
    where
      g' : set_of p u < set_of p x.variable
      g' = subst (λ (y : Binding). set_of p u < set_of p y.variable) e g

      go :
          ((c : Binding) → Memᴰ c r → set_of p u < set_of p c.variable → binds r u ≡ true)
          → (opens p (binds r) x.variable ≡ true) ⊎ (loops p (binds r) x.variable ≡ true)
          → binds r u ≡ true
      go ih (inl o) = opens-earlier (binds r) x.variable u o l g'
      go ih (inr o) = let q = mem-binds r x.variable (loops-bound (binds r) x.variable o) in ih q.0 q.1 (subst (λ v. set_of p u < set_of p v) (sym q.2) g')

  -- a binding of an earlier set is an earlier record
  pub set-order :
      (r : Reading) → Partial p B r → (a b : Binding) → Memᴰ a r
      → Memᴰ b r → set_of p a.variable < set_of p b.variable
      → a.at < b.at
  set-order [] h a b _ _ g = elim h [ ]
  set-order (x ∷ r) h a b (Memᴰ.tail i) (Memᴰ.tail j) g = set-order r (earlier x r h i) a b i j g
  set-order (x ∷ r) h a b (Memᴰ.tail i) (Memᴰ.head e) g = omega (arith, below x r h i, ap (λ (c : Binding). c.at) e)
  set-order (x ∷ r) h a b (Memᴰ.head d) (Memᴰ.head e) g = let q = ap (λ (c : Binding). set_of p c.variable) (d ∙ sym e) in absurd (omega arith)
  set-order (x ∷ r) h a b (Memᴰ.head d) (Memᴰ.tail j) g = absurd (go (opens-or-loops x r h))
    where
      g' : set_of p x.variable < set_of p b.variable
      g' = subst (λ (y : Binding). set_of p y.variable < set_of p b.variable) d g

      go : (opens p (binds r) x.variable ≡ true) ⊎ (loops p (binds r) x.variable ≡ true) → ⊥
      go (inl o) = clash (state-of r (earlier x r h j) j x.variable (variable-in (x ∷ r) h (Memᴰ.head refl)) g') (opens-new (binds r) x.variable o)
      go (inr o) = clash (binds-mem r j) (loops-last (binds r) x.variable b.variable o (variable-in r (earlier x r h j) j) g')

  -- ## Duration

  pub bound-span :
      (r : Reading) → Partial p B r → {b : Binding} → Memᴰ b r → (start_of r ≤ b.at) × InWindow p B r b.at
  bound-span [] h {b = b} _ = elim h [ ]
  bound-span (x ∷ []) h (Memᴰ.tail m) = absurd (Memᴰ.not-nil m)
  bound-span (x ∷ []) h (Memᴰ.head e) = let q = ap (λ (c : Binding). c.at) e in (omega arith, subst (λ n. time_at B n ≤ time_at B x.at + p.duration) (sym q) (omega arith))
  bound-span (x ∷ y ∷ r) h (Memᴰ.tail m) = bound-span (y ∷ r) h.0 m
  bound-span (x ∷ y ∷ r) h (Memᴰ.head e) = let q = ap (λ (c : Binding). c.at) e in (omega (arith, start-le p B (y ∷ r) h.0, h.1.later), subst (λ n. time_at B n ≤ time_at B (start_of (y ∷ r)) + p.duration) (sym q) h.2.near)

  pub duration :
      TimesNeverFall B → (r : Reading) → Partial p B r → (a b : Binding)
      → Memᴰ a r → Memᴰ b r → a.at < length B
      → time_at B b.at ≤ time_at B a.at + p.duration
  duration mono r h a b i j l = omega (arith, (bound-span r h j).1, mono (start_of r) a.at (bound-span r h i).0 l)
