-- A reading with a binding too many has grown from one with just one too many, and it binds records of the block; and a
-- binding of an earlier set is strictly earlier in time, also where times may be equal. Assumes nothing.
use mathlib.Core.Path.{◌≡◌, refl, sym, ap, subst, ◌∙◌}
use mathlib.Core.Logic.{◌⊎◌, inl, inr}
use mathlib.Core.List.{List, [], ◌∷◌, Memᴰ}
use mathlib.Core.Bool.{Bool, true, false, not, ◌&&◌, false≢true}
use Prim.Native.Nat.{ℕ, zero, suc, ◌≤◌, ◌<◌}
use native.Mathlib.Omega.{arith}
use native.Mathlib.Decide.{ℕ_discrete}
use lib.ListN.{length}
use lib.Dec.{ltb, eqb}
use borrow.Author.Tests.{ltb-true, lt-ltb, eqb-true}
use Rattle.patterns.specs.declared.Pattern.{Pattern}
use Rattle.patterns.specs.Checked.{set_of, InOrder}
use Rattle.automaton.specs.Filtering.{implies, all}
use Rattle.automaton.specs.Automaton.{leaves, marked, variables_of}
use Rattle.rule.specs.Rule.{Block, Binding, Reading, fires, in_order, binds, time_at, TimesNeverFall}
use Rattle.rule.specs.Growth.{Partial}
use Rattle.rule.specs.Promises.{TooLong, most_bindings}
use Rattle.automaton.proofs.Membership.{both, decide, all-mem}
use Rattle.rule.proofs.Report.{event-in}
use Rattle.rule.proofs.Written.{partial-to}
use Rattle.rule.proofs.EveryReading.{step-fires, earlier, below, given, mem-binds, set-order, variable-in}

module _ (p : Pattern) (B : Block) where
  pub long-long : (r : Reading) → Partial p B r → suc most_bindings ≤ length r → (j : ℕ) × TooLong p B j
  long-long [] h l = absurd h
  long-long (x ∷ []) h l = absurd (omega arith)
  long-long (x ∷ y ∷ r) h l = go (λ g. long-long (y ∷ r) h.0 g) (ℕ_discrete (length (x ∷ y ∷ r)) (suc most_bindings))
    where
      go :
          (suc most_bindings ≤ length (y ∷ r) → (j : ℕ) × TooLong p B j) → Dec (length (x ∷ y ∷ r) ≡ suc most_bindings)
          → (j : ℕ) × TooLong p B j
      go ih (yes e) = (x.at, record { reading = x ∷ y ∷ r; reads = partial-to p B (x ∷ y ∷ r) h; ends = refl; long = e })
      go ih (no n) = ih (omega arith)

  pub bound-in : (r : Reading) → Partial p B r → (b : Binding) → Memᴰ b r → b.at < length B
  bound-in [] h b _ = elim h [ ]
  bound-in (x ∷ []) h b (Memᴰ.head e) = omega (arith, event-in p B x.at h.0, ap (λ (c : Binding). c.at) e)
  bound-in (x ∷ y ∷ r) h b (Memᴰ.head e) = omega (arith, event-in p B x.at h.2.event, ap (λ (c : Binding). c.at) e)
  bound-in (x ∷ r) h b (Memᴰ.tail m) = bound-in r (earlier p B x r h m) b m

-- ## Set order in time, where times may be equal

bound-in-set :
    (S : ℕ → Bool) (f : ℕ → ℕ) (w : ℕ) (l : List ℕ) → all (λ u. implies (eqb (f u) w) (not (S u))) l ≡ false
    → (u : ℕ) × (f u ≡ w) × (S u ≡ true)
unfolding all
bound-in-set S f w [] h = absurd (false≢true (sym h))
bound-in-set S f w (u ∷ l) h = go (eqb (f u) w) (S u) refl refl h (λ k. bound-in-set S f w l k)
  where
    go :
        (a b : Bool) → eqb (f u) w ≡ a → S u ≡ b
        → implies a (not b) && all (λ u. implies (eqb (f u) w) (not (S u))) l ≡ false
        → (all (λ u. implies (eqb (f u) w) (not (S u))) l ≡ false → (u : ℕ) × (f u ≡ w) × (S u ≡ true))
        → (u : ℕ) × (f u ≡ w) × (S u ≡ true)
    go true true e d h ih = (u, eqb-true _ _ e, d)
    go true false e d h ih = ih h
    go false true e d h ih = ih h
    go false false e d h ih = ih h

-- set numbers begin at 1 and never fall
set-positive : (p : Pattern) → InOrder p → (v : ℕ) → v < p.n → 0 < set_of p v
set-positive p c zero h = omega (arith, c.begins)
set-positive p c (suc v) h = omega (arith, set-positive p c v (omega arith), (c.climbs v h).0)

module _ (p : Pattern) (B : Block) (mono : TimesNeverFall B) (checked : InOrder p) where
  in-order-of : (x : Binding) (r : Reading) → Partial p B (x ∷ r) → in_order p B r x.variable x.at ≡ true
  unfolding fires
  in-order-of x r h = (both {a = in_order p B r x.variable x.at} (both {a = leaves p (binds r) x.variable} (step-fires p B x r h)).1).0

  marked-later :
      (x : Binding) (r : Reading) → Partial p B (x ∷ r)
      → marked p (binds r) x.variable ≡ true → {a : Binding} → Memᴰ a r
      → time_at B a.at < time_at B x.at
  unfolding in_order
  marked-later x r h k m = ltb-true _ _ (all-mem (λ (b : Binding). ltb (time_at B b.at) (time_at B x.at)) m (given (marked p (binds r) x.variable) (in-order-of x r h) k))

  -- a step that is not marked goes on in a set that is begun
  begun :
      (r : Reading) (v : ℕ) → 1 < set_of p v → marked p (binds r) v ≡ false
      → (u : ℕ) × (set_of p u ≡ set_of p v) × (binds r u ≡ true)
  unfolding marked
  begun r v h e = go (variables_of p) (no_all (all (λ u. implies (eqb (set_of p u) (set_of p v)) (not (binds r u))) (variables_of p)) (lt-ltb 1 (set_of p v) h) e)
    where
      no_all : {a : Bool} (b : Bool) → a ≡ true → a && b ≡ false → b ≡ false
      no_all b t f = subst (λ c. c && b ≡ false) t f

      go :
          (l : List ℕ) → all (λ u. implies (eqb (set_of p u) (set_of p v)) (not (binds r u))) l ≡ false
          → (u : ℕ) × (set_of p u ≡ set_of p v) × (binds r u ≡ true)
      go l f = bound-in-set (binds r) (set_of p) (set_of p v) l f

  new-later :
      (x : Binding) (r : Reading) → Partial p B (x ∷ r) → (a : Binding) → Memᴰ a r
      → set_of p a.variable < set_of p x.variable → ((c : Binding) → Memᴰ c r
      → set_of p a.variable < set_of p c.variable → time_at B a.at < time_at B c.at)
      → time_at B a.at < time_at B x.at
  new-later x r h a i g ih = go (decide (marked p (binds r) x.variable))
    where
      go :
          (marked p (binds r) x.variable ≡ true) ⊎ (marked p (binds r) x.variable ≡ false)
          → time_at B a.at < time_at B x.at
      go (inl k) = marked-later x r h k i
      go (inr k) =
          let q = begun r x.variable (omega (arith, set-positive p checked a.variable (variable-in p B r (earlier p B x r h i) i))) k in
          let c = mem-binds r q.0 q.2 in
          let s = ap (set_of p) c.2 ∙ q.1 in
          omega (arith, ih c.0 c.1 (omega arith), mono c.0.at x.at (omega (arith, below p B x r h c.1)) (bound-in p B (x ∷ r) h x (Memᴰ.head refl)))

  pub set-order-time :
      (r : Reading) → Partial p B r → (a b : Binding) → Memᴰ a r
      → Memᴰ b r → set_of p a.variable < set_of p b.variable
      → time_at B a.at < time_at B b.at
  set-order-time [] h a b _ j g = elim h [ ]
  set-order-time (x ∷ r) h a b (Memᴰ.tail i) (Memᴰ.tail j) g = set-order-time r (earlier p B x r h i) a b i j g
  set-order-time (x ∷ r) h a b (Memᴰ.head d) j g = let q = set-order p B (x ∷ r) h a b (Memᴰ.head d) j g in absurd (after j q)
    where
      after : Memᴰ b (x ∷ r) → a.at < b.at → ⊥
      after (Memᴰ.head e) q = omega (arith, ap (λ (c : Binding). c.at) d, ap (λ (c : Binding). c.at) e)
      after (Memᴰ.tail m) q = omega (arith, ap (λ (c : Binding). c.at) d, below p B x r h m)
  set-order-time (x ∷ r) h a b (Memᴰ.tail i) (Memᴰ.head e) g = subst (λ (c : Binding). time_at B a.at < time_at B c.at) (sym e) (new-later x r h a i (subst (λ (c : Binding). set_of p a.variable < set_of p c.variable) e g) (λ c m. set-order-time r (earlier p B x r h i) a c i m))
