-- The computed list of live readings is in the order of the report. Assumes nothing.
use mathlib.Core.Path.{◌≡◌, refl, sym, ap, subst}
use mathlib.Core.Logic.{◌⊎◌, inl, inr}
use mathlib.Core.Bool.{Bool, true, false}
use mathlib.Core.List.Memᴰ
use mathlib.Core.List.{List, [], ◌∷◌, ◌++◌, Memᴰ}
use Prim.Native.Nat.{ℕ, zero, suc, ◌≤◌, ◌<◌}
use native.Mathlib.Omega.{arith}
use Rattle.patterns.specs.declared.Pattern.{Pattern}
use Rattle.automaton.specs.Filtering.{filter, collect}
use Rattle.automaton.specs.Automaton.{variables_of}
use Rattle.rule.specs.Rule.{Block, Binding, Reading, Smaller, here, there, Before, sooner, smaller, start_of}
use Rattle.rule.specs.Rule.{last_of, oldest_first, fires}
use Rattle.rule.specs.Growth.{Partial, Live}
use Rattle.rule.specs.Computed.{is_event, in_window, fired, or_else, only, extend, step, live}
use Rattle.automaton.proofs.Membership.{mem-collect}
use Rattle.automaton.proofs.Ordered.{Ordered, ordered-append, ordered-filter, ordered-map, ordered-upto}
use Rattle.rule.proofs.OnlyOrElse.{mem-only, mem-or-else}
use Rattle.rule.proofs.LiveReadings.{mem-fired, live-sound}

-- ## Lists that are there by a flag, or have an entry to stand in for them

module _ {A : Type 0} (R : A → A → Type 0) where
  pub ordered-only : (b : Bool) (l : List A) → Ordered R l → Ordered R (only b l)
  unfolding only
  ordered-only true l h = h
  ordered-only false l h = tt

  pub ordered-or-else : (x : A) (l : List A) → Ordered R l → Ordered R (or_else x l)
  unfolding or_else
  ordered-or-else x [] h = (λ s m. absurd (Memᴰ.not-nil m), tt)
  ordered-or-else x (y ∷ l) h = h

-- ## A reading that takes a binding keeps its place

pub smaller-left : {l m : Reading} (x : Reading) → Smaller l m → Smaller (l ++ x) m
smaller-left x (here h) = here h
smaller-left x (there e s) = there e (smaller-left x s)

pub smaller-right : {l m : Reading} (x : Reading) → Smaller l m → Smaller l (m ++ x)
smaller-right x (here h) = here h
smaller-right x (there e s) = there e (smaller-right x s)

pub smaller-front : (l : Reading) {x y : Reading} → Smaller x y → Smaller (l ++ x) (l ++ y)
smaller-front [] s = s
smaller-front (b ∷ l) s = there refl (smaller-front l s)

-- r is c ∷ t, or that with one more binding
abbrev Grown : Binding → Reading → Reading → Type 0
Grown c t r = (r ≡ c ∷ t) ⊎ ((b : Binding) × (r ≡ b ∷ c ∷ t))

grow-left : (c : Binding) (t r s : Reading) → Grown c t r → Before (c ∷ t) s → Before r s
grow-left c t r s (inl e) h = subst (λ x. Before x s) (sym e) h
grow-left c t r s (inr (b, e)) (sooner h) = subst (λ x. Before x s) (sym e) (sooner h)
grow-left c t r s (inr (b, e)) (smaller q h) = subst (λ x. Before x s) (sym e) (smaller q (smaller-left (b ∷ []) h))

grow-right : (c : Binding) (t r s : Reading) → Grown c t s → Before r (c ∷ t) → Before r s
grow-right c t r s (inl e) h = subst (Before r) (sym e) h
grow-right c t r s (inr (b, e)) (sooner h) = subst (Before r) (sym e) (sooner h)
grow-right c t r s (inr (b, e)) (smaller q h) = subst (Before r) (sym e) (smaller q (smaller-right (b ∷ []) h))

grown-start : (c : Binding) (t r : Reading) → Grown c t r → start_of r ≡ start_of (c ∷ t)
grown-start c t r (inl e) = ap start_of e
grown-start c t r (inr (b, e)) = ap start_of e

siblings :
    (r : Reading) (k v w : ℕ) → v < w
    → Before (record { variable = v; at = k } ∷ r) (record { variable = w; at = k } ∷ r)
siblings [] k v w h = smaller refl (here h)
siblings (c ∷ r) k v w h = smaller refl (smaller-front (oldest_first (c ∷ r)) (here h))

module _ (p : Pattern) (B : Block) where
  pub fired-ordered : (k : ℕ) (r : Reading) → Ordered Before (fired p B k r)
  unfolding fired
  fired-ordered k r = ordered-map ◌<◌ Before (λ v. record { variable = v; at = k } ∷ r) (siblings r k) (filter (λ v. fires p B r v k) (variables_of p)) (ordered-filter ◌<◌ (λ v. fires p B r v k) (variables_of p) (ordered-upto 0 p.n))

  pub extend-ordered : (k : ℕ) (r : Reading) → Ordered Before (extend p B k r)
  unfolding extend
  extend-ordered k r = ordered-only Before (in_window p B r k) (or_else r (fired p B k r)) (ordered-or-else Before r (fired p B k r) (fired-ordered k r))

  extend-grown : (k : ℕ) (c : Binding) (t : Reading) {a : Reading} → Memᴰ a (extend p B k (c ∷ t)) → Grown c t a
  unfolding extend
  extend-grown k c t {a} m = go (mem-or-else _ _ (mem-only _ m).1)
    where
      go : ((a ≡ c ∷ t) × (fired p B k (c ∷ t) ≡ [])) ⊎ Memᴰ a (fired p B k (c ∷ t)) → Grown c t a
      go (inl h) = inl h.0
      go (inr h) = let f = mem-fired p B k (c ∷ t) h in inr (record { variable = f.0; at = k }, f.2)

  pub start-le : (r : Reading) → Partial p B r → start_of r ≤ last_of r
  start-le [] h = absurd h
  start-le (b ∷ []) h = omega arith
  start-le (b ∷ c ∷ r) h = omega (arith, start-le (c ∷ r) h.0, h.1.later)

  pub start-lt : (k : ℕ) (r : Reading) → Live p B r k → start_of r < k
  start-lt k r h = omega (arith, start-le r h.reads)

  -- what two live readings, one before the other, become stands in the same order
  cross :
      (k : ℕ) (r s x y : Reading) → Live p B r k → Live p B s k → Before r s
      → Memᴰ x (extend p B k r) → Memᴰ y (extend p B k s)
      → Before x y
  cross k [] s x y l m h i j = absurd l.reads
  cross k (c ∷ t) [] x y l m h i j = absurd m.reads
  cross k (c ∷ t) (d ∷ u) x y l m h i j = grow-left c t x y (extend-grown k c t i) (grow-right d u (c ∷ t) y (extend-grown k d u j) h)

  extend-start : (k : ℕ) (r x : Reading) → Live p B r k → Memᴰ x (extend p B k r) → start_of x < k
  extend-start k [] x l i = absurd l.reads
  extend-start k (c ∷ t) x l i = omega (arith, start-lt k (c ∷ t) l, grown-start c t x (extend-grown k c t i))

  collect-ordered :
      (k : ℕ) (l : List Reading) → ((r : Reading) → Memᴰ r l → Live p B r k) → Ordered Before l
      → Ordered Before (collect (extend p B k) l)
  unfolding collect
  collect-ordered k [] n h = tt
  collect-ordered k (r ∷ l) n h =
      ordered-append Before (extend p B k r) (collect (extend p B k) l) (extend-ordered k r) (collect-ordered k l (λ s m. n s (Memᴰ.tail m)) h.1)
      (λ x y i j. let c = mem-collect (extend p B k) l j in cross k r c.0 x y (n r (Memᴰ.head refl)) (n c.0 (Memᴰ.tail c.1)) (h.0 c.0 c.1) i c.2)

  pub live-ordered : (k : ℕ) → Ordered Before (live p B k)
  unfolding live step
  live-ordered zero = tt
  live-ordered (suc k) =
      ordered-only Before (is_event B k) (collect (extend p B k) (live p B k) ++ fired p B k [])
      (ordered-append Before (collect (extend p B k) (live p B k)) (fired p B k []) (collect-ordered k (live p B k) (λ r m. live-sound p B k m) (live-ordered k)) (fired-ordered k []) older)
    where
      older :
          (x y : Reading) → Memᴰ x (collect (extend p B k) (live p B k)) → Memᴰ y (fired p B k [])
          → Before x y
      older x y i j =
          let c = mem-collect (extend p B k) (live p B k) i in
          let f = mem-fired p B k [] j in
          sooner (omega (arith, extend-start k c.0 x (live-sound p B k c.1) c.2, ap start_of f.2))
