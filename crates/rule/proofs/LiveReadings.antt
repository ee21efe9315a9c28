-- Once k records are read, the computed list holds exactly the readings that are live by the rule. Assumes nothing.
use mathlib.Core.Path.{◌≡◌, sym, subst}
use mathlib.Core.Logic.{◌⊎◌, inl, inr}
use mathlib.Core.Bool.{true, false}
use mathlib.Core.List.Memᴰ
use mathlib.Core.List.{List, [], ◌∷◌, ◌++◌, Memᴰ}
use Prim.Native.Nat.{ℕ, zero, suc, ◌<◌}
use native.Mathlib.Omega.{arith}
use native.Mathlib.Decide.{ℕ_discrete}
use borrow.Author.Tests.{ltb-true, leb-true, le-leb, eqb-true, eqb-false, eq-eqb}
use Rattle.patterns.specs.declared.Pattern.{Pattern}
use Rattle.automaton.specs.Filtering.{collect}
use Rattle.automaton.specs.Automaton.{leaves, variables_of}
use Rattle.rule.specs.Rule.{Block, Binding, Reading, Event, InWindow, last_of, fires}
use Rattle.rule.specs.Growth.{Passed, Taken, Kept, Partial, Live}
use Rattle.rule.specs.Computed.{is_event, in_window, fired, or_else, extend, step, live}
use Rattle.automaton.proofs.Membership.{both, clash, decide, mem-filter, filter-mem, mem-map, map-mem, mem-collect}
use Rattle.automaton.proofs.Membership.{collect-mem, upto-mem}
use Rattle.rule.proofs.OnlyOrElse.{mem-only, only-mem, mem-or-else, or-else-mem, or-else-self}

module _ (p : Pattern) (B : Block) where
  pub fires-variable : (r : Reading) (v j : ℕ) → fires p B r v j ≡ true → v < p.n
  unfolding fires leaves
  fires-variable r v j h = ltb-true _ _ (both (both h).0).0

  pub event-yes : (j : ℕ) → is_event B j ≡ true → Event B j
  unfolding is_event
  event-yes j e = eqb-true _ _ e

  pub event-no : (j : ℕ) → is_event B j ≡ false → ¬ Event B j
  unfolding is_event
  event-no j e = eqb-false _ _ e

  pub yes-event : (j : ℕ) → Event B j → is_event B j ≡ true
  unfolding is_event
  yes-event j e = eq-eqb _ _ e

  pub mem-fired :
      (j : ℕ) (r : Reading) {a : Reading} → Memᴰ a (fired p B j r)
      → (v : ℕ) × (fires p B r v j ≡ true) × (a ≡ record { variable = v; at = j } ∷ r)
  unfolding fired
  mem-fired j r m = let h = mem-map _ _ m in (h.0, (mem-filter _ (variables_of p) h.1).0, h.2)

  pub fired-mem :
      (j : ℕ) (r : Reading) (v : ℕ) → fires p B r v j ≡ true
      → Memᴰ (record { variable = v; at = j } ∷ r) (fired p B j r)
  unfolding fired
  fired-mem j r v h = map-mem (λ w. record { variable = w; at = j } ∷ r) (filter-mem _ (upto-mem 0 p.n v (omega arith) (omega (arith, fires-variable r v j h))) h)

  fired-none : (j : ℕ) (r : Reading) → fired p B j r ≡ [] → (v : ℕ) → fires p B r v j ≡ false
  fired-none j r e v = go (decide (fires p B r v j))
    where
      go : (fires p B r v j ≡ true) ⊎ (fires p B r v j ≡ false) → fires p B r v j ≡ false
      go (inl h) = absurd (Memᴰ.not-nil (subst (Memᴰ _) e (fired-mem j r v h)))
      go (inr h) = h

  -- ## Sound

  pub kept_new : (b : Binding) (r : Reading) → Kept p B (b ∷ r) (suc b.at)
  kept_new b r = record { later = omega arith; passed = λ i lo hi. absurd (omega arith) }

  pub kept_on : (r : Reading) (k : ℕ) → Kept p B r k → Passed p B r k → Kept p B r (suc k)
  kept_on r k h q = record { later = omega arith; passed = λ i lo hi. go i lo hi (ℕ_discrete i k) }
    where
      go : (i : ℕ) → last_of r < i → i < suc k → Dec (i ≡ k) → Passed p B r i
      go i lo hi (yes e) = subst (Passed p B r) (sym e) q
      go i lo hi (no n) = h.passed i lo (omega arith)

  taken : (r : Reading) (b : Binding) → Live p B r b.at → Taken p B r b → Partial p B (b ∷ r)
  taken [] b l t = absurd l.reads
  taken (c ∷ r) b l t = (l.reads, l.kept, t)

  pub started : (k : ℕ) → Event B k → {a : Reading} → Memᴰ a (fired p B k []) → Live p B a (suc k)
  started k ev m =
      let h = mem-fired k [] m in
      subst (λ r. Live p B r (suc k)) (sym h.2) (record { reads = (ev, h.1); kept = kept_new _ [] })

  pub extended :
      (k : ℕ) → Event B k → (r : Reading) → Live p B r k → {a : Reading} → Memᴰ a (extend p B k r)
      → Live p B a (suc k)
  unfolding extend in_window
  extended k ev r l {a} m = let h = mem-only _ m in go (leb-true _ _ h.0) (mem-or-else _ _ h.1)
    where
      go : InWindow p B r k → ((a ≡ r) × (fired p B k r ≡ [])) ⊎ Memᴰ a (fired p B k r) → Live p B a (suc k)
      go w (inl h) = subst (λ s. Live p B s (suc k)) (sym h.0) (record { reads = l.reads; kept = kept_on r k l.kept (record { event = ev; near = w; none = fired-none k r h.1 }) })
      go w (inr f) =
          let h = mem-fired k r f in
          subst (λ s. Live p B s (suc k)) (sym h.2) (record { reads = taken r _ l (record { event = ev; near = w; fire = h.1 }); kept = kept_new _ r })

  pub live-sound : (k : ℕ) {a : Reading} → Memᴰ a (live p B k) → Live p B a k
  unfolding live step
  live-sound zero m = absurd (Memᴰ.not-nil m)
  live-sound (suc k) {a} m = let h = mem-only _ m in go (λ r i. live-sound k i) (event-yes k h.0) (Memᴰ.append_cases (collect (extend p B k) (live p B k)) h.1)
    where
      go :
          ((r : Reading) → Memᴰ r (live p B k) → Live p B r k) → Event B k
          → Memᴰ a (collect (extend p B k) (live p B k)) ⊎ Memᴰ a (fired p B k [])
          → Live p B a (suc k)
      go ih ev (inl h) = let c = mem-collect _ _ h in extended k ev c.0 (ih c.0 c.1) c.2
      go ih ev (inr h) = started k ev h

  -- ## Complete

  pub in-extend :
      (k : ℕ) (r : Reading) → InWindow p B r k → {a : Reading} → Memᴰ a (or_else r (fired p B k r))
      → Memᴰ a (extend p B k r)
  unfolding extend in_window
  in-extend k r h m = only-mem (le-leb _ _ h) m

  in_step :
      (k : ℕ) (l : List Reading) → Event B k → {a : Reading} → Memᴰ a (collect (extend p B k) l ++ fired p B k [])
      → Memᴰ a (step p B k l)
  unfolding step
  in_step k l ev m = only-mem (yes-event k ev) m

  -- the last binding is the record just read
  bound-now :
      (l : List Reading) (b : Binding) (r : Reading)
      → ((s : Reading) → Live p B s b.at → Memᴰ s l) → Partial p B (b ∷ r)
      → Memᴰ (b ∷ r) (step p B b.at l)
  bound-now l b [] ih h = in_step b.at l h.0 (Memᴰ.append_right (collect (extend p B b.at) l) (fired-mem b.at [] b.variable h.1))
  bound-now l b (c ∷ r) ih h =
      in_step b.at l h.2.event
      (Memᴰ.append_left (fired p B b.at [])
      (collect-mem (extend p B b.at) (ih (c ∷ r) (record { reads = h.0; kept = h.1 }))
      (in-extend b.at (c ∷ r) h.2.near (or-else-mem _ _ (fired-mem b.at (c ∷ r) b.variable h.2.fire)))))

  -- the last binding is before it
  bound-before :
      (k : ℕ) (l : List Reading) → ((s : Reading) → Live p B s k → Memᴰ s l)
      → (r : Reading) → Partial p B r → Kept p B r k → Passed p B r k
      → Memᴰ r (step p B k l)
  bound-before k l ih r h g q =
      in_step k l q.event
      (Memᴰ.append_left (fired p B k [])
      (collect-mem (extend p B k) (ih r (record { reads = h; kept = g }))
      (in-extend k r q.near (or-else-self _ _ (λ a m. let f = mem-fired k r m in clash f.1 (q.none f.0))))))

  pub live-complete : (k : ℕ) (a : Reading) → Live p B a k → Memᴰ a (live p B k)
  unfolding live
  live-complete zero a h = absurd (omega arith)
  live-complete (suc k) [] h = absurd h.reads
  live-complete (suc k) (b ∷ r) h = go (live-complete k) (ℕ_discrete b.at k)
    where
      go :
          ((s : Reading) → Live p B s k → Memᴰ s (live p B k)) → Dec (b.at ≡ k)
          → Memᴰ (b ∷ r) (step p B k (live p B k))
      go ih (yes e) = subst (λ n. Memᴰ (b ∷ r) (step p B n (live p B k))) e (bound-now (live p B k) b r (subst (λ n. (s : Reading) → Live p B s n → Memᴰ s (live p B k)) (sym e) ih) h.reads)
      go ih (no n) =
          let g : b.at < k = omega arith in
          bound-before k (live p B k) ih (b ∷ r) h.reads (record { later = g; passed = λ i lo hi. h.kept.passed i lo (omega arith) }) (h.kept.passed k g (omega arith))
