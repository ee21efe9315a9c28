-- The start-by-start pass finds a reading that would take a binding too many at a record exactly where the rule has
-- one, and the least such record is the least by the rule. Assumes nothing.
use mathlib.Core.Path.{◌≡◌, refl, sym, ap, subst, ◌∙◌}
use mathlib.Core.Bool.{true, false}
use mathlib.Core.List.Memᴰ
use mathlib.Core.List.{List, [], ◌∷◌, Memᴰ}
use Prim.Native.Nat.{ℕ, zero, suc, ◌+◌, ◌-◌, ◌≤◌, ◌<◌, min}
use native.Mathlib.Omega.{arith}
use lib.ListN.{length}
use borrow.Author.Tests.{ltb-false, le-ltb}
use Rattle.numbers.specs.Numbers.{upto}
use Rattle.numbers.proofs.Cases.{by-test, by_order}
use Rattle.patterns.specs.declared.Pattern.{Pattern}
use Rattle.automaton.proofs.Membership.{clash, mem-collect, collect-mem, upto-mem}
use Rattle.rule.specs.Rule.{Block, Binding, Reading, Event, InWindow, fires, start_of, last_of, time_at}
use Rattle.rule.specs.Rule.{TimesNeverFall, is_full}
use Rattle.rule.specs.Growth.{Partial, Kept, Taken, Live}
use Rattle.rule.specs.Promises.{TooLong, most_bindings}
use Rattle.rule.specs.Computed.{is_event, fired}
use Rattle.rule.specs.Starts.Found.{closed, over}
use Rattle.rule.specs.Starts.{Found, is_past, closes_at, until, mark_of, with_binding, any_fires, close, skip_until}
use Rattle.rule.specs.Starts.{branch_until, start_found, found_from, found_all, least_over}
use Rattle.rule.proofs.OnlyOrElse.{mem-only, only-mem, or-else-mem, or-else-self}
use Rattle.rule.proofs.LiveReadings.{fires-variable, event-yes, yes-event, mem-fired, fired-mem, started}
use Rattle.rule.proofs.LiveReadings.{extended, in-extend}
use Rattle.rule.proofs.LiveOrder.{start-le}
use Rattle.rule.proofs.Report.{spans, event-in}
use Rattle.rule.proofs.Written.{partial-of, partial-to}
use Rattle.rule.proofs.SkipBranch.{until-after, before-until, at-until, stays_open, fires-any, any-fires}
use Rattle.rule.proofs.SkipBranch.{none-fires, mem-turn, turn-mem, skip-passes, skip-closes, skip-takes}
use Rattle.rule.proofs.SkipBranch.{skip-over, skip-to, least-none}

module _ (p : Pattern) (B : Block) where
  abbrev skips : ℕ → ℕ → Reading → List Found
  skips i j r = skip_until p B (mark_of p B i) (until p B i) j r

  -- ## How a live reading goes on

  near_by : (r : Reading) (j : ℕ) → is_past p B (start_of r) j ≡ false → InWindow p B r j
  unfolding is_past
  near_by r j e = ltb-false (time_at B (start_of r) + p.duration) (time_at B j) e

  live_on :
      (j : ℕ) (r : Reading) → Live p B r j → Event B j → InWindow p B r j → any_fires p B r j ≡ false
      → Live p B r (suc j)
  live_on j r l ev w a = extended p B j ev r l (in-extend p B j r w (or-else-self r (fired p B j r) (λ s m. let f = mem-fired p B j r m in clash (fires-any p B r j f.0 f.1) a)))

  live_more :
      (j : ℕ) (r : Reading) → Live p B r j → Event B j → InWindow p B r j → (v : ℕ) → fires p B r v j ≡ true
      → Live p B (with_binding r v j) (suc j)
  live_more j r l ev w v f = extended p B j ev r l (in-extend p B j r w (or-else-mem r (fired p B j r) (fired-mem p B j r v f)))

  -- ## Sound

  close-over : (mark : ℕ) (r : Reading) (k : ℕ) → ¬ Memᴰ (over k) (close p mark r)
  unfolding close
  close-over mark r k m = let e = Memᴰ.eq_of_singleton (mem-only (is_full p r) m).1 in let z : ◌≡◌ {A = ℕ} 0 1 = cc in omega arith

  same_over : (j k : ℕ) → Memᴰ (over k) (over j ∷ []) → k ≡ j
  same_over j k m = let e = Memᴰ.eq_of_singleton m in cc

  module _ (i : ℕ) where
    -- what is found too long from record j on is so by the rule
    abbrev OverLong : ℕ → Type 0
    OverLong j = (b : Binding) (r : Reading) → start_of (b ∷ r) ≡ i → Live p B (b ∷ r) j → length (b ∷ r) ≤ most_bindings → (k : ℕ) → Memᴰ (over k) (skips i j (b ∷ r)) → TooLong p B k

    over-taken :
        (j : ℕ) → j < until p B i → Event B j → OverLong (suc j) → (b : Binding) (r : Reading)
        → start_of (b ∷ r) ≡ i → Live p B (b ∷ r) j → InWindow p B (b ∷ r) j → length (b ∷ r) ≤ most_bindings
        → any_fires p B (b ∷ r) j ≡ true → (k : ℕ) → Memᴰ (over k) (skips i j (b ∷ r))
        → TooLong p B k
    over-taken j l ev ih b r s g near few a k m = by_order (length (b ∷ r)) most_bindings
        (λ q.
        let t = mem-turn (λ v. fires p B (b ∷ r) v j) (λ v. skips i (suc j) (with_binding (b ∷ r) v j)) 0 (p.n - 0) (rw (skip-takes p B (mark_of p B i) (until p B i) (b ∷ r) j l a q) at m) in
        ih (record { variable = t.0; at = j }) (b ∷ r) s (live_more j (b ∷ r) g ev near t.0 t.1) (omega arith) k t.2)
        (λ q.
        let f = any-fires p B (b ∷ r) j a in
        let z = same_over j k (rw (skip-over p B (mark_of p B i) (until p B i) (b ∷ r) j l a q) at m) in
        record { reading = with_binding (b ∷ r) f.0 j; reads = partial-to p B (with_binding (b ∷ r) f.0 j) (live_more j (b ∷ r) g ev near f.0 f.1).reads; ends = sym z; long = omega arith })

    over_skip : (d j : ℕ) → j + d ≡ until p B i → i < j → OverLong j
    over_skip zero j e l b r s g few k m = absurd (close-over (mark_of p B i) (b ∷ r) k (rw (skip-closes p B (mark_of p B i) (until p B i) (b ∷ r) j (omega arith)) at m))
    over_skip (suc d) j e l b r s g few k m =
        let ih : OverLong (suc j) = over_skip d (suc j) (omega arith) (omega arith) in
        let q : j < until p B i = omega arith in
        let w = before-until p B i j l q in
        let ev = event-yes p B j w.0 in
        let near = near_by (b ∷ r) j (subst (λ t. is_past p B t j ≡ false) (sym s) w.1) in
        by-test (any_fires p B (b ∷ r) j)
        (λ a. over-taken j q ev ih b r s g near few a k m)
        (λ a. ih b r s (live_on j (b ∷ r) g ev near a) few k (rw (skip-passes p B (mark_of p B i) (until p B i) (b ∷ r) j q a) at m))

    over-start : (k : ℕ) → Memᴰ (over k) (start_found p B i) → TooLong p B k
    unfolding start_found
    over-start k m =
        let o = mem-only (is_event B i) m in
        let t = mem-turn (λ v. fires p B [] v i) (λ v. skips i (suc i) (with_binding [] v i)) 0 (p.n - 0) o.1 in
        let ev = event-yes p B i o.0 in
        let l = until-after p B i (event-in p B i ev) in
        over_skip (until p B i - suc i) (suc i) (omega arith) (omega arith) (record { variable = t.0; at = i }) [] refl (started p B i ev (fired-mem p B i [] t.0 t.1)) (omega arith) k t.2

  pub over-long : (k : ℕ) → Memᴰ (over k) (found_all p B) → TooLong p B k
  unfolding found_all found_from
  over-long k m = let c = mem-collect (start_found p B) (upto 0 (length B)) m in over-start c.0 k c.2

  -- ## Complete

  -- no reading closes at a record that it passes or takes
  open_at : (r : Reading) (j : ℕ) → Event B j → InWindow p B r j → closes_at p B (start_of r) j ≡ false
  unfolding is_past
  open_at r j ev w = stays_open p B (start_of r) j (yes-event p B j ev) (le-ltb (time_at B (start_of r) + p.duration) (time_at B j) w)

  taken-before :
      (r : Reading) (a : Binding) → Partial p B r → Kept p B r a.at → Taken p B r a → a.at < until p B (start_of r)
  taken-before r a h g t = by_order a.at (until p B (start_of r)) (λ l. l) late
    where
      late : until p B (start_of r) ≤ a.at → a.at < until p B (start_of r)
      late l =
          let q = event-in p B a.at t.event in
          let c = at-until p B (start_of r) (omega arith) in
          by_order (until p B (start_of r)) a.at
          (λ m. let s = spans p B r a.at h g (until p B (start_of r)) (omega (arith, until-after p B (start_of r) (omega (arith, start-le p B r h)))) m in clash c (open_at r (until p B (start_of r)) s.0 s.1))
          (λ m. let e : until p B (start_of r) ≡ a.at = omega arith in clash c (rw e (open_at r a.at t.event t.near)))

  -- what follows the last binding of a reading
  abbrev follows : Reading → List Found
  follows r = skips (start_of r) (suc (last_of r)) r

  module _ (a b : Binding) (r : Reading) (h : Partial p B (a ∷ b ∷ r)) where
    abbrev start : ℕ
    start = start_of (b ∷ r)

    before-end : a.at < until p B start
    before-end = taken-before (b ∷ r) a h.0 h.1 h.2

    fires-next : any_fires p B (b ∷ r) a.at ≡ true
    fires-next = fires-any p B (b ∷ r) a.at a.variable h.2.fire

    to-next : follows (b ∷ r) ≡ skips start a.at (b ∷ r)
    to-next =
        skip-to p B (mark_of p B start) (until p B start) (b ∷ r) (suc b.at) a.at h.1.later (omega (arith, before-end))
        (λ k lo hi. none-fires p B (b ∷ r) k (λ v l. (h.1.passed k lo hi).none v))

    to-branch :
        length (b ∷ r) < most_bindings
        → follows (b ∷ r) ≡ branch_until p B (mark_of p B start) (until p B start) a.at (b ∷ r) 0
    to-branch l = to-next ∙ skip-takes p B (mark_of p B start) (until p B start) (b ∷ r) a.at before-end fires-next l

    to-over : most_bindings ≤ length (b ∷ r) → follows (b ∷ r) ≡ over a.at ∷ []
    to-over l = to-next ∙ skip-over p B (mark_of p B start) (until p B start) (b ∷ r) a.at before-end fires-next l

    in-branch :
        (x : Found) → length (b ∷ r) < most_bindings → Memᴰ x (follows (a ∷ b ∷ r)) → Memᴰ x (follows (b ∷ r))
    in-branch x l m =
        rw (to-branch l)
        (turn-mem (λ v. fires p B (b ∷ r) v a.at) (λ v. skips start (suc a.at) (with_binding (b ∷ r) v a.at)) 0 (p.n - 0) a.variable (omega arith) (omega (arith, fires-variable p B (b ∷ r) a.variable a.at h.2.fire)) h.2.fire m)

  -- the pass comes to every reading that is not too long
  listed :
      (b : Binding) (r : Reading) → Partial p B (b ∷ r)
      → length (b ∷ r) ≤ most_bindings → (x : Found) → Memᴰ x (follows (b ∷ r))
      → Memᴰ x (found_all p B)
  unfolding found_all found_from start_found
  listed b [] h few x m =
      collect-mem (start_found p B) (upto-mem 0 (length B) b.at (omega arith) (omega (arith, event-in p B b.at h.0)))
      (only-mem (yes-event p B b.at h.0)
      (turn-mem (λ v. fires p B [] v b.at) (λ v. skips b.at (suc b.at) (with_binding [] v b.at)) 0 (p.n - 0) b.variable (omega arith) (omega (arith, fires-variable p B [] b.variable b.at h.1)) h.1 m))
  listed a (b ∷ r) h few x m = listed b r h.0 (omega arith) x (in-branch a b r h x (omega arith) m)

  long-found : (r : Reading) → Partial p B r → length r ≡ suc most_bindings → Memᴰ (over (last_of r)) (found_all p B)
  long-found [] h e = absurd h
  long-found (a ∷ []) h e = absurd (omega arith)
  long-found (a ∷ b ∷ r) h e = listed b r h.0 (omega arith) (over a.at) (rw (to-over a b r h (omega arith)) (Memᴰ.head refl))

  pub long-over : TimesNeverFall B → (j : ℕ) → TooLong p B j → Memᴰ (over j) (found_all p B)
  long-over mono j t = subst (λ k. Memᴰ (over k) (found_all p B)) t.ends (long-found t.reading (partial-of p B mono t.reading t.reads) t.long)

-- ## The least such record

pub least-le : (none : ℕ) (l : List Found) (j : ℕ) → Memᴰ (over j) l → least_over none l ≤ j
unfolding least_over
least-le none [] j x' = elim x' [ ]
least-le none (closed mark r ∷ l) j (Memᴰ.head e) = let z : ◌≡◌ {A = ℕ} 0 1 = cc in absurd (omega arith)
least-le none (closed mark r ∷ l) j (Memᴰ.tail m) = least-le none l j m
least-le none (over k ∷ l) j (Memᴰ.head e) = let z : j ≡ k = cc in omega arith
least-le none (over k ∷ l) j (Memᴰ.tail m) = omega (arith, least-le none l j m)

pub least-mem : (none : ℕ) (l : List Found) → least_over none l < none → Memᴰ (over (least_over none l)) l
unfolding least_over
least-mem none [] h = absurd (omega arith)
least-mem none (closed mark r ∷ l) h = Memᴰ.tail (least-mem none l h)
least-mem none (over k ∷ l) h =
    by_order (least_over none l) k
    (λ q. let e : min k (least_over none l) ≡ least_over none l = omega arith in rw e (Memᴰ.tail (least-mem none l (omega arith))))
    (λ q. let e : min k (least_over none l) ≡ k = omega arith in Memᴰ.head (ap over e))

module _ (p : Pattern) (B : Block) (mono : TimesNeverFall B) where
  -- a record at which a reading is too long is an event of the block
  pub long-in : (j : ℕ) → TooLong p B j → j < length B
  long-in j t = subst (λ k. k < length B) t.ends (go t.reading (partial-of p B mono t.reading t.reads))
    where
      go : (r : Reading) → Partial p B r → last_of r < length B
      go [] h = elim h [ ]
      go (b ∷ []) h = event-in p B b.at h.0
      go (a ∷ b ∷ r) h = event-in p B a.at h.2.event

  pub least-long : least_over (length B) (found_all p B) < length B → TooLong p B (least_over (length B) (found_all p B))
  least-long h = over-long p B (least_over (length B) (found_all p B)) (least-mem (length B) (found_all p B) h)

  pub none_below : (i : ℕ) → i < least_over (length B) (found_all p B) → ¬ TooLong p B i
  none_below i h t = omega (arith, least-le (length B) (found_all p B) i (long-over p B mono i t))

  pub none-long : length B ≤ least_over (length B) (found_all p B) → (i : ℕ) → ¬ TooLong p B i
  none-long h i t = none_below i (omega (arith, long-in i t)) t

  -- any number that no record has may stand for none
  module _ (none : ℕ) (beyond : length B ≤ none) where
    least_by : least_over (length B) (found_all p B) ≡ min (length B) (least_over none (found_all p B))
    least_by = let e : length B ≡ min (length B) none = omega arith in ap (λ k. least_over k (found_all p B)) e ∙ least-none (length B) none (found_all p B)

    pub least-found :
        least_over none (found_all p B) < none
        → (least_over (length B) (found_all p B) ≡ least_over none (found_all p B))
        × (least_over none (found_all p B) < length B)
    least-found h =
        let l = long-in (least_over none (found_all p B)) (over-long p B (least_over none (found_all p B)) (least-mem none (found_all p B) h)) in
        (omega (arith, least_by), l)

    pub least-missing : none ≤ least_over none (found_all p B) → length B ≤ least_over (length B) (found_all p B)
    least-missing h = omega (arith, least_by)
