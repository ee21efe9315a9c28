-- Start by start gives the same report. Assumes nothing.
use mathlib.Core.Path.{◌≡◌, refl, sym, ap, subst, subst₂, ◌∙◌}
use mathlib.Core.Logic.{◌⊎◌, inl, inr}
use mathlib.Core.Bool.{true, false}
use mathlib.Core.List.Memᴰ
use mathlib.Core.List.{List, [], ◌∷◌, ◌++◌, Memᴰ}
use Prim.Native.Nat.{ℕ, zero, suc, ◌+◌, ◌≤◌}
use native.Mathlib.Omega.{arith}
use native.Mathlib.Decide.{ℕ_discrete, dec_le}
use lib.ListN.{length}
use borrow.Author.Tests.{leb-true}
use Rattle.patterns.specs.declared.Pattern.{Pattern}
use Rattle.automaton.specs.Filtering.{collect}
use Rattle.rule.specs.Rule.{Block, Binding, Reading, Line, Event, InWindow, Closes, gap, past, end, fires}
use Rattle.rule.specs.Rule.{gap_mark, start_of, time_at, Smaller, Before, sooner, smaller, TimesNeverFall}
use Rattle.rule.specs.Growth.{Live, Reported, IsReport}
use Rattle.rule.specs.Computed.{is_event, in_window, only, fired, extend, closing, grow, begin, start_by_start}
use Rattle.rule.specs.Computed.{report}
use Rattle.automaton.proofs.Membership.{decide, mem-collect, collect-mem}
use Rattle.automaton.proofs.Ordered.{Ordered, ordered-append}
use Rattle.rule.proofs.OnlyOrElse.{mem-only, only-mem, mem-or-else, or-else-mem, or-else-self}
use Rattle.rule.proofs.LiveReadings.{event-yes, event-no, yes-event, mem-fired, fired-mem, started, extended}
use Rattle.rule.proofs.LiveReadings.{in-extend}
use Rattle.rule.proofs.LiveOrder.{ordered-only, fired-ordered, extend-ordered, smaller-left, smaller-right}
use Rattle.rule.proofs.Report.{Sooner, Ends, mem-closing, closing-mem, closing-ordered, live_in, event-in}
use Rattle.rule.proofs.Report.{report-is}
use Rattle.rule.proofs.StartByStartList.{From, from-close, from-branch, from_start, from_more}
use Rattle.rule.proofs.StartByStartList.{oldest-first-append, start-append}
use Rattle.rule.proofs.OneReport.{one-is-report}

-- what goes on from two readings stands in their order
before_more :
    (t u : Reading) (a b : Binding) (r s : Reading) → Before (a ∷ r) (b ∷ s) → Before (t ++ (a ∷ r)) (u ++ (b ∷ s))
before_more t u a b r s (sooner h) = sooner (omega (arith, start-append t a r, start-append u b s))
before_more t u a b r s (smaller e h) =
    smaller (start-append t a r ∙ e ∙ sym (start-append u b s))
    (subst₂ Smaller (sym (oldest-first-append t (a ∷ r))) (sym (oldest-first-append u (b ∷ s))) (smaller-left _ (smaller-right _ h)))

ordered-collect :
    {A C : Type 0} (R : A → A → Type 0) (S : C → C → Type 0) (f : A → List C) (l : List A)
    → ((a : A) → Memᴰ a l → Ordered S (f a))
    → ((a b : A) (x y : C) → Memᴰ a l → Memᴰ b l → R a b → Memᴰ x (f a) → Memᴰ y (f b) → S x y)
    → Ordered R l
    → Ordered S (collect f l)
unfolding collect
ordered-collect R S f [] each cross o = tt
ordered-collect R S f (a ∷ l) each cross o =
    ordered-append S (f a) (collect f l) (each a (Memᴰ.head refl)) (ordered-collect R S f l (λ b m. each b (Memᴰ.tail m)) (λ b c x y i j. cross b c x y (Memᴰ.tail i) (Memᴰ.tail j)) o.1)
    (λ x y i j. let c = mem-collect f l j in cross a c.0 x y (Memᴰ.head refl) (Memᴰ.tail c.1) (o.0 c.0 c.1) i c.2)

module _ (p : Pattern) (B : Block) where
  from-self : (r : Reading) (x : Line) → Reported p B (length B) x → x.reading ≡ r → From p B r x
  from-self r x h e = record { more = []; goes_on = e; reported = h }

  from-grown : (k : ℕ) (r s : Reading) → Memᴰ s (extend p B k r) → (x : Line) → From p B s x → From p B r x
  unfolding extend
  from-grown k r s m x f = go (mem-or-else _ _ (mem-only (in_window p B r k) m).1)
    where
      go : ((s ≡ r) × (fired p B k r ≡ [])) ⊎ Memᴰ s (fired p B k r) → From p B r x
      go (inl h) = subst (λ t. From p B t x) h.0 f
      go (inr h) = let q = mem-fired p B k r h in from_more p B (record { variable = q.0; at = k }) r x (subst (λ t. From p B t x) q.2 f)

  -- ## Sound

  mem-grow : (n k : ℕ) (r : Reading) → Live p B r k → (x : Line) → Memᴰ x (grow p B n k r) → From p B r x
  unfolding grow
  mem-grow zero k r l x m = absurd (Memᴰ.not-nil m)
  mem-grow (suc n) k r l x m = go (λ s g i. mem-grow n (suc k) s g x i) (Memᴰ.append_cases (closing p B k (r ∷ [])) m)
    where
      go :
          ((s : Reading) → Live p B s (suc k) → Memᴰ x (grow p B n (suc k) s) → From p B s x)
          → Memᴰ x (closing p B k (r ∷ []))
          ⊎ Memᴰ x (collect (grow p B n (suc k)) (only (is_event B k) (extend p B k r)))
          → From p B r x
      go ih (inl h) =
          let q = mem-closing p B k (r ∷ []) (λ s i. subst (λ t. Live p B t k) (sym (Memᴰ.eq_of_singleton i)) l) h in
          from-self r x (record { at = k; by = live_in p B k r l; live = q.0.live; closes = q.0.how; full = q.0.full }) (Memᴰ.eq_of_singleton q.1)
      go ih (inr h) =
          let c = mem-collect (grow p B n (suc k)) _ h in
          let o = mem-only (is_event B k) c.1 in
          from-grown k r c.0 o.1 x (ih c.0 (extended p B k (event-yes p B k o.0) r l o.1) c.2)

  -- ## Complete

  grow-mem :
      (n k : ℕ) → k + n ≡ suc (length B) → (r : Reading) → Live p B r k → (x : Line) → From p B r x
      → Memᴰ x (grow p B n k r)
  unfolding grow
  grow-mem zero k e r l x f = absurd (omega (arith, live_in p B k r l))
  grow-mem (suc n) k e r l x f = go (λ s g h. grow-mem n (suc k) (omega arith) s g x h) (decide (is_event B k)) (dec_le (time_at B k) (time_at B (start_of r) + p.duration))
    where
      closes :
          (m : ℕ) → Closes p B r k m
          → Memᴰ x (closing p B k (r ∷ []) ++ collect (grow p B n (suc k)) (only (is_event B k) (extend p B k r)))
      closes m c =
          let q = from-close p B r k m l c x f in
          Memᴰ.append_left (collect (grow p B n (suc k)) (only (is_event B k) (extend p B k r)))
          (closing-mem p B k (r ∷ []) x (Memᴰ.head q.0) f.reported.full (subst₂ (λ s t. Closes p B s k t) (sym q.0) (sym q.1) c))

      on :
          (s : Reading) → Memᴰ s (extend p B k r) → is_event B k ≡ true → Memᴰ x (grow p B n (suc k) s)
          → Memᴰ x (closing p B k (r ∷ []) ++ collect (grow p B n (suc k)) (only (is_event B k) (extend p B k r)))
      on s i ev h = Memᴰ.append_right (closing p B k (r ∷ [])) (collect-mem (grow p B n (suc k)) (only-mem ev i) h)

      by :
          ((s : Reading) → Live p B s (suc k) → From p B s x → Memᴰ x (grow p B n (suc k) s))
          → is_event B k ≡ true → InWindow p B r k → (l : List Reading) → fired p B k r ≡ l
          → Memᴰ x (closing p B k (r ∷ []) ++ collect (grow p B n (suc k)) (only (is_event B k) (extend p B k r)))
      by ih ev w [] q =
          let i = in-extend p B k r w (or-else-self r (fired p B k r) (λ a m. Memᴰ.not-nil (subst (Memᴰ a) q m))) in
          on r i ev (ih r (extended p B k (event-yes p B k ev) r l i) f)
      by ih ev w (s ∷ t) q =
          let a = mem-fired p B k r (subst (Memᴰ s) (sym q) (Memᴰ.head refl)) in
          let c = from-branch p B r k a.0 l (event-yes p B k ev) w a.1 x f in
          let i = in-extend p B k r w (or-else-mem r (fired p B k r) (fired-mem p B k r c.0 c.1)) in
          on _ i ev (ih _ (extended p B k (event-yes p B k ev) r l i) c.2)

      last :
          ¬ Event B k → Dec (k ≡ length B)
          → Memᴰ x (closing p B k (r ∷ []) ++ collect (grow p B n (suc k)) (only (is_event B k) (extend p B k r)))
      last ne (yes q) = closes 2 (end q refl)
      last ne (no q) = closes (gap_mark p) (gap (omega arith) ne refl)

      go :
          ((s : Reading) → Live p B s (suc k) → From p B s x → Memᴰ x (grow p B n (suc k) s))
          → (is_event B k ≡ true) ⊎ (is_event B k ≡ false) → Dec (time_at B k ≤ time_at B (start_of r) + p.duration)
          → Memᴰ x (closing p B k (r ∷ []) ++ collect (grow p B n (suc k)) (only (is_event B k) (extend p B k r)))
      go ih (inr ne) d = last (event-no p B k ne) (ℕ_discrete k (length B))
      go ih (inl ev) (no w) = closes 1 (past (event-yes p B k ev) w refl)
      go ih (inl ev) (yes w) = by ih ev w (fired p B k r) refl

  -- ## In order

  grown-order :
      (n k : ℕ) (a b : Reading) (x y : Line) → Live p B a k → Live p B b k
      → Before a b → Memᴰ x (grow p B n k a) → Memᴰ y (grow p B n k b)
      → Sooner x y
  grown-order n k [] b x y l g h i j = absurd l.reads
  grown-order n k (c ∷ r) [] x y l g h i j = absurd g.reads
  grown-order n k (c ∷ r) (d ∷ s) x y l g h i j =
      let f = mem-grow n k (c ∷ r) l x i in
      let t = mem-grow n k (d ∷ s) g y j in
      subst₂ Before (sym f.goes_on) (sym t.goes_on) (before_more f.more t.more c d r s h)

  -- where a reading closes nothing goes on
  no_both :
      (k : ℕ) (r s : Reading) → (x : Line) → Ends p B k x → x.reading ≡ r
      → is_event B k ≡ true → Memᴰ s (extend p B k r)
      → ⊥
  unfolding extend in_window
  no_both k r s x q e ev i = go q.how
    where
      w : InWindow p B r k
      w = leb-true _ _ (mem-only (in_window p B r k) i).0

      go : Closes p B x.reading k x.mark → ⊥
      go (gap a n m) = n (event-yes p B k ev)
      go (past v n m) = n (subst (λ t. InWindow p B t k) (sym e) w)
      go (end a m) = omega (arith, event-in p B k (event-yes p B k ev))

  grow-ordered : (n k : ℕ) (r : Reading) → Live p B r k → Ordered Sooner (grow p B n k r)
  unfolding grow
  grow-ordered zero k r l = tt
  grow-ordered (suc n) k r l =
      ordered-append Sooner (closing p B k (r ∷ [])) (collect (grow p B n (suc k)) (only (is_event B k) (extend p B k r)))
      (closing-ordered p B k (r ∷ []) (λ y m. absurd (Memᴰ.not-nil m), tt))
      (ordered-collect Before Sooner (grow p B n (suc k)) (only (is_event B k) (extend p B k r)) (λ s m. grow-ordered n (suc k) s (lv s m)) (λ a b x y i j. grown-order n (suc k) a b x y (lv a i) (lv b j)) (ordered-only Before (is_event B k) (extend p B k r) (extend-ordered p B k r)))
      (λ x y i j.
      let q = mem-closing p B k (r ∷ []) (λ s m. subst (λ t. Live p B t k) (sym (Memᴰ.eq_of_singleton m)) l) i in
      let c = mem-collect (grow p B n (suc k)) _ j in
      let o = mem-only (is_event B k) c.1 in
      absurd (no_both k r c.0 x q.0 (Memᴰ.eq_of_singleton q.1) o.0 o.1))
    where
      lv : (s : Reading) → Memᴰ s (only (is_event B k) (extend p B k r)) → Live p B s (suc k)
      lv s m = let o = mem-only (is_event B k) m in extended p B k (event-yes p B k o.0) r l o.1

  -- ## All starts

  new-live : (k : ℕ) (s : Reading) → Memᴰ s (only (is_event B k) (fired p B k [])) → Live p B s (suc k)
  new-live k s m = let o = mem-only (is_event B k) m in started p B k (event-yes p B k o.0) o.1

  mem-begin :
      (n k : ℕ) (x : Line) → Memᴰ x (begin p B n k) → Reported p B (length B) x × (k ≤ start_of x.reading)
  unfolding begin
  mem-begin zero k x m = absurd (Memᴰ.not-nil m)
  mem-begin (suc n) k x m = go (λ i. mem-begin n (suc k) x i) (Memᴰ.append_cases (collect (grow p B n (suc k)) (only (is_event B k) (fired p B k []))) m)
    where
      go :
          (Memᴰ x (begin p B n (suc k)) → Reported p B (length B) x × (suc k ≤ start_of x.reading))
          → Memᴰ x (collect (grow p B n (suc k)) (only (is_event B k) (fired p B k [])))
          ⊎ Memᴰ x (begin p B n (suc k))
          → Reported p B (length B) x × (k ≤ start_of x.reading)
      go ih (inr h) = let q = ih h in (q.0, omega (arith, q.1))
      go ih (inl h) =
          let c = mem-collect (grow p B n (suc k)) _ h in
          let f = mem-grow n (suc k) c.0 (new-live k c.0 c.1) x c.2 in
          let q = mem-fired p B k [] (mem-only (is_event B k) c.1).1 in
          (f.reported, omega (arith, ap start_of (f.goes_on ∙ ap (λ s. f.more ++ s) q.2), start-append f.more (record { variable = q.0; at = k }) []))

  begin-mem :
      (n k : ℕ) → k + n ≡ suc (length B) → (x : Line) (b : Binding) → k ≤ b.at
      → Event B b.at → fires p B [] b.variable b.at ≡ true → From p B (b ∷ []) x
      → Memᴰ x (begin p B n k)
  unfolding begin
  begin-mem zero k e x b le ev fi f = absurd (omega (arith, event-in p B b.at ev))
  begin-mem (suc n) k e x b le ev fi f = go (λ h. begin-mem n (suc k) (omega arith) x b h ev fi f) (ℕ_discrete b.at k)
    where
      here :
          (j : ℕ) → b.at ≡ j → j ≡ k → Memᴰ x (collect (grow p B n (suc k)) (only (is_event B k) (fired p B k [])))
      here j q d =
          let r = q ∙ d in
          let i = only-mem (yes-event p B k (subst (Event B) r ev)) (fired-mem p B k [] b.variable (subst (λ t. fires p B [] b.variable t ≡ true) r fi)) in
          collect-mem (grow p B n (suc k)) i (grow-mem n (suc k) (omega arith) _ (new-live k _ i) x (subst (λ (c : Binding). From p B (c ∷ []) x) (λ t. record { variable = b.variable; at = r t }) f))

      go :
          (suc k ≤ b.at → Memᴰ x (begin p B n (suc k))) → Dec (b.at ≡ k)
          → Memᴰ x (collect (grow p B n (suc k)) (only (is_event B k) (fired p B k [])) ++ begin p B n (suc k))
      go ih (yes q) = Memᴰ.append_left (begin p B n (suc k)) (here k q refl)
      go ih (no q) = Memᴰ.append_right (collect (grow p B n (suc k)) (only (is_event B k) (fired p B k []))) (ih (omega arith))

  begin-ordered : (n k : ℕ) → Ordered Sooner (begin p B n k)
  unfolding begin
  begin-ordered zero k = tt
  begin-ordered (suc n) k =
      ordered-append Sooner (collect (grow p B n (suc k)) (only (is_event B k) (fired p B k []))) (begin p B n (suc k))
      (ordered-collect Before Sooner (grow p B n (suc k)) (only (is_event B k) (fired p B k [])) (λ s m. grow-ordered n (suc k) s (new-live k s m)) (λ a b x y i j. grown-order n (suc k) a b x y (new-live k a i) (new-live k b j)) (ordered-only Before (is_event B k) (fired p B k []) (fired-ordered p B k [])))
      (begin-ordered n (suc k))
      (λ x y i j.
      let c = mem-collect (grow p B n (suc k)) _ i in
      let f = mem-grow n (suc k) c.0 (new-live k c.0 c.1) x c.2 in
      let q = mem-fired p B k [] (mem-only (is_event B k) c.1).1 in
      sooner (omega (arith, ap start_of (f.goes_on ∙ ap (λ s. f.more ++ s) q.2), start-append f.more (record { variable = q.0; at = k }) [], (mem-begin n (suc k) y j).1)))

  pub start-by-start-is : IsReport p B (length B) (start_by_start p B)
  unfolding start_by_start
  start-by-start-is = record {
    rising = begin-ordered (suc (length B)) 0;
    sound = λ x m. (mem-begin (suc (length B)) 0 x m).0;
    complete = λ x h. let q = from_start p B x h in begin-mem (suc (length B)) 0 (omega arith) x q.0 (omega arith) q.1 q.2 q.3;
  }

  pub both-passes : TimesNeverFall B → report p B ≡ start_by_start p B
  both-passes mono = one-is-report p B (length B) _ _ (report-is p B mono) start-by-start-is
