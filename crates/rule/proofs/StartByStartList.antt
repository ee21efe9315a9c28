-- The laws by which the start-by-start pass goes: what is reported of the readings that go on from r. Assumes nothing.
use mathlib.Core.Path.{◌≡◌, refl, sym, ap, subst, ◌∙◌}
use mathlib.Core.Bool.{true}
use mathlib.Core.List.{[], ◌∷◌, ◌++◌, append-nil, append_assoc}
use Prim.Native.Nat.{ℕ, ◌<◌}
use native.Mathlib.Omega.{arith}
use native.Mathlib.Decide.{dec_lt}
use lib.ListN.{length}
use lib.Seq.{append_snoc}
use Rattle.patterns.specs.declared.Pattern.{Pattern}
use Rattle.rule.specs.Rule.{Block, Binding, Reading, Line, Event, InWindow, Closes, gap, past, end, fires}
use Rattle.rule.specs.Rule.{start_of, oldest_first}
use Rattle.rule.specs.Growth.{Partial, Passed, Taken, Live, Reported}
use Rattle.automaton.proofs.Membership.{clash}
use Rattle.rule.proofs.Report.{event-in}

-- a list is empty or has an oldest binding
data Oldest : Reading → Type 0 where
  empty : Oldest []
  oldest : (t : Reading) (b : Binding) → Oldest (t ++ (b ∷ []))

oldest-in : (t : Reading) → Oldest t
oldest-in [] = empty
oldest-in (x ∷ t) = go (oldest-in t)
  where
    go : {t : Reading} → Oldest t → Oldest (x ∷ t)
    go empty = oldest [] x
    go (oldest u b) = oldest (x ∷ u) b

module _ (p : Pattern) (B : Block) where
  -- x is reported, and its reading goes on from r
  pub record From (r : Reading) (x : Line) : Type 0 where
    pub more : Reading
    pub goes_on : x.reading ≡ more ++ r
    pub reported : Reported p B (length B) x

  partial-back : (t : Reading) (b : Binding) (r : Reading) → Partial p B (t ++ (b ∷ r)) → Partial p B (b ∷ r)
  partial-back [] b r h = h
  partial-back (x ∷ []) b r h = h.0
  partial-back (x ∷ y ∷ t) b r h = partial-back (y ∷ t) b r h.0

  refute : (r : Reading) (k m : ℕ) → Passed p B r k → ¬ Closes p B r k m
  refute r k m q (gap l n e) = n q.event
  refute r k m q (past v n e) = n q.near
  refute r k m q (end l e) = omega (arith, event-in p B k q.event)

  refute-taken : (r : Reading) (b : Binding) (m : ℕ) → Taken p B r b → ¬ Closes p B r b.at m
  refute-taken r b m q (gap l n e) = n q.event
  refute-taken r b m q (past v n e) = n q.near
  refute-taken r b m q (end l e) = omega (arith, event-in p B b.at q.event)

  one-mark : (r : Reading) (k m n : ℕ) → Closes p B r k m → Closes p B r k n → m ≡ n
  one-mark r k m n (gap l v e) (gap l' v' e') = omega arith
  one-mark r k m n (gap l v e) (past v' w' e') = absurd (v v')
  one-mark r k m n (gap l v e) (end l' e') = absurd (omega arith)
  one-mark r k m n (past v w e) (gap l' v' e') = absurd (v' v)
  one-mark r k m n (past v w e) (past v' w' e') = omega arith
  one-mark r k m n (past v w e) (end l' e') = absurd (omega (arith, event-in p B k v))
  one-mark r k m n (end l e) (gap l' v' e') = absurd (omega arith)
  one-mark r k m n (end l e) (past v' w' e') = absurd (omega (arith, event-in p B k v'))
  one-mark r k m n (end l e) (end l' e') = omega arith

  -- the next binding of a live reading is where it first fires
  next-at :
      (c : Binding) (r : Reading) (k : ℕ) → Live p B (c ∷ r) k
      → (t : Reading) (b : Binding) → Partial p B (t ++ (b ∷ c ∷ r))
      → (k < b.at → Passed p B (c ∷ r) k) × (b.at < k → ⊥) × Taken p B (c ∷ r) b
  next-at c r k l t b h =
      let q = partial-back t b (c ∷ r) h in
      (λ lt. q.1.passed k l.kept.later lt, λ lt. clash q.2.fire ((l.kept.passed b.at q.1.later lt).none b.variable), q.2)

  when-closed :
      (r : Reading) (k j m : ℕ) → Live p B r k → Live p B r j → Closes p B r j m
      → (k < j → Passed p B r k) × (j < k → ⊥)
  when-closed r k j m l g c = (λ lt. g.kept.passed k l.kept.later lt, λ lt. refute r j m (l.kept.passed j g.kept.later lt) c)

  -- ## Where it closes nothing goes on

  pub from-close :
      (r : Reading) (k m : ℕ) → Live p B r k → Closes p B r k m → (x : Line) → From r x
      → (x.reading ≡ r) × (x.mark ≡ m)
  from-close [] k m l c x f = absurd l.reads
  from-close (a ∷ r) k m l c x f = go (oldest-in f.more) f.goes_on
    where
      g : Reported p B (length B) x
      g = f.reported

      alone : x.reading ≡ a ∷ r → x.mark ≡ m
      alone e = go (dec_lt g.at k) (dec_lt k g.at)
        where
          w : (k < g.at → Passed p B (a ∷ r) k) × (g.at < k → ⊥)
          w = when-closed (a ∷ r) k g.at x.mark l (subst (λ s. Live p B s g.at) e g.live) (subst (λ s. Closes p B s g.at x.mark) e g.closes)

          go : Dec (g.at < k) → Dec (k < g.at) → x.mark ≡ m
          go (yes h) d = absurd (w.1 h)
          go (no h) (yes d) = absurd (refute (a ∷ r) k m (w.0 d) c)
          go (no h) (no d) = one-mark (a ∷ r) k x.mark m (subst (λ s. Closes p B s k x.mark) e (subst (λ n. Closes p B x.reading n x.mark) (omega arith) g.closes)) c

      go : {t : Reading} → Oldest t → x.reading ≡ t ++ (a ∷ r) → (x.reading ≡ a ∷ r) × (x.mark ≡ m)
      go empty e = (e, alone e)
      go (oldest t b) e = absurd (by (dec_lt b.at k) (dec_lt k b.at))
        where
          w : (k < b.at → Passed p B (a ∷ r) k) × (b.at < k → ⊥) × Taken p B (a ∷ r) b
          w = next-at a r k l t b (subst (Partial p B) (e ∙ append_snoc t b (a ∷ r)) g.live.reads)

          by : Dec (b.at < k) → Dec (k < b.at) → ⊥
          by (yes h) d = w.1 h
          by (no h) (yes d) = refute (a ∷ r) k m (w.0 d) c
          by (no h) (no d) = refute-taken (a ∷ r) b m w.2 (subst (λ n. Closes p B (a ∷ r) n m) (omega arith) c)

  -- ## Where a step fires, every reading goes on by a step that fires

  pub from-branch :
      (r : Reading) (k u : ℕ) → Live p B r k → Event B k
      → InWindow p B r k → fires p B r u k ≡ true → (x : Line) → From r x
      → (v : ℕ) × (fires p B r v k ≡ true) × From (record { variable = v; at = k } ∷ r) x
  from-branch [] k u l ev near fi x f = absurd l.reads
  from-branch (a ∷ r) k u l ev near fi x f = go (oldest-in f.more) f.goes_on
    where
      g : Reported p B (length B) x
      g = f.reported

      open-k : (m : ℕ) → ¬ Closes p B (a ∷ r) k m
      open-k m (gap q n e) = n ev
      open-k m (past v n e) = n near
      open-k m (end q e) = omega (arith, event-in p B k ev)

      alone : x.reading ≡ a ∷ r → ⊥
      alone e = go (dec_lt g.at k) (dec_lt k g.at)
        where
          c : Closes p B (a ∷ r) g.at x.mark
          c = subst (λ s. Closes p B s g.at x.mark) e g.closes

          w : (k < g.at → Passed p B (a ∷ r) k) × (g.at < k → ⊥)
          w = when-closed (a ∷ r) k g.at x.mark l (subst (λ s. Live p B s g.at) e g.live) c

          go : Dec (g.at < k) → Dec (k < g.at) → ⊥
          go (yes h) d = w.1 h
          go (no h) (yes d) = clash fi ((w.0 d).none u)
          go (no h) (no d) = open-k x.mark (subst (λ n. Closes p B (a ∷ r) n x.mark) (omega arith) c)

      go :
          {t : Reading} → Oldest t → x.reading ≡ t ++ (a ∷ r)
          → (v : ℕ) × (fires p B (a ∷ r) v k ≡ true) × From (record { variable = v; at = k } ∷ a ∷ r) x
      go empty e = absurd (alone e)
      go (oldest t b) e = by (dec_lt b.at k) (dec_lt k b.at)
        where
          e' : x.reading ≡ t ++ (b ∷ a ∷ r)
          e' = e ∙ append_snoc t b (a ∷ r)

          w : (k < b.at → Passed p B (a ∷ r) k) × (b.at < k → ⊥) × Taken p B (a ∷ r) b
          w = next-at a r k l t b (subst (Partial p B) e' g.live.reads)

          by :
              Dec (b.at < k) → Dec (k < b.at)
              → (v : ℕ) × (fires p B (a ∷ r) v k ≡ true) × From (record { variable = v; at = k } ∷ a ∷ r) x
          by (yes h) d = absurd (w.1 h)
          by (no h) (yes d) = clash fi ((w.0 d).none u)
          by (no h) (no d) =
              let q : b.at ≡ k = omega arith in (
                b.variable,
                subst (λ n. fires p B (a ∷ r) b.variable n ≡ true) q w.2.fire,
                record {
                  more = t;
                  goes_on = e' ∙ (λ i. t ++ (record { variable = b.variable; at = q i } ∷ a ∷ r));
                  reported = g;
                },
              )

  -- ## Every reported reading has a start

  pub from_start :
      (x : Line) → Reported p B (length B) x
      → (b : Binding) × Event B b.at × (fires p B [] b.variable b.at ≡ true) × From (b ∷ []) x
  from_start x g = go (oldest-in x.reading) refl
    where
      go :
          {t : Reading} → Oldest t → x.reading ≡ t
          → (b : Binding) × Event B b.at × (fires p B [] b.variable b.at ≡ true) × From (b ∷ []) x
      go empty e = absurd (subst (Partial p B) e g.live.reads)
      go (oldest t b) e =
          let q = partial-back t b [] (subst (Partial p B) e g.live.reads) in
          (b, q.0, q.1, record { more = t; goes_on = e; reported = g })

  pub from_more : (b : Binding) (r : Reading) (x : Line) → From (b ∷ r) x → From r x
  from_more b r x f = record { more = f.more ++ (b ∷ []); goes_on = f.goes_on ∙ sym (append_snoc f.more b r); reported = f.reported }

-- ## The order

pub oldest-first-append : (t r : Reading) → oldest_first (t ++ r) ≡ oldest_first r ++ oldest_first t
oldest-first-append [] r = sym (append-nil (oldest_first r))
oldest-first-append (x ∷ t) r = ap (λ l. l ++ (x ∷ [])) (oldest-first-append t r) ∙ append_assoc (oldest_first r) (oldest_first t) (x ∷ [])

pub start-append : (t : Reading) (b : Binding) (r : Reading) → start_of (t ++ (b ∷ r)) ≡ start_of (b ∷ r)
start-append [] b r = refl
start-append (x ∷ []) b r = refl
start-append (x ∷ y ∷ t) b r = start-append (y ∷ t) b r
