-- The answer of the forward pass: the computed one meets the promise, and two that meet it are one. Assumes nothing.
use mathlib.Core.Path.{◌≡◌, refl, sym, ap, ap₂, subst, ◌∙◌}
use mathlib.Core.Logic.{◌⊎◌, inl, inr}
use mathlib.Core.Bool.{Bool, true, false, ◌&&◌, ◌||◌, false≢true}
use mathlib.Core.List.{List, [], ◌∷◌, Memᴰ}
use Prim.Native.Nat.{ℕ, zero, suc, ◌+◌, ◌≤◌, ◌<◌, max}
use native.Mathlib.Omega.{arith}
use native.Mathlib.Decide.{ℕ_discrete, dec_le, dec_lt}
use lib.ListN.{length}
use lib.Dec.{eqb}
use borrow.Author.Tests.{ltb-true, lt-ltb, eqb-true, eq-eqb}
use Rattle.patterns.specs.declared.Pattern.{Pattern}
use Rattle.rule.specs.Rule.{Block, Reading, pack, last_of, TimesNeverFall}
use Rattle.rule.specs.Growth.{Partial, Live, Kept}
use Rattle.rule.specs.Promises.{Outcome, LiveCount, IsPeak, Meets, refusal, success, Forward, refuses, succeeds}
use Rattle.rule.specs.Computed.{live, closed, report, any, is_met, peak, scan, forward}
use Rattle.automaton.proofs.Membership.{both, clash}
use Rattle.rule.proofs.LiveCounts.{count, one-count}
use Rattle.rule.proofs.LiveReadings.{live-sound, live-complete, kept_new}
use Rattle.rule.proofs.Report.{closed_is, report-is}
use Rattle.rule.proofs.EveryReading.{never-twice}
use Rattle.rule.proofs.Written.{partial-of, partial-to, report-written}
use Rattle.rule.proofs.OneReport.{one-report}

module _ {A : Type 0} where
  any-yes : (f : A → Bool) (l : List A) → any f l ≡ true → (a : A) × Memᴰ a l × (f a ≡ true)
  unfolding any
  any-yes f [] h = absurd (false≢true h)
  any-yes f (x ∷ l) h = go (f x) refl h (λ k. any-yes f l k)
    where
      go :
          (b : Bool) → f x ≡ b → b || any f l ≡ true → (any f l ≡ true → (a : A) × Memᴰ a l × (f a ≡ true))
          → (a : A) × Memᴰ a (x ∷ l) × (f a ≡ true)
      go true e h ih = (x, Memᴰ.head refl, e)
      go false e h ih = let q = ih h in (q.0, Memᴰ.tail q.1, q.2)

  yes-any : (f : A → Bool) {a : A} {l : List A} → Memᴰ a l → f a ≡ true → any f l ≡ true
  unfolding any
  yes-any f (Memᴰ.head {xs} e) h = ap (λ b. b || any f xs) (ap f (sym e) ∙ h)
  yes-any f (Memᴰ.tail {x} m) h = go (f x) (yes-any f m h)
    where
      go : (b : Bool) {c : Bool} → c ≡ true → b || c ≡ true
      go true h = refl
      go false h = h

module _ (p : Pattern) (B : Block) (mono : TimesNeverFall B) (L room : ℕ) where
  meets-yes : (j t : ℕ) → is_met p B L room j t ≡ true → Meets p B L room j t
  unfolding is_met
  meets-yes j zero h = record { lines = closed p B (suc j); report = (report-written p B mono j (closed p B (suc j))).0 (closed_is p B mono j); more = ltb-true _ _ h }
  meets-yes j (suc zero) h =
      let q = any-yes _ (live p B (suc j)) h in
      let l = live-sound p B (suc j) q.1 in
      record { reading = q.0; reads = partial-to p B q.0 l.reads; ends = eqb-true _ _ (both q.2).0; long = eqb-true _ _ (both {a = eqb (last_of q.0) j} q.2).1 }
  meets-yes j (suc (suc zero)) h = absurd (false≢true h)
  meets-yes j (suc (suc (suc zero))) h = record { number = length (live p B (suc j)); count = count p B mono j; more = ltb-true _ _ h }
  meets-yes j (suc (suc (suc (suc n)))) h = absurd (false≢true h)

  long-live : (j : ℕ) (r : Reading) → Partial p B r → last_of r ≡ j → Live p B r (suc j)
  long-live j [] h e = absurd h
  long-live j (b ∷ r) h e = record { reads = h; kept = subst (λ n. Kept p B (b ∷ r) (suc n)) e (kept_new p B b r) }

  yes-meets : (j t : ℕ) → Meets p B L room j t → is_met p B L room j t ≡ true
  unfolding is_met
  yes-meets j zero h = lt-ltb _ _ (subst (λ l. room < length (pack l)) (one-report p B j _ _ h.report ((report-written p B mono j (closed p B (suc j))).0 (closed_is p B mono j))) h.more)
  yes-meets j (suc zero) h =
      yes-any _ (live-complete p B (suc j) h.reading (long-live j h.reading (partial-of p B mono h.reading h.reads) h.ends))
      (ap₂ ◌&&◌ (eq-eqb _ _ h.ends) (eq-eqb _ _ h.long))
  yes-meets j (suc (suc zero)) h = absurd (never-twice p B j h)
  yes-meets j (suc (suc (suc zero))) h = lt-ltb _ _ (subst (λ n. L < n) (one-count p B j _ _ h.count (count p B mono j)) h.more)
  yes-meets j (suc (suc (suc (suc n)))) h = absurd h

  never-13 : (j : ℕ) → is_met p B L room j 2 ≡ false
  unfolding is_met
  never-13 j = refl

  peak-most : (n k : ℕ) → k ≤ n → length (live p B k) ≤ peak p B n
  unfolding peak live
  peak-most zero zero h = omega arith
  peak-most zero (suc k) h = absurd (omega arith)
  peak-most (suc n) k h = go (peak-most n k) (ℕ_discrete k (suc n))
    where
      go :
          (k ≤ n → length (live p B k) ≤ peak p B n) → Dec (k ≡ suc n)
          → length (live p B k) ≤ max (length (live p B (suc n))) (peak p B n)
      go ih (yes e) = omega (arith, ap (λ i. length (live p B i)) e)
      go ih (no d) = omega (arith, ih (omega arith))

  peak-when : (n : ℕ) → (k : ℕ) × (k ≤ n) × (length (live p B k) ≡ peak p B n)
  unfolding peak live
  peak-when zero = (0, omega arith, refl)
  peak-when (suc n) = go (peak-when n) (dec_le (length (live p B (suc n))) (peak p B n))
    where
      go :
          (k : ℕ) × (k ≤ n) × (length (live p B k) ≡ peak p B n) → Dec (length (live p B (suc n)) ≤ peak p B n)
          → (k : ℕ) × (k ≤ suc n) × (length (live p B k) ≡ max (length (live p B (suc n))) (peak p B n))
      go q (yes h) = (q.0, omega (arith, q.1), omega (arith, q.2))
      go q (no h) = (suc n, omega arith, omega arith)

  peak-reached :
      (k : ℕ) → k ≤ length B → length (live p B k) ≡ peak p B (length B)
      → (peak p B (length B) ≡ 0) ⊎ ((j : ℕ) × (j < length B) × LiveCount p B j (peak p B (length B)))
  unfolding live
  peak-reached zero h e = inl (sym e)
  peak-reached (suc j) h e = inr (j, h, subst (LiveCount p B j) e (count p B mono j))

  peak-is : IsPeak p B (peak p B (length B))
  peak-is =
      let q = peak-when (length B) in
      record {
        most = λ j m h c. omega (arith, one-count p B j m _ c (count p B mono j), peak-most (length B) (suc j) h);
        reached = peak-reached q.0 q.1 q.2;
      }

  abbrev None : ℕ → ℕ → Type 0
  None j t = (i u : ℕ) → (i < j) ⊎ ((i ≡ j) × (u < t)) → ¬ Meets p B L room i u

  none_more : (j t : ℕ) → None j t → is_met p B L room j t ≡ false → None j (suc t)
  none_more j t h e i u (inl l) m = h i u (inl l) m
  none_more j t h e i u (inr (d, l)) m = go (ℕ_discrete u t)
    where
      go : Dec (u ≡ t) → ⊥
      go (yes q) = clash (yes-meets j t (subst (Meets p B L room j) q (subst (λ n. Meets p B L room n u) d m))) e
      go (no q) = h i u (inr (d, omega arith)) m

  none-next : (j : ℕ) → None j 4 → None (suc j) 0
  none-next j h i u (inr (d, l)) m = absurd (omega arith)
  none-next j h i u (inl l) m = go u m (ℕ_discrete i j)
    where
      go : (u : ℕ) → Meets p B L room i u → Dec (i ≡ j) → ⊥
      go u m (no n) = h i u (inl (omega arith)) m
      go zero m (yes e) = h i 0 (inr (e, omega arith)) m
      go (suc zero) m (yes e) = h i 1 (inr (e, omega arith)) m
      go (suc (suc zero)) m (yes e) = h i 2 (inr (e, omega arith)) m
      go (suc (suc (suc zero))) m (yes e) = h i 3 (inr (e, omega arith)) m
      go (suc (suc (suc (suc n)))) m (yes e) = m

  scan-is : (j n : ℕ) → j + n ≡ suc (length B) → None j 0 → Forward p B L room (scan p B L room j n)
  unfolding scan
  scan-is j zero e h = succeeds (report p B) (peak p B (length B)) (λ i u l. h i u (inl (omega arith))) ((report-written p B mono (length B) (report p B)).0 (report-is p B mono)) peak-is refl
  scan-is j (suc n) e h = go (is_met p B L room j 0) (is_met p B L room j 1) (is_met p B L room j 3) refl refl refl (λ q. scan-is (suc j) n (omega arith) q)
    where
      at : (t : ℕ) → is_met p B L room j t ≡ true → None j t → Forward p B L room (refusal room j t)
      at t m k = refuses j t (omega arith) (meets-yes j t m) k refl

      upto-3 : None j 2 → None j 3
      upto-3 k = none_more j 2 k (never-13 j)

      go : (a b c : Bool) → is_met p B L room j 0 ≡ a → is_met p B L room j 1 ≡ b → is_met p B L room j 3 ≡ c
          → (None (suc j) 0 → Forward p B L room (scan p B L room (suc j) n))
          → Forward p B L room (elim a [
            | true ↦ refusal room j 0
            | false ↦ elim b [ true ↦ refusal room j 1 | false ↦ elim c [ true ↦ refusal room j 3 | false ↦ scan p B L room (suc j) n ] ]
          ])
      go true b c x y z ih = at 0 x h
      go false true c x y z ih = at 1 y (none_more j 0 h x)
      go false false true x y z ih = at 3 z (upto-3 (none_more j 1 (none_more j 0 h x) y))
      go false false false x y z ih = ih (none-next j (none_more j 3 (upto-3 (none_more j 1 (none_more j 0 h x) y)) z))

  pub forward-is : Forward p B L room (forward p B L room)
  unfolding forward
  forward-is = scan-is 0 (suc (length B)) (omega arith) (λ i u. none)
    where
      none : {i u : ℕ} → (i < 0) ⊎ ((i ≡ 0) × (u < 0)) → ¬ Meets p B L room i u
      none (inl h) = absurd (omega arith)
      none (inr h) = absurd (omega arith)

-- a peak is no more than another
below-peak : (p : Pattern) (B : Block) (m n : ℕ) → IsPeak p B m → IsPeak p B n → m ≤ n
below-peak p B m n a b = go a.reached
  where
    go : (m ≡ 0) ⊎ ((j : ℕ) × (j < length B) × LiveCount p B j m) → m ≤ n
    go (inl e) = omega arith
    go (inr (j, l, c)) = b.most j m l c

-- two answers are one
pub one_answer :
    (p : Pattern) (B : Block) (L room : ℕ) (a b : Outcome) → Forward p B L room a → Forward p B L room b → a ≡ b
one_answer p B L room a b (succeeds l m n r k e) (succeeds l' m' n' r' k' e') = e ∙ ap₂ (success room) (one-report p B (length B) l l' r r') peaks ∙ sym e'
  where
    peaks : m ≡ m'
    peaks = let f = below-peak p B m m' k k' in let g = below-peak p B m' m k' k in omega arith
one_answer p B L room a b (succeeds l m n r k e) (refuses j t i h f e') = absurd (n j t i h)
one_answer p B L room a b (refuses j t i h f e) (succeeds l m n r k e') = absurd (n j t i h)
one_answer p B L room a b (refuses j t i h f e) (refuses j' t' i' h' f' e') = e ∙ ap₂ (refusal room) places rows ∙ sym e'
  where
    places : j ≡ j'
    places = go (dec_lt j j') (dec_lt j' j)
      where
        go : Dec (j < j') → Dec (j' < j) → j ≡ j'
        go (yes l) d = absurd (f' j t (inl l) h)
        go (no l) (yes d) = absurd (f j' t' (inl d) h')
        go (no l) (no d) = omega arith

    rows : t ≡ t'
    rows = go (dec_lt t t') (dec_lt t' t)
      where
        go : Dec (t < t') → Dec (t' < t) → t ≡ t'
        go (yes l) d = absurd (f' j t (inr (places, l)) h)
        go (no l) (yes d) = absurd (f j' t' (inr (sym places, d)) h')
        go (no l) (no d) = omega arith
