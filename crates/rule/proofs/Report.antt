-- The computed report is the report of the rule, on a block whose times never fall. Assumes nothing.
use mathlib.Core.Path.{◌≡◌, refl, sym, ap, subst, ◌∙◌}
use mathlib.Core.Logic.{◌⊎◌, inl, inr}
use mathlib.Core.Bool.{Bool, true, false, not}
use mathlib.Core.List.Memᴰ
use mathlib.Core.List.{List, [], ◌∷◌, ◌++◌, Memᴰ}
use Prim.Native.Nat.{ℕ, zero, suc, ◌+◌, ◌≤◌, ◌<◌}
use native.Mathlib.Omega.{arith}
use native.Mathlib.Decide.{ℕ_discrete, dec_le, dec_lt}
use lib.ListN.{length, get_or-eq_default}
use lib.Dec.{ltb}
use borrow.Author.Tests.{ltb-true, ltb-false, leb-false, lt-leb, not-true}
use Rattle.records.specs.declared.Record.{Record}
use Rattle.patterns.specs.declared.Pattern.{Pattern}
use Rattle.automaton.specs.Filtering.{filter}
use Rattle.rule.specs.Rule.{Block, Reading, Line, Before, sooner, start_of, Event, InWindow, Closes, gap, past}
use Rattle.rule.specs.Rule.{end, is_full, time_at, record_in, TimesNeverFall, past_mark, end_mark, gap_mark}
use Rattle.rule.specs.Growth.{Partial, Live, Kept, IsReport}
use Rattle.rule.specs.Computed.{is_event, in_window, live, line, lines, closing, closed, report}
use Rattle.automaton.proofs.Membership.{map-mem, filter-mem, mem-filter, mem-map}
use Rattle.automaton.proofs.Ordered.{Ordered, ordered-append, ordered-filter, ordered-map}
use Rattle.rule.proofs.LiveReadings.{event-yes, event-no, live-sound, live-complete}
use Rattle.rule.proofs.LiveOrder.{live-ordered, start-lt}

abbrev pub Sooner : Line → Line → Type 0
Sooner x y = Before x.reading y.reading

module _ (p : Pattern) (B : Block) where
  -- every record from the start of a live reading on is an event in its window
  pub spans :
      (r : Reading) (k : ℕ) → Partial p B r → Kept p B r k → (i : ℕ) → start_of r ≤ i → i < k
      → Event B i × InWindow p B r i
  spans [] k h g i lo hi = absurd h
  spans (b ∷ []) k h g i lo hi = go (ℕ_discrete i b.at)
    where
      go : Dec (i ≡ b.at) → Event B i × InWindow p B (b ∷ []) i
      go (yes e) = subst (λ n. Event B n × InWindow p B (b ∷ []) n) (sym e) (h.0, omega arith)
      go (no n) = let q = g.passed i (omega arith) hi in (q.event, q.near)
  spans (b ∷ c ∷ r) k h g i lo hi = go (λ l. spans (c ∷ r) b.at h.0 h.1 i lo l) (dec_lt b.at i) (ℕ_discrete i b.at)
    where
      go :
          (i < b.at → Event B i × InWindow p B (c ∷ r) i) → Dec (b.at < i) → Dec (i ≡ b.at)
          → Event B i × InWindow p B (c ∷ r) i
      go ih (yes l) d = let q = g.passed i l hi in (q.event, q.near)
      go ih (no l) (yes e) = subst (λ n. Event B n × InWindow p B (c ∷ r) n) (sym e) (h.2.event, h.2.near)
      go ih (no l) (no n) = ih (omega arith)

  pub event-in : (j : ℕ) → Event B j → j < length B
  event-in j e = go (dec_lt j (length B))
    where
      go : Dec (j < length B) → j < length B
      go (yes h) = h
      go (no n) = let q : (record_in B j).kind ≡ 1 = ap (λ (r : Record). r.kind) (get_or-eq_default B _ (omega arith)) in absurd (omega arith)

  -- a live reading has read no more records than there are
  pub live_in : (k : ℕ) (r : Reading) → Live p B r k → k ≤ length B
  live_in zero r l = omega arith
  live_in (suc k) r l = omega (arith, event-in k (spans r (suc k) l.reads l.kept k (omega (arith, start-lt p B (suc k) r l)) (omega arith)).0)

  mem-lines :
      (m : ℕ) (l : List Reading) {x : Line} → Memᴰ x (lines p m l)
      → (x.mark ≡ m) × (is_full p x.reading ≡ true) × Memᴰ x.reading l
  unfolding lines
  mem-lines m l {x} h =
      let q = mem-map (line m) _ h in
      let f = mem-filter (is_full p) l q.1 in
      let e = ap (λ (y : Line). y.reading) q.2 in
      (ap (λ (y : Line). y.mark) q.2, ap (is_full p) e ∙ f.0, Memᴰ.cast e f.1)

  lines-mem :
      (x : Line) {l : List Reading} → Memᴰ x.reading l → is_full p x.reading ≡ true
      → Memᴰ x (lines p x.mark l)
  unfolding lines
  lines-mem x h f = map-mem (line x.mark) (filter-mem (is_full p) h f)

  lines-ordered : (m : ℕ) (l : List Reading) → Ordered Before l → Ordered Sooner (lines p m l)
  unfolding lines
  lines-ordered m l h = ordered-map Before Sooner (line m) (λ x y b. b) (filter (is_full p) l) (ordered-filter Before (is_full p) l h)

  outside : (r : Reading) (k : ℕ) → not (in_window p B r k) ≡ true → ¬ InWindow p B r k
  unfolding in_window
  outside r k h w = let q : time_at B (start_of r) + p.duration < time_at B k = leb-false _ _ (not-true (in_window p B r k) h) in omega arith

  outside_b : (r : Reading) (k : ℕ) → ¬ InWindow p B r k → not (in_window p B r k) ≡ true
  unfolding in_window
  outside_b r k n = let q : time_at B (start_of r) + p.duration < time_at B k = omega arith in ap not (lt-leb _ _ q)

  -- how a line came to be in `closing`
  pub record Ends (k : ℕ) (x : Line) : Type 0 where
    pub live : Live p B x.reading k
    pub full : is_full p x.reading ≡ true
    pub how : Closes p B x.reading k x.mark

  pub mem-closing :
      (k : ℕ) (l : List Reading) → ((r : Reading) → Memᴰ r l → Live p B r k)
      → {x : Line} → Memᴰ x (closing p B k l)
      → Ends k x × Memᴰ x.reading l
  unfolding closing
  mem-closing k l lv {x} m = go (is_event B k) (ltb k (length B)) refl refl m
    where
      ended :
          ltb k (length B) ≡ false → Live p B x.reading k → x.mark ≡ end_mark → Closes p B x.reading k x.mark
      ended t g e = end (omega (arith, ltb-false k (length B) t, live_in k x.reading g)) e

      go :
          (s t : Bool) → is_event B k ≡ s → ltb k (length B) ≡ t
          → Memᴰ x (elim s [
            | true ↦ lines p past_mark (filter (λ r. not (in_window p B r k)) l)
            | false ↦ elim t [ true ↦ lines p (gap_mark p) l | false ↦ lines p end_mark l ]
          ]) → Ends k x × Memᴰ x.reading l
      go true t e d h =
          let q = mem-lines past_mark _ h in
          let f = mem-filter (λ r. not (in_window p B r k)) l q.2 in
          (record { live = lv _ f.1; full = q.1; how = past (event-yes p B k e) (outside x.reading k f.0) q.0 }, f.1)
      go false true e d h = let q = mem-lines (gap_mark p) _ h in (record { live = lv _ q.2; full = q.1; how = gap (ltb-true k (length B) d) (event-no p B k e) q.0 }, q.2)
      go false false e d h = let q = mem-lines end_mark _ h in (record { live = lv _ q.2; full = q.1; how = ended d (lv _ q.2) q.0 }, q.2)

  pub closing-mem :
      (k : ℕ) (l : List Reading) (x : Line) → Memᴰ x.reading l
      → is_full p x.reading ≡ true → Closes p B x.reading k x.mark
      → Memᴰ x (closing p B k l)
  unfolding closing
  closing-mem k l x m fu c = go (is_event B k) (ltb k (length B)) refl refl c
    where
      as-marked : (n : ℕ) (l : List Reading) → x.mark ≡ n → Memᴰ x.reading l → Memᴰ x (lines p n l)
      as-marked n l e i = subst (λ t. Memᴰ x (lines p t l)) e (lines-mem x i fu)

      go :
          (s t : Bool) → is_event B k ≡ s → ltb k (length B) ≡ t → Closes p B x.reading k x.mark
          → Memᴰ x (elim s [
            | true ↦ lines p past_mark (filter (λ r. not (in_window p B r k)) l)
            | false ↦ elim t [ true ↦ lines p (gap_mark p) l | false ↦ lines p end_mark l ]
          ])
      go true t e d (gap a n q) = absurd (n (event-yes p B k e))
      go true t e d (past v n q) = as-marked past_mark _ q (filter-mem (λ r. not (in_window p B r k)) m (outside_b x.reading k n))
      go true t e d (end a q) = absurd (omega (arith, event-in k (event-yes p B k e)))
      go false true e d (gap a n q) = as-marked (gap_mark p) _ q m
      go false true e d (past v n q) = absurd (event-no p B k e v)
      go false true e d (end a q) = absurd (omega (arith, ltb-true k (length B) d))
      go false false e d (gap a n q) = absurd (omega (arith, ltb-false k (length B) d))
      go false false e d (past v n q) = absurd (event-no p B k e v)
      go false false e d (end a q) = as-marked end_mark _ q m

  pub closing-ordered : (k : ℕ) (l : List Reading) → Ordered Before l → Ordered Sooner (closing p B k l)
  unfolding closing
  closing-ordered k l o = go (is_event B k) (ltb k (length B))
    where
      go :
          (s t : Bool)
          → Ordered Sooner (elim s [
            | true ↦ lines p past_mark (filter (λ r. not (in_window p B r k)) l)
            | false ↦ elim t [ true ↦ lines p (gap_mark p) l | false ↦ lines p end_mark l ]
          ])
      go true t = lines-ordered past_mark _ (ordered-filter Before _ l o)
      go false true = lines-ordered (gap_mark p) _ o
      go false false = lines-ordered end_mark _ o

  live-mem : (k : ℕ) (r : Reading) → Memᴰ r (live p B k) → Live p B r k
  live-mem k r m = live-sound p B k m

  mem-closed : (n : ℕ) {x : Line} → Memᴰ x (closed p B n) → (k : ℕ) × (k < n) × Ends k x
  unfolding closed
  mem-closed zero m = absurd (Memᴰ.not-nil m)
  mem-closed (suc n) {x} m = go (λ h. mem-closed n h) (Memᴰ.append_cases (closed p B n) m)
    where
      go :
          (Memᴰ x (closed p B n) → (k : ℕ) × (k < n) × Ends k x)
          → Memᴰ x (closed p B n) ⊎ Memᴰ x (closing p B n (live p B n))
          → (k : ℕ) × (k < suc n) × Ends k x
      go ih (inl h) = let q = ih h in (q.0, omega (arith, q.1), q.2)
      go ih (inr h) = (n, omega arith, (mem-closing n (live p B n) (live-mem n) h).0)

  closed-mem : (n k : ℕ) → k < n → {x : Line} → Memᴰ x (closing p B k (live p B k)) → Memᴰ x (closed p B n)
  unfolding closed
  closed-mem zero k h m = absurd (omega arith)
  closed-mem (suc n) k h {x} m = go (λ l. closed-mem n k l m) (ℕ_discrete k n)
    where
      go : (k < n → Memᴰ x (closed p B n)) → Dec (k ≡ n) → Memᴰ x (closed p B n ++ closing p B n (live p B n))
      go ih (yes e) = Memᴰ.append_right (closed p B n) (subst (λ j. Memᴰ x (closing p B j (live p B j))) e m)
      go ih (no d) = Memᴰ.append_left (closing p B n (live p B n)) (ih (omega arith))

  module _ (mono : TimesNeverFall B) where
    -- what has closed started before what is live after
    ends-before :
        (k n : ℕ) → k < n → (r s : Reading) (m : ℕ) → Live p B r k → Closes p B r k m → Live p B s n
        → start_of r < start_of s
    ends-before k n lt r s m l c g = go c (dec_le (start_of s) k) (dec_lt (start_of r) (start_of s))
      where
        at-k : start_of s ≤ k → Event B k × InWindow p B s k
        at-k d = spans s n g.reads g.kept k d lt

        go : Closes p B r k m → Dec (start_of s ≤ k) → Dec (start_of r < start_of s) → start_of r < start_of s
        go c d (yes w) = w
        go c (no d) (no w) = absurd (omega (arith, start-lt p B k r l))
        go (gap a e q) (yes d) (no w) = absurd (e (at-k d).0)
        go (end a q) (yes d) (no w) = absurd (omega (arith, event-in k (at-k d).0))
        go (past v e q) (yes d) (no w) =
            let h = start-lt p B k r l in
            let t = mono (start_of s) (start_of r) (omega arith) (omega (arith, event-in k v)) in
            absurd (e (omega (arith, (at-k d).1)))

    closed-ordered : (n : ℕ) → Ordered Sooner (closed p B n)
    unfolding closed
    closed-ordered zero = tt
    closed-ordered (suc n) = ordered-append Sooner (closed p B n) (closing p B n (live p B n)) (closed-ordered n) (closing-ordered n (live p B n) (live-ordered p B n)) cross
      where
        cross : (x y : Line) → Memᴰ x (closed p B n) → Memᴰ y (closing p B n (live p B n)) → Sooner x y
        cross x y i j =
            let q = mem-closed n i in
            sooner (ends-before q.0 n q.1 x.reading y.reading x.mark q.2.live q.2.how (mem-closing n (live p B n) (live-mem n) j).0.live)

    pub closed_is : (J : ℕ) → IsReport p B J (closed p B (suc J))
    closed_is J = record {
      rising = closed-ordered (suc J);
      sound = λ x m. let q = mem-closed (suc J) m in record { at = q.0; by = omega (arith, q.1); live = q.2.live; closes = q.2.how; full = q.2.full };
      complete = λ x h. closed-mem (suc J) h.at (omega (arith, h.by)) (closing-mem h.at (live p B h.at) x (live-complete p B h.at x.reading h.live) h.full h.closes);
    }

    pub report-is : IsReport p B (length B) (report p B)
    unfolding report
    report-is = closed_is (length B)
