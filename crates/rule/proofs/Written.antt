-- The rule of specs/Growth, by which the list functions are proved, is the rule of specs/Rule where times never fall.
-- Assumes nothing.
use mathlib.Core.Path.{◌≡◌, refl, sym, ap, subst}
use mathlib.Core.Logic.{◌↔◌}
use mathlib.Core.List.{List, [], ◌∷◌, ◌++◌, nil≢cons}
use Prim.Native.Nat.{ℕ, zero, suc, ◌≤◌, ◌<◌}
use native.Mathlib.Nat.{not-suc-le-zero}
use native.Mathlib.Omega.{arith}
use lib.ListN.{length}
use Rattle.patterns.specs.declared.Pattern.{Pattern}
use Rattle.rule.specs.Rule.{Block, Binding, Reading, Event, Line, Closes, Follows, PartialReading, LiveAfter}
use Rattle.rule.specs.Rule.{IsReported, Report, last_of, start_of, TimesNeverFall}
use Rattle.rule.specs.Growth.{Partial, Live, Reported, IsReport}
use Rattle.numbers.proofs.Cases.{by_order}
use Rattle.rule.proofs.LiveOrder.{start-le}
use Rattle.rule.proofs.Report.{spans, event-in, live_in}

module _ (p : Pattern) (B : Block) where
  step-written : (s : Reading) (b : Binding) → Partial p B (b ∷ s) → Follows p B s b
  step-written [] b h = record
      { event = h.0; fire = h.1; rising = λ n. absurd (n refl); window = λ n. absurd (n refl); no_gap = λ n. absurd (n refl); no_fire = λ n. absurd (n refl) }
  step-written (c ∷ s) b h = record {
    event = h.2.event;
    fire = h.2.fire;
    rising = λ n. h.1.later;
    window = λ n. h.2.near;
    no_gap = λ n i lo hi. (h.1.passed i lo hi).event;
    no_fire = λ n i lo hi e. (h.1.passed i lo hi).none;
  }

  each-written : (t : Reading) (b : Binding) (s : Reading) → Partial p B (t ++ (b ∷ s)) → Follows p B s b
  each-written [] b s h = step-written s b h
  each-written (x ∷ []) b s h = step-written s b h.0
  each-written (x ∷ y ∷ t) b s h = each-written (y ∷ t) b s h.0

  pub partial-to : (r : Reading) → Partial p B r → PartialReading p B r
  partial-to r h = record { one_or_more = λ e. subst (Partial p B) e h; each = λ t b s e. each-written t b s (subst (Partial p B) e h) }

  module _ (mono : TimesNeverFall B) where
    pub partial-of : (r : Reading) → PartialReading p B r → Partial p B r
    partial-of [] h = absurd (h.one_or_more refl)
    partial-of (b ∷ []) h = let q = h.each [] b [] refl in (q.event, q.fire)
    partial-of (a ∷ b ∷ r) h =
        let q = h.each [] a (b ∷ r) refl in
        let n : ¬ (b ∷ r ≡ []) = λ e. nil≢cons (sym e) in (
          partial-of (b ∷ r) (record { one_or_more = n; each = λ t c s e. h.each (a ∷ t) c s (ap (λ l. a ∷ l) e) }),
          record {
            later = q.rising n;
            passed = λ i lo hi. record { event = q.no_gap n i lo hi; near = omega (arith, mono i a.at (omega arith) (event-in p B a.at q.event), q.window n); none = q.no_fire n i lo hi (q.no_gap n i lo hi) };
          },
          record { event = q.event; near = q.window n; fire = q.fire },
        )

    pub partial-written : (r : Reading) → Partial p B r ↔ PartialReading p B r
    partial-written r = (partial-to r, partial-of r)

    pub live_written : (r : Reading) (j : ℕ) → j < length B → Live p B r (suc j) ↔ LiveAfter p B r j
    live_written r j l = (to, of)
      where
        to : Live p B r (suc j) → LiveAfter p B r j
        to h = record {
          reads = partial-to r h.reads;
          up_to = omega (arith, h.kept.later);
          no_gap = λ i lo hi. (spans p B r (suc j) h.reads h.kept i (omega arith) (omega arith)).0;
          window = (spans p B r (suc j) h.reads h.kept j (omega (arith, start-le p B r h.reads, h.kept.later)) (omega arith)).1;
          no_fire = λ i lo hi e. (h.kept.passed i lo (omega arith)).none;
        }

        of : LiveAfter p B r j → Live p B r (suc j)
        of h =
            let q = partial-of r h.reads in
            record {
              reads = q;
              kept = record {
                later = omega (arith, h.up_to);
                passed = λ i lo hi. record { event = h.no_gap i (omega (arith, start-le p B r q)) (omega arith); near = omega (arith, mono i j (omega arith) l, h.window); none = h.no_fire i lo (omega arith) (h.no_gap i (omega (arith, start-le p B r q)) (omega arith)) };
              };
            }

    last-event : (r : Reading) → Partial p B r → Event B (last_of r)
    last-event [] h = absurd h
    last-event (b ∷ []) h = h.0
    last-event (b ∷ c ∷ r) h = h.2.event

    -- what is live after record j: record j is one of the block
    inside :
        (r : Reading) (j : ℕ) → Partial p B r → last_of r ≤ j → ((i : ℕ) → start_of r < i → i ≤ j → Event B i)
        → j < length B
    inside r j h l g =
        by_order (start_of r) j
        (λ s. event-in p B j (g j s (omega arith)))
        (λ s. let e : last_of r ≡ j = omega (arith, start-le p B r h) in subst (λ k. k < length B) e (event-in p B (last_of r) (last-event r h)))

    -- the same with the record inside the block found
    pub live-after : (r : Reading) (j : ℕ) → LiveAfter p B r j → Live p B r (suc j)
    live-after r j h = (live_written r j (inside r j (partial-of r h.reads) h.up_to h.no_gap)).1 h

    pub live_inside : (r : Reading) (j : ℕ) → LiveAfter p B r j → j < length B
    live_inside r j h = inside r j (partial-of r h.reads) h.up_to h.no_gap

    pub reported-written : (J : ℕ) (x : Line) → Reported p B J x → IsReported p B J x
    reported-written J x h = go h.at h.by h.live h.closes
      where
        go : (k : ℕ) → k ≤ J → Live p B x.reading k → Closes p B x.reading k x.mark → IsReported p B J x
        go zero b l c = absurd (not-suc-le-zero l.kept.later)
        go (suc j) b l c =
            record { after = j; live = (live_written x.reading j (live_in p B (suc j) x.reading l)).0 l; closes = c; by = b; full = h.full }

    pub written-reported : (J : ℕ) (x : Line) → IsReported p B J x → Reported p B J x
    written-reported J x h =
        record { at = suc h.after; by = h.by; live = live-after x.reading h.after h.live; closes = h.closes; full = h.full }

    pub report-written : (J : ℕ) (l : List Line) → IsReport p B J l ↔ Report p B J l
    report-written J l = (
      (λ h. record { rising = h.rising; sound = λ x m. reported-written J x (h.sound x m); complete = λ x r. h.complete x (written-reported J x r) }),
      (λ h. record { rising = h.rising; sound = λ x m. written-reported J x (h.sound x m); complete = λ x r. h.complete x (reported-written J x r) }),
    )
