-- Where the readings of a start close, by the bytes of the block, is where the rule says, and so is the mark.
-- Assumes nothing.
use Rattle.std.proofs.Common.{◌≡◌, sym, ap, ap₂, subst, ◌∙◌, true, false, ⊎_elim, List, ℕ, suc, ◌+◌, ◌≤◌, ◌<◌}
use Rattle.std.proofs.Common.{eq-or-lt_of_le, add-one, arith, eqb, ltb, length}
use borrow.Author.Tests.{lt-ltb, le-ltb, eq-eqb, ne_eqb}
use Rattle.records.specs.declared.Record.{Record}
use Rattle.records.specs.Records.{record_at, record_count, records_of, event_kind}
use Rattle.records.proofs.Listed.{length-records, record-listed}
use Rattle.patterns.specs.declared.Pattern.{Pattern}
use Rattle.rule.specs.Rule.{Block, behind_end, past_mark, end_mark, gap_mark}
use Rattle.rule.specs.Computed.{is_event}
use Rattle.rule.specs.Starts.{is_past, closes_at, until, mark_at}
use Rattle.rule.proofs.SkipBranch.{stays_open, closes-gap, closes-past, until-at, until_end, mark-past, mark-gap}
use Rattle.rule.proofs.SkipBranch.{mark-end}
use Rattle.closings.specs.Closings.{OpenTo, WindowIs}

module _ (bytes : List ℕ) where
  abbrev B : Block
  B = records_of bytes

  pub event-by : (q : ℕ) → q < record_count bytes → is_event B q ≡ eqb (record_at bytes q).kind event_kind
  unfolding is_event
  event-by q l = ap (λ (x : Record). eqb x.kind event_kind) (record-listed bytes q behind_end l)

  past_by :
      (p : Pattern) (i q : ℕ) → i < record_count bytes → q < record_count bytes
      → is_past p B i q ≡ ltb ((record_at bytes i).time + p.duration) (record_at bytes q).time
  unfolding is_past
  past_by p i q k l = ap₂ (λ (x y : Record). ltb (x.time + p.duration) y.time) (record-listed bytes i behind_end k) (record-listed bytes q behind_end l)

  pub is-event : (q : ℕ) → q < record_count bytes → (record_at bytes q).kind ≡ event_kind → is_event B q ≡ true
  is-event q l e = event-by q l ∙ eq-eqb (record_at bytes q).kind event_kind e

  pub is-gap : (q : ℕ) → q < record_count bytes → ((record_at bytes q).kind ≡ event_kind → ⊥) → is_event B q ≡ false
  is-gap q l e = event-by q l ∙ ne_eqb (record_at bytes q).kind event_kind e

  module _ (duration i k : ℕ) (l : i < k) (few : k ≤ record_count bytes) (opened : OpenTo bytes duration i k) where
    -- the records before k are events of the window
    none-closes : (p : Pattern) → p.duration ≡ duration → (q : ℕ) → i < q → q < k → closes_at p B i q ≡ false
    none-closes p d q a b =
        let near = opened.near q a b in
        stays_open p B i q
        (is-event q (omega arith) (opened.event q a b))
        (past_by p i q (omega arith) (omega arith) ∙ le-ltb ((record_at bytes i).time + p.duration) (record_at bytes q).time (omega arith))

    -- one record more
    pub open_more :
        k < record_count bytes → (record_at bytes k).kind ≡ event_kind
        → (record_at bytes k).time ≤ (record_at bytes i).time + duration
        → OpenTo bytes duration i (k + 1)
    open_more inside e t =
        record {
          event = λ q a b. ⊎_elim (λ z. subst (λ (x : ℕ). (record_at bytes x).kind ≡ event_kind) (sym z) e) (λ z. opened.event q a z) (eq-or-lt_of_le {n = q} {m = k} (omega arith));
          near = λ q a b. ⊎_elim (λ z. subst (λ (x : ℕ). (record_at bytes x).time ≤ (record_at bytes i).time + duration) (sym z) t) (λ z. opened.near q a z) (eq-or-lt_of_le {n = q} {m = k} (omega arith));
        }

    window-by :
        (gap mark : ℕ) → mark < 16 → ((p : Pattern) → p.duration ≡ duration → until p B i ≡ k)
        → ((p : Pattern) → gap_mark p ≡ gap → mark_at p B k ≡ mark)
        → WindowIs bytes duration gap i (record { until = k; mark = mark })
    window-by gap mark small u m =
        record {
          after = l;
          block = few;
          opened = opened;
          small = small;
          closes = λ p d. sym (u p d);
          mark = λ p d g. sym (m p g) ∙ ap (mark_at p B) (sym (u p d));
        }

    pub window-gap :
        (gap : ℕ) → gap < 16 → k < record_count bytes → ((record_at bytes k).kind ≡ event_kind → ⊥)
        → WindowIs bytes duration gap i (record { until = k; mark = gap })
    window-gap gap small inside e =
        let z : k < length B = omega (arith, length-records bytes) in
        window-by gap gap small
        (λ p d. until-at p B i k z (none-closes p d) (closes-gap p B i k l (is-gap k inside e)))
        (λ p g. mark-gap p B k z (is-gap k inside e) ∙ g)

    pub window-past :
        (gap mark : ℕ) → mark ≡ past_mark → k < record_count bytes → (record_at bytes k).kind ≡ event_kind
        → (record_at bytes i).time + duration < (record_at bytes k).time
        → WindowIs bytes duration gap i (record { until = k; mark = mark })
    window-past gap mark m inside e late =
        let z : k < length B = omega (arith, length-records bytes) in
        let t = lt-ltb ((record_at bytes i).time + duration) (record_at bytes k).time late in
        window-by gap mark (omega arith)
        (λ p d. until-at p B i k z (none-closes p d) (closes-past p B i k l (is-event k inside e)
        (past_by p i k (omega arith) inside ∙ ap (λ (x : ℕ). ltb ((record_at bytes i).time + x) (record_at bytes k).time) d ∙ t)))
        (λ p g. mark-past p B k (is-event k inside e) ∙ sym m)

    pub window-end :
        (gap mark : ℕ) → mark ≡ end_mark → record_count bytes ≤ k
        → WindowIs bytes duration gap i (record { until = record_count bytes; mark = mark })
    window-end gap mark m end =
        let z : k ≡ length B = omega (arith, length-records bytes) in
        let e : k ≡ record_count bytes = omega arith in
        subst (λ (q : ℕ). WindowIs bytes duration gap i (record { until = q; mark = mark })) e
        (window-by gap mark (omega arith)
        (λ p d. until_end p B i (λ q a b. none-closes p d q a (omega arith)) ∙ sym z)
        (λ p g. ap (mark_at p B) z ∙ mark-end p B ∙ sym m))

pub open_none : (bytes : List ℕ) (duration i : ℕ) → OpenTo bytes duration i 0
open_none bytes duration i = record { event = λ q a b. absurd (omega arith); near = λ q a b. absurd (omega arith) }

-- what is open from one record is open from the next, whose time is no earlier
pub open-later :
    (bytes : List ℕ) (duration i k : ℕ)
    → ((q : ℕ) → suc q < record_count bytes → (record_at bytes q).time ≤ (record_at bytes (suc q)).time)
    → k ≤ record_count bytes
    → OpenTo bytes duration i k
    → OpenTo bytes duration (i + 1) k
open-later bytes duration i k climbing few opened =
    record {
      event = λ q a b. opened.event q (omega arith) b;
      near = λ q a b.
          let near = opened.near q (omega arith) b in
          let later : (record_at bytes i).time ≤ (record_at bytes (i + 1)).time = rw (add-one i) (climbing i (omega arith)) in
          omega arith;
    }
