-- The windows of records by the bytes of the block: times never fall, a window that is past stays past, and what is
-- open by the bytes is open by the rule. Assumes nothing.
use Rattle.std.proofs.Common.{◌≡◌, sym, ap, ap₂, subst, ◌∙◌, true, List, ℕ, zero, suc, ◌+◌, ◌-◌, ◌≤◌, ◌<◌, arith, eqb}
use Rattle.std.proofs.Common.{ltb, ltb-false, eqb-true}
use Rattle.records.specs.declared.Record.{Record}
use Rattle.records.specs.Records.{record_at, record_count, records_of, event_kind}
use Rattle.records.proofs.Listed.{length-records, record-listed}
use Rattle.patterns.specs.declared.Pattern.{Pattern}
use Rattle.rule.specs.Rule.{Block, behind_end}
use Rattle.rule.specs.Computed.{is_event}
use Rattle.rule.specs.Starts.{is_past, until}
use Rattle.rule.proofs.SkipBranch.{before-until, until-bound}
use Rattle.sweep.specs.Floors.{Past, Open}

module _ (bytes : List ℕ)
    (climbing : (i : ℕ) → suc i < record_count bytes → (record_at bytes i).time ≤ (record_at bytes (suc i)).time) where
  climbs-by : (d i : ℕ) → i + d < record_count bytes → (record_at bytes i).time ≤ (record_at bytes (i + d)).time
  climbs-by zero i l = let z : i + 0 ≡ i = omega arith in rw z (omega arith)
  climbs-by (suc d) i l =
      let z : i + suc d ≡ suc (i + d) = omega arith in
      let before = climbs-by d i (omega arith) in
      let next = climbing (i + d) (omega arith) in
      subst (λ (x : ℕ). (record_at bytes i).time ≤ (record_at bytes x).time) (sym z) (omega arith)

  pub climbs : (i j : ℕ) → i ≤ j → j < record_count bytes → (record_at bytes i).time ≤ (record_at bytes j).time
  climbs i j a b =
      let z : i + (j - i) ≡ j = omega arith in
      subst (λ (x : ℕ). (record_at bytes i).time ≤ (record_at bytes x).time) z (climbs-by (j - i) i (omega arith))

  -- what is past stays past
  pub past-later :
      (duration i j m : ℕ) → Past bytes duration i j → j ≤ m → m < record_count bytes → Past bytes duration i m
  past-later duration i j m past a b = let later = climbs j m a b in omega arith

  -- and what begins later is open longer
  pub near-later :
      (duration first i j : ℕ) → (record_at bytes j).time ≤ (record_at bytes first).time + duration → first ≤ i
      → i < record_count bytes
      → (record_at bytes j).time ≤ (record_at bytes i).time + duration
  near-later duration first i j near a b = let later = climbs first i a b in omega arith

-- ## By the rule

module _ (bytes : List ℕ) where
  abbrev B : Block
  B = records_of bytes

  pub event-by : (q : ℕ) → q < record_count bytes → is_event B q ≡ eqb (record_at bytes q).kind event_kind
  unfolding is_event
  event-by q l = ap (λ (x : Record). eqb x.kind event_kind) (record-listed bytes q behind_end l)

  pub past_by :
      (p : Pattern) (i q : ℕ) → i < record_count bytes → q < record_count bytes
      → is_past p B i q ≡ ltb ((record_at bytes i).time + p.duration) (record_at bytes q).time
  unfolding is_past
  past_by p i q k l =
      ap₂ (λ (x y : Record). ltb (x.time + p.duration) y.time) (record-listed bytes i behind_end k) (record-listed bytes q behind_end l)

  pub event-at : (i : ℕ) → i < record_count bytes → is_event B i ≡ true → (record_at bytes i).kind ≡ event_kind
  event-at i l e = eqb-true (record_at bytes i).kind event_kind (sym (event-by i l) ∙ e)

  -- a record that stands before the one that closes
  pub open-before :
      (p : Pattern) (duration i j : ℕ) → p.duration ≡ duration → i < j → j < until p B i → Open bytes duration i j
  open-before p duration i j d a b =
      let bound = until-bound p B i in
      let size = length-records bytes in
      let q = before-until p B i j a b in
      record {
        inside = omega arith;
        event = event-at j (omega arith) q.0;
        near =
            let t = ltb-false ((record_at bytes i).time + p.duration) (record_at bytes j).time (sym (past_by p i j (omega arith) (omega arith)) ∙ q.1) in
            omega arith;
      }

  -- the record that begins
  pub open-first : (duration i : ℕ) → i < record_count bytes → is_event B i ≡ true → Open bytes duration i i
  open-first duration i l e = record { inside = l; event = event-at i l e; near = omega arith }
