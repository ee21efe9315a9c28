-- A block without the waves of its events has the same records in all but these: an event's wave is 0, a gap is as it
-- was. The check of a block looks at no wave of an event, so it answers the same. Assumes nothing.
use mathlib.Core.Path.{◌≡◌, refl, sym, ap, ap₂, subst, ◌∙◌}
use mathlib.Core.Bool.{Bool, true, false, not, ◌&&◌, ◌||◌}
use mathlib.Core.List.{List}
use Prim.Native.Nat.{ℕ, ◌+◌, ◌-◌, ◌*◌, ◌/◌, ◌%◌, ◌≤◌, ◌<◌}
use native.Mathlib.Nat.{zero-add}
use native.Mathlib.Omega.{arith}
use lib.Dec.{eqb, ltb}
use lib.ListN.{length, get_or, length-map, get_or-map, get_or-eq_default}
use borrow.Author.Tests.{eqb-true, eqb-false, eq-eqb, ne_eqb}
use Rattle.numbers.specs.Numbers.{number, field, upto, first}
use Rattle.numbers.proofs.Cases.{by-test, by_order}
use Rattle.numbers.proofs.Upto.{length-upto, get_or-upto}
use Rattle.records.specs.declared.Record.{Record}
use Rattle.records.specs.Records.{record_bytes, record_at, record_count, event_kind, gap_kind}
use Rattle.records.specs.Blocks.{most_records, refused, misfit, broken, misplaced, late, record_refusal, bad, first_bad}
use Rattle.records.specs.Blocks.{block_answer}
use Rattle.rule.specs.Rule.{record_in, behind_end}
use Rattle.rule.specs.Calls.{block_in}
use Rattle.rule.specs.Waves.{is_wave, without_wave, without_waves}
use Rattle.rule.proofs.Inputs.{block-length, block-record}
use Rattle.rule.proofs.EventBlocks.{number_same}

-- the two records have the same fields, but for their waves
pub record SameButWave (r s : Record) : Type 0 where
  pub kind : r.kind ≡ s.kind
  pub core : r.core ≡ s.core
  pub event_type : r.event_type ≡ s.event_type
  pub time : r.time ≡ s.time
  pub slot : r.slot ≡ s.slot
  pub amount : r.amount ≡ s.amount

same_self : (r : Record) → SameButWave r r
same_self r = record { kind = refl; core = refl; event_type = refl; time = refl; slot = refl; amount = refl }

-- an event is in order whatever its wave
event-sound : (r : Record) → r.kind ≡ event_kind → broken r ≡ false
unfolding broken
event-sound r e = rw e

module _ (bytes : List ℕ) where
  -- ## Bytes

  pub length_without : length (without_waves bytes) ≡ length bytes
  unfolding without_waves
  length_without = length-map (upto 0 (length bytes)) (without_wave bytes) ∙ length-upto 0 (length bytes)

  cleared : (k : ℕ) → is_wave bytes k ≡ true → without_wave bytes k ≡ 0
  unfolding without_wave
  cleared k w = rw (w, without_wave)

  left : (k : ℕ) → is_wave bytes k ≡ false → without_wave bytes k ≡ get_or bytes k 0
  unfolding without_wave
  left k w = rw (w, without_wave)

  -- behind the bytes there is 0 either way
  behind : (k : ℕ) → length bytes ≤ k → without_wave bytes k ≡ 0
  behind k h = by-test (is_wave bytes k) (cleared k) (λ w. left k w ∙ get_or-eq_default bytes 0 h)

  byte-without : (k : ℕ) → get_or (without_waves bytes) k 0 ≡ without_wave bytes k
  unfolding without_waves
  byte-without k =
      let n = length bytes in
      let last = behind n (omega arith) in
      ap (get_or (without_waves bytes) k) (sym last)
      ∙ get_or-map (without_wave bytes) (upto 0 n) k n
      ∙ by_order k n
      (λ h. ap (without_wave bytes) (get_or-upto 0 n k n h ∙ zero-add k))
      (λ h. ap (without_wave bytes) (get_or-eq_default (upto 0 n) n (omega (arith, length-upto 0 n))) ∙ last ∙ sym (behind k h))

  -- all but the last byte of a record are as they were,
  byte-kept : (k : ℕ) → k % record_bytes + 1 < record_bytes → get_or (without_waves bytes) k 0 ≡ get_or bytes k 0
  unfolding is_wave
  byte-kept k h =
      byte-without k
      ∙ left k
      (ap (λ (t : Bool). t && eqb (record_at bytes (k / record_bytes)).kind event_kind)
      (ne_eqb (k % record_bytes + 1) record_bytes (λ e. omega arith)))

  number-kept : (i s n : ℕ) → s + n < record_bytes
      → number (without_waves bytes) (record_bytes * i + s) n ≡ number bytes (record_bytes * i + s) n
  number-kept i s n h =
      number_same (without_waves bytes) bytes (record_bytes * i + s) (record_bytes * i + s) n
      (λ k l. byte-kept (record_bytes * i + s + k) (omega arith))

  -- and the last is by the record's kind
  last-is : (i : ℕ) → is_wave bytes (record_bytes * i + 15) ≡ eqb (record_at bytes i).kind event_kind
  unfolding is_wave
  last-is i =
      let l : (record_bytes * i + 15) % record_bytes + 1 ≡ record_bytes = omega arith in
      let e : (record_bytes * i + 15) / record_bytes ≡ i = omega arith in
      ap₂ (λ (t : Bool) (k : ℕ). t && eqb (record_at bytes k).kind event_kind) (eq-eqb _ _ l) e

  -- ## Records

  pub same-fields : (i : ℕ) → SameButWave (record_at (without_waves bytes) i) (record_at bytes i)
  unfolding record_at
  same-fields i =
      let front = byte-kept (record_bytes * i) (omega arith) in
      record {
        kind = ap (field 2 6) front;
        core = ap (field 6 0) front;
        event_type = byte-kept (record_bytes * i + 1) (omega arith);
        time = number-kept i 2 5 (omega arith);
        slot = number-kept i 7 4 (omega arith);
        amount = number-kept i 11 4 (omega arith);
      }

  pub event-cleared : (i : ℕ) → (record_at bytes i).kind ≡ event_kind → (record_at (without_waves bytes) i).wave ≡ 0
  unfolding record_at
  event-cleared i e =
      byte-without (record_bytes * i + 15) ∙ cleared (record_bytes * i + 15) (last-is i ∙ eq-eqb _ _ e)

  last-kept : (i : ℕ) → ¬ ((record_at bytes i).kind ≡ event_kind)
      → (record_at (without_waves bytes) i).wave ≡ (record_at bytes i).wave
  unfolding record_at
  last-kept i n = byte-without (record_bytes * i + 15) ∙ left (record_bytes * i + 15) (last-is i ∙ ne_eqb _ _ n)

  pub gap-kept : (i : ℕ) → ¬ ((record_at bytes i).kind ≡ event_kind) → record_at (without_waves bytes) i ≡ record_at bytes i
  gap-kept i n =
      let s = same-fields i in
      let w = last-kept i n in
      λ z. record {
        kind = s.kind z;
        core = s.core z;
        event_type = s.event_type z;
        time = s.time z;
        slot = s.slot z;
        amount = s.amount z;
        wave = w z;
      }

  -- ## The check of a block

  count_same : record_count (without_waves bytes) ≡ record_count bytes
  count_same = ap (λ (n : ℕ). n / record_bytes) length_without

  misfit-same : misfit (without_waves bytes) ≡ misfit bytes
  unfolding misfit
  misfit-same =
      ap (λ (n : ℕ). not (eqb (n % record_bytes) 0) || ltb most_records (n / record_bytes)) length_without

  broken-same : (i : ℕ) → broken (record_at (without_waves bytes) i) ≡ broken (record_at bytes i)
  broken-same i =
      by-test (eqb (record_at bytes i).kind event_kind)
      (λ t.
      let e = eqb-true (record_at bytes i).kind event_kind t in
      event-sound (record_at (without_waves bytes) i) ((same-fields i).kind ∙ e) ∙ sym (event-sound (record_at bytes i) e))
      (λ f. ap broken (gap-kept i (eqb-false (record_at bytes i).kind event_kind f)))

  late-same : (i : ℕ) → late (without_waves bytes) i ≡ late bytes i
  unfolding late misplaced
  late-same i =
      λ z. ltb 0 i
      && (ltb ((same-fields i).time z) ((same-fields (i - 1)).time z)
      || (eqb ((same-fields i).time z) ((same-fields (i - 1)).time z)
      && (eqb ((same-fields (i - 1)).kind z) gap_kind || eqb ((same-fields i).kind z) gap_kind)))

  refusal-same : record_refusal (without_waves bytes) ≡ record_refusal bytes
  unfolding record_refusal
  refusal-same =
      λ z i. elim (broken-same i z) [ true ↦ 6 | false ↦ elim (late-same i z) [ true ↦ 7 | false ↦ 0 ] ]

  first-same : first_bad (without_waves bytes) ≡ first_bad bytes
  unfolding first_bad bad
  first-same = λ z. first (λ i. ltb 0 (refusal-same z i)) (count_same z)

  pub answer-same : block_answer (without_waves bytes) ≡ block_answer bytes
  unfolding block_answer
  answer-same =
      λ z. elim (misfit-same z) [
        | true ↦ refused 5 0
        | false ↦ elim (ltb (first-same z) (count_same z)) [
          | true ↦ refused (refusal-same z (first-same z)) (first-same z)
          | false ↦ record { code = 0; place = 0; used = count_same z; readings = 0; peak = 0 }
        ]
      ]

  -- ## The block as a list of records

  pub size_same : length (block_in (without_waves bytes)) ≡ length (block_in bytes)
  size_same = block-length (without_waves bytes) ∙ count_same ∙ sym (block-length bytes)

  -- behind the end there is the same either way
  pub records-same : (i : ℕ) → SameButWave (record_in (block_in (without_waves bytes)) i) (record_in (block_in bytes) i)
  records-same i =
      by_order i (record_count bytes)
      (λ h.
      let l = block-record (without_waves bytes) i (omega (arith, count_same)) in
      told l (block-record bytes i h) (same-fields i))
      (λ h.
      let e = block-length bytes in
      let l = get_or-eq_default (block_in (without_waves bytes)) behind_end {n = i} (omega (arith, size_same)) in
      told l (get_or-eq_default (block_in bytes) behind_end {n = i} (omega arith)) (same_self behind_end))
    where
      told : {r s q t : Record} → r ≡ q → s ≡ t → SameButWave q t → SameButWave r s
      told {r} {t} d e h = subst (SameButWave r) (sym e) (subst (λ x. SameButWave x t) (sym d) h)
