-- Events that go on from the record before are in order. Assumes nothing.
use Rattle.std.proofs.Common.{◌≡◌, ◌∙◌, sym, ap, subst, List, ℕ, ◌+◌, ◌-◌, ◌*◌, ◌^◌, ◌≤◌, arith}
use Rattle.numbers.specs.Numbers.{number}
use Rattle.numbers.proofs.Numbers.{number-5}
use Rattle.records.specs.Records.{record_bytes, record_at, event_kind}
use Rattle.records.specs.Blocks.{misplaced}
use Rattle.records.specs.Runs.{high_byte, lower_bits, Ready}
use Rattle.records.proofs.Blocks.{broken-event, placed_by, late-at, refusal-none}

module _ (bytes : List ℕ) (i : ℕ) where
  -- a time is its high byte and its lower bits
  time-parts : (record_at bytes i).time ≡ high_byte bytes i * 2 ^ 32 + lower_bits bytes i
  unfolding record_at
  time-parts =
      let e : record_bytes * i + 2 + 1 ≡ record_bytes * i + 3 = omega arith in
      number-5 bytes (record_bytes * i + 2) ∙ ap (λ (at : ℕ). high_byte bytes i * 2 ^ 32 + number bytes at 4) e

-- behind a record whose kind and time are known: an event may have the time of an event, and must be later than a gap
pub ready :
    (bytes : List ℕ) (i high low kind : ℕ) → high ≡ high_byte bytes i → low ≡ lower_bits bytes i
    → kind ≡ (record_at bytes i).kind
    → Ready bytes (i + 1) high (low + kind)
ready bytes i high low kind h l k =
    record {
      next = λ event same from.
          let back : i + 1 - 1 ≡ i = omega arith in
          let before = time-parts bytes i in
          let time = time-parts bytes (i + 1) in
          let climbs : (record_at bytes i).time ≤ (record_at bytes (i + 1)).time = omega arith in
          refusal-none bytes (i + 1)
          (broken-event (record_at bytes (i + 1)) (omega arith) (λ z. omega arith))
          (late-at bytes (i + 1) (λ z. omega arith)
          ∙ ap (λ (j : ℕ). misplaced (record_at bytes j) (record_at bytes (i + 1))) back
          ∙ placed_by (record_at bytes i) (record_at bytes (i + 1)) climbs (λ e. (omega arith, event)));
    }

-- behind an event
pub ready-event :
    (bytes : List ℕ) (i high low : ℕ) → high ≡ high_byte bytes i → low ≡ lower_bits bytes i
    → (record_at bytes i).kind ≡ event_kind
    → Ready bytes (i + 1) high low
ready-event bytes i high low h l k =
    let e : low + 0 ≡ low = omega arith in
    subst (Ready bytes (i + 1) high) e (ready bytes i high low 0 h l (sym k))
