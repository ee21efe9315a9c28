-- Blocks of n events at times 0, 1, 2 and so on, from their bytes: the records that they stand for, and that they are
-- in order. Assumes nothing.
use mathlib.Core.Path.{◌≡◌, refl, sym, ap, ap₂, ◌∙◌}
use mathlib.Core.List.{List, [], ◌++◌}
use Prim.Native.Nat.{ℕ, zero, suc, ◌+◌, ◌*◌, ◌/◌, ◌%◌, ◌≤◌, ◌<◌}
use native.Mathlib.Omega.{arith}
use native.Mathlib.Decide.{ℕ_discrete}
use lib.ListN.{length, get_or, length-append, get_or-append}
use lib.Seq.{get_or-append-add}
use Rattle.numbers.specs.Numbers.{number, field}
use Rattle.records.specs.declared.Record.{Record}
use Rattle.records.specs.Records.{record_bytes, record_at, event_kind}
use Rattle.records.specs.Blocks.{most_records, broken, InOrder}
use Rattle.rule.specs.Bench.{event_bytes}
use Rattle.rule.proofs.BenchBytes.{Bytes, nothing-bytes, append-bytes, event-bytes}

-- n events of core 0 and type 0, at times 0, 1, 2 and so on
unfoldable pub events : ℕ → List ℕ
events zero = []
events (suc n) = events n ++ event_bytes n 0 0

pub events-bytes : (n : ℕ) → Bytes (events n)
unfolding events
events-bytes zero = nothing-bytes
events-bytes (suc n) = append-bytes (events n) (event_bytes n 0 0) (events-bytes n) (event-bytes n)

pub length-events : (n : ℕ) → length (events n) ≡ record_bytes * n
unfolding events
length-events zero = refl
length-events (suc n) =
    let e = length-events n in
    let s : length (event_bytes n 0 0) ≡ 16 = refl in
    length-append (events n) (event_bytes n 0 0) ∙ omega arith

byte_at : (n i o : ℕ) → i < n → o < 16 → get_or (events n) (record_bytes * i + o) 0 ≡ get_or (event_bytes i 0 0) o 0
unfolding events
byte_at zero i o l m = absurd (omega arith)
byte_at (suc n) i o l m = go (λ k. byte_at n i o k m) (ℕ_discrete i n)
  where
    go : (i < n → get_or (events n) (record_bytes * i + o) 0 ≡ get_or (event_bytes i 0 0) o 0) → Dec (i ≡ n)
        → get_or (events n ++ event_bytes n 0 0) (record_bytes * i + o) 0 ≡ get_or (event_bytes i 0 0) o 0
    go ih (yes e) =
        let at : record_bytes * i + o ≡ length (events n) + o = omega (arith, length-events n) in
        ap (λ k. get_or (events n ++ event_bytes n 0 0) k 0) at ∙ get_or-append-add (events n) (event_bytes n 0 0) o 0
        ∙ ap (λ k. get_or (event_bytes k 0 0) o 0) (sym e)
    go ih (no d) =
        get_or-append (events n) (event_bytes n 0 0) 0 (record_bytes * i + o) (omega (arith, length-events n))
        ∙ ih (omega arith)

pub number_same : (a b : List ℕ) (s t n : ℕ) → ((k : ℕ) → k < n → get_or a (s + k) 0 ≡ get_or b (t + k) 0)
    → number a s n ≡ number b t n
unfolding number
number_same a b s t zero h = refl
number_same a b s t (suc n) h =
    ap₂ (λ x y. x * 256 + y) (number_same a b s t n (λ k l. h k (omega arith))) (h n (omega arith))

-- an event at time t, all else 0
unfoldable pub event : ℕ → Record
event t = record { kind = event_kind; core = 0; event_type = 0; time = t; slot = 0; amount = 0; wave = 0 }

abbrev from_bytes : ℕ → ℕ → ℕ → ℕ → ℕ → ℕ
from_bytes a b c x y = ((((0 * 256 + a) * 256 + b) * 256 + c) * 256 + x) * 256 + y

time-bytes : (t : ℕ) → t < most_records
    → from_bytes (t / 4294967296 % 256) (t / 16777216 % 256) (t / 65536 % 256) (t / 256 % 256) (t / 1 % 256) ≡ t
time-bytes t l = high _ _ _ _ _ t (omega arith) (omega arith) (omega arith) (omega arith)
  where
    high : (a b c x y t : ℕ) → a ≡ 0 → b ≡ 0 → c ≡ 0 → x * 256 + y ≡ t → from_bytes a b c x y ≡ t
    high a b c x y t d e f g = omega arith

event-read : (t : ℕ) → t < most_records → record_at (event_bytes t 0 0) 0 ≡ event t
unfolding record_at number event
event-read t l = ap event (time-bytes t l)

module _ (n i : ℕ) (l : i < n) where
  byte-from : (s k : ℕ) → s + k < 16 → get_or (events n) (record_bytes * i + s + k) 0 ≡ get_or (event_bytes i 0 0) (s + k) 0
  byte-from s k m =
      let e : record_bytes * i + s + k ≡ record_bytes * i + (s + k) = omega arith in
      ap (λ a. get_or (events n) a 0) e ∙ byte_at n i (s + k) l m

  number-from : (s c : ℕ) → s + c ≤ 16 → number (events n) (record_bytes * i + s) c ≡ number (event_bytes i 0 0) s c
  number-from s c m =
      number_same (events n) (event_bytes i 0 0) (record_bytes * i + s) s c (λ k h. byte-from s k (omega arith))

  record_same : record_at (events n) i ≡ record_at (event_bytes i 0 0) 0
  unfolding record_at
  record_same =
      let e : record_bytes * i ≡ record_bytes * i + 0 = omega arith in
      let z = ap (λ a. get_or (events n) a 0) e ∙ byte_at n i 0 l (omega arith) in
      λ k. record {
        kind = field 2 6 (z k);
        core = field 6 0 (z k);
        event_type = byte_at n i 1 l (omega arith) k;
        time = number-from 2 5 (omega arith) k;
        slot = number-from 7 4 (omega arith) k;
        amount = number-from 11 4 (omega arith) k;
        wave = byte_at n i 15 l (omega arith) k;
      }

pub record_is : (n i : ℕ) → n ≤ most_records → i < n → record_at (events n) i ≡ event i
record_is n i m l = record_same n i l ∙ event-read i (omega arith)

time-is : (n i : ℕ) → n ≤ most_records → i < n → (record_at (events n) i).time ≡ i
unfolding event
time-is n i m l = ap (λ (r : Record). r.time) (record_is n i m l)

-- they are a block in order
pub events-in-order : (n : ℕ) → n ≤ most_records → InOrder (events n)
unfolding broken event
events-in-order n m =
    let e = length-events n in
    record {
      whole = omega arith;
      few = omega arith;
      sound = λ i l. ap broken (record_is n i m (omega arith));
      climbing = λ i l. omega (arith, time-is n i m (omega arith), time-is n (suc i) m (omega arith));
      together = λ i l same. absurd (omega (arith, time-is n i m (omega arith), time-is n (suc i) m (omega arith)));
    }
