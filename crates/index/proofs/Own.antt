-- What the index of a block says: for each class the count of its events, for each core whether it has one. And a
-- value of which it says that there is none, no event has. Assumes nothing.
use mathlib.Core.Path.{◌≡◌, ◌∙◌, refl, sym, ap, ap₂}
use mathlib.Core.Bool.{Bool, true, false, ◌&&◌, true≢false}
use mathlib.Core.List.{List}
use Prim.Native.Nat.{ℕ, ◌+◌, ◌-◌, ◌*◌, ◌/◌, ◌^◌, ◌<◌}
use native.Mathlib.Omega.{arith}
use borrow.Author.Tests.{lt-ltb, eq-eqb, ne_eqb, eqb-true, ltb-false}
use lib.Dec.{eqb}
use lib.ListN.{length}
use Rattle.numbers.specs.Numbers.{field, count}
use Rattle.numbers.specs.Bits.{bit}
use Rattle.numbers.proofs.Cases.{by_order, not-true}
use Rattle.numbers.proofs.Bits.{mask-inside}
use Rattle.records.specs.Records.{record_at, record_count, event_kind, class_of}
use Rattle.records.specs.Blocks.{InOrder}
use Rattle.index.specs.Index.{index_bytes, classes, cores, count_bits, front, count_place, events_by, cores_field}
use Rattle.index.specs.Index.{core_by, index_zero, index_broken, is_of_class, is_of_core, count_up_to, has_up_to, cores_up_to}
use Rattle.index.specs.Index.{counts_row, index_of, core_attribute, class_attribute, lacks}
use Rattle.index.proofs.Bytes.{size_back, zero-back, front_bytes, cores-back, row_small, count-back}
use Rattle.index.proofs.Counted.{count-zero, class-bound, count-up-to-bound, core-bound, cores-bound}

and-false-right : (a : Bool) {b : Bool} → b ≡ false → a && b ≡ false
and-false-right true e = e
and-false-right false e = refl

module _ (block : List ℕ) where
  abbrev own : List ℕ
  own = index_of block

  abbrev all : ℕ
  all = record_count block

  abbrev counts : ℕ → ℕ
  counts = count_up_to block all

  abbrev bits : ℕ
  bits = cores_up_to block all

  abbrev row : ℕ
  row = counts_row counts

  own-size : length own ≡ index_bytes
  unfolding index_of
  own-size = size_back row bits

  own-zero : index_zero own ≡ 0
  unfolding index_zero index_of
  own-zero = zero-back row bits

  -- the search takes it
  pub own-in-order : index_broken own ≡ false
  unfolding index_broken
  own-in-order = rw (eq-eqb (length own) index_bytes own-size, eq-eqb (index_zero own) 0 own-zero)

  module _ (ordered : InOrder block) where
    small : (k : ℕ) → counts k < 2 ^ count_bits
    small k = omega (arith, count-up-to-bound block all k, ordered.few)

    row_fits : row < 2 ^ 78
    row_fits = row_small counts 0 (omega arith) small

    top-bits : bits / 2 ^ 62 < 4
    top-bits = let b = cores-bound block all in omega arith

    own-front : front own ≡ row * 4 + bits / 2 ^ 62
    unfolding index_of
    own-front = front_bytes row bits row_fits (cores-bound block all)

    pub own-class : (k : ℕ) → k < classes → events_by own k ≡ count_up_to block all k
    unfolding events_by
    own-class k l =
        rw (lt-ltb k classes l, events_by)
        (ap (λ (x : ℕ). field count_bits (count_place k) x) own-front ∙ count-back counts (bits / 2 ^ 62) top-bits small k l)

    own-cores : cores_field own ≡ bits
    unfolding cores_field index_of
    own-cores = cores-back row bits row_fits (cores-bound block all)

    pub own-core : (c : ℕ) → c < cores → core_by own c ≡ has_up_to block all c
    unfolding core_by cores_up_to
    own-core c l =
        let back : cores - 1 - (cores - 1 - c) ≡ c = omega arith in
        ap (λ (t : Bool). t && bit (cores_field own) (cores - 1 - c)) (lt-ltb c cores l)
        ∙ ap (λ (x : ℕ). bit x (cores - 1 - c)) own-cores
        ∙ mask-inside (λ j. has_up_to block all (cores - 1 - j)) cores (cores - 1 - c) (omega arith)
        ∙ ap (has_up_to block all) back

    -- ## What it says is not there

    no-class : (k : ℕ) → events_by own k ≡ 0 → (i : ℕ) → i < all → is_of_class block k i ≡ false
    unfolding count_up_to is_of_class
    no-class k e i l =
        by_order k classes
        (λ m. count-zero (is_of_class block k) all (sym (own-class k m) ∙ e) i l)
        (λ m.
        let apart : ¬ (class_of (record_at block i).event_type ≡ k) = λ z. omega (arith, class-bound (record_at block i).event_type) in
        and-false-right (eqb (record_at block i).kind event_kind) (ne_eqb (class_of (record_at block i).event_type) k apart))

    no-core : (c : ℕ) → core_by own c ≡ false → (i : ℕ) → i < all → is_of_core block c i ≡ false
    unfolding has_up_to is_of_core
    no-core c e i l =
        by_order c cores
        (λ m.
        let none = ltb-false 0 (count (is_of_core block c) all) (sym (own-core c m) ∙ e) in
        count-zero (is_of_core block c) all (omega arith) i l)
        (λ m.
        let apart : ¬ ((record_at block i).core ≡ c) = λ z. omega (arith, core-bound block i) in
        and-false-right (eqb (record_at block i).kind event_kind) (ne_eqb (record_at block i).core c apart))

    -- no event has a core or a class that the index lacks
    pub no-such-core :
        (c : ℕ) → lacks own core_attribute c ≡ true → (i : ℕ) → i < all → (record_at block i).kind ≡ event_kind
        → ¬ ((record_at block i).core ≡ c)
    unfolding lacks is_of_core
    no-such-core c e i l event same =
        true≢false
        (sym (ap₂ ◌&&◌ (eq-eqb (record_at block i).kind event_kind event) (eq-eqb (record_at block i).core c same))
        ∙ no-core c (not-true (core_by own c) e) i l)

    pub no-such-class :
        (k : ℕ) → lacks own class_attribute k ≡ true → (i : ℕ) → i < all → (record_at block i).kind ≡ event_kind
        → ¬ (class_of (record_at block i).event_type ≡ k)
    unfolding lacks is_of_class
    no-such-class k e i l event same =
        true≢false
        (sym (ap₂ ◌&&◌ (eq-eqb (record_at block i).kind event_kind event) (eq-eqb (class_of (record_at block i).event_type) k same))
        ∙ no-class k (eqb-true (events_by own k) 0 e) i l)
