-- What the check of a block answers, case by case; it accepts exactly the blocks in order. Assumes nothing.
use Rattle.std.proofs.Common.{◌≡◌, ◌∙◌, refl, sym, ap, ap₂, subst, true, false, ◌||◌, true≢false, List, ℕ, zero, suc, ◌+◌, ◌-◌, ◌%◌, ◌≤◌, ◌<◌, arith, lt-ltb, le-ltb, eq-eqb, ne_eqb, ltb-true, ltb-false, eqb-true, eqb, length}
use borrow.Author.Tests.{eqb-false}
use Rattle.records.specs.declared.Answer.{Answer}
use Rattle.records.specs.declared.Record.{Record}
use Rattle.records.specs.Records.{record_bytes, record_at, event_kind, gap_kind, record_count}
use Rattle.records.specs.Blocks.{most_records, refused, misfit, broken, misplaced, late}
use Rattle.records.specs.Blocks.{record_refusal, bad, first_bad, block_answer, InOrder}
use Rattle.numbers.proofs.Cases.{by-test, by_order, neither}
use Rattle.numbers.proofs.First.{first-at, first-none, first-fails, first_passes}

module _ (r : Record) where
  pub broken-kind : gap_kind < r.kind → broken r ≡ true
  unfolding broken
  broken-kind l = rw (lt-ltb gap_kind r.kind l)

  pub broken-event : r.kind ≤ gap_kind → (r.kind ≡ gap_kind → ⊥) → broken r ≡ false
  unfolding broken
  broken-event l other = rw (le-ltb gap_kind r.kind l, ne_eqb r.kind gap_kind other)

  event-of : broken r ≡ false → eqb r.kind gap_kind ≡ false → r.kind ≡ event_kind
  event-of sound other =
      let apart = eqb-false r.kind gap_kind other in
      by_order gap_kind r.kind
      (λ l. absurd (true≢false (sym (broken-kind l) ∙ sound)))
      (λ l. by_order 0 r.kind (λ m. absurd (apart (omega arith))) (λ m. omega arith))

-- ## One record behind another

module _ (a b : Record) where
  pub placed-later : a.time < b.time → misplaced a b ≡ false
  unfolding misplaced
  placed-later l = rw (le-ltb b.time a.time (omega arith), ne_eqb b.time a.time (λ e. omega arith))

  pub misplaced-below : b.time < a.time → misplaced a b ≡ true
  unfolding misplaced
  misplaced-below l = rw (lt-ltb b.time a.time l)

  -- of one time no gap may be
  pub misplaced-same : b.time ≡ a.time → misplaced a b ≡ eqb a.kind gap_kind || eqb b.kind gap_kind
  unfolding misplaced
  misplaced-same e = rw (le-ltb b.time a.time (omega arith), eq-eqb b.time a.time e)

  pub placed-climbs : misplaced a b ≡ false → a.time ≤ b.time
  placed-climbs h =
      by_order b.time a.time
      (λ l. absurd (true≢false (sym (misplaced-below l) ∙ h)))
      (λ l. l)

  pub placed-together :
      broken a ≡ false → broken b ≡ false → misplaced a b ≡ false → a.time ≡ b.time
      → (a.kind ≡ event_kind) × (b.kind ≡ event_kind)
  placed-together sound also h e =
      let kinds = neither (eqb a.kind gap_kind) (eqb b.kind gap_kind) (sym (misplaced-same (sym e)) ∙ h) in
      (event-of a sound kinds.0, event-of b also kinds.1)

  pub placed_by :
      a.time ≤ b.time → (a.time ≡ b.time → (a.kind ≡ event_kind) × (b.kind ≡ event_kind)) → misplaced a b ≡ false
  placed_by climbs together =
      by_order a.time b.time
      placed-later
      (λ l.
      let e : a.time ≡ b.time = omega arith in
      let events = together e in
      misplaced-same (sym e)
      ∙ ap₂ ◌||◌ (ne_eqb a.kind gap_kind (λ z. omega arith)) (ne_eqb b.kind gap_kind (λ z. omega arith)))

-- ## The records of a block

module _ (bytes : List ℕ) where
  pub refusal-6 : (i : ℕ) → broken (record_at bytes i) ≡ true → record_refusal bytes i ≡ 6
  unfolding record_refusal
  refusal-6 i b = rw (b, record_refusal)

  pub refusal-7 : (i : ℕ) → broken (record_at bytes i) ≡ false → late bytes i ≡ true → record_refusal bytes i ≡ 7
  unfolding record_refusal
  refusal-7 i b l = rw (b, l, record_refusal)

  pub refusal-none : (i : ℕ) → broken (record_at bytes i) ≡ false → late bytes i ≡ false → record_refusal bytes i ≡ 0
  unfolding record_refusal
  refusal-none i b l = rw (b, l, record_refusal)

  pub late-first : (i : ℕ) → i ≡ 0 → late bytes i ≡ false
  unfolding late
  late-first i h = rw (le-ltb 0 i (omega arith))

  pub late-at : (i : ℕ) → (i ≡ 0 → ⊥) → late bytes i ≡ misplaced (record_at bytes (i - 1)) (record_at bytes i)
  unfolding late
  late-at i h = rw (lt-ltb 0 i (omega arith))

  pub misfit-odd : (length bytes % record_bytes ≡ 0 → ⊥) → misfit bytes ≡ true
  unfolding misfit
  misfit-odd h = rw (ne_eqb _ _ h)

  pub misfit-many : length bytes % record_bytes ≡ 0 → most_records < record_count bytes → misfit bytes ≡ true
  unfolding misfit
  misfit-many h m = rw (eq-eqb _ _ h, lt-ltb _ _ m)

  pub fitting : length bytes % record_bytes ≡ 0 → record_count bytes ≤ most_records → misfit bytes ≡ false
  unfolding misfit
  fitting h m = rw (eq-eqb _ _ h, le-ltb _ _ m)

  pub answer-misfit : misfit bytes ≡ true → block_answer bytes ≡ refused 5 0
  unfolding block_answer
  answer-misfit h = rw (h, block_answer)

  good_of : (i : ℕ) → record_refusal bytes i ≡ 0 → bad bytes i ≡ false
  unfolding bad
  good_of i h = rw h

  bad-of : (i : ℕ) → (record_refusal bytes i ≡ 0 → ⊥) → bad bytes i ≡ true
  unfolding bad
  bad-of i h = lt-ltb 0 (record_refusal bytes i) (omega arith)

  -- the first bad record decides
  pub answer-bad :
      (i : ℕ) → misfit bytes ≡ false → i < record_count bytes
      → ((j : ℕ) → j < i → record_refusal bytes j ≡ 0) → (record_refusal bytes i ≡ 0 → ⊥)
      → block_answer bytes ≡ refused (record_refusal bytes i) i
  unfolding block_answer first_bad
  answer-bad i m h g b =
      let e = first-at (bad bytes) (record_count bytes) i h (λ j l. good_of j (g j l)) (bad-of i b) in
      rw (m, e, lt-ltb _ _ h, block_answer) (ap (λ (k : ℕ). refused (record_refusal bytes k) k) e)

  pub answer-good :
      misfit bytes ≡ false → ((j : ℕ) → j < record_count bytes → record_refusal bytes j ≡ 0)
      → block_answer bytes ≡ record { code = 0; place = 0; used = record_count bytes; readings = 0; peak = 0 }
  unfolding block_answer first_bad
  answer-good m g =
      let e = first-none (bad bytes) (record_count bytes) (λ j l. good_of j (g j l)) in
      rw (m, e, le-ltb (record_count bytes) (record_count bytes) (omega arith), block_answer)

  -- one record more that is in order, from record i on
  pub run_more :
      (i n : ℕ) → ((j : ℕ) → i ≤ j → j < n → record_refusal bytes j ≡ 0) → record_refusal bytes n ≡ 0
      → (j : ℕ) → i ≤ j → j < n + 1 → record_refusal bytes j ≡ 0
  run_more i n below here j l m =
      by_order j n (below j l) (λ k. let e : n ≡ j = omega arith in subst (λ (x : ℕ). record_refusal bytes x ≡ 0) e here)

  refusal-late : (i : ℕ) → late bytes i ≡ true → record_refusal bytes i ≡ 0 → ⊥
  refusal-late i l h =
      by-test (broken (record_at bytes i)) (λ b. let e = refusal-6 i b in omega arith) (λ b. let e = refusal-7 i b l in omega arith)

  sound-of : (i : ℕ) → record_refusal bytes i ≡ 0 → broken (record_at bytes i) ≡ false
  sound-of i h = by-test (broken (record_at bytes i)) (λ b. let e = refusal-6 i b in absurd (omega arith)) (λ b. b)

  late-next : (i : ℕ) → late bytes (suc i) ≡ misplaced (record_at bytes i) (record_at bytes (suc i))
  late-next i =
      let e : suc i - 1 ≡ i = omega arith in
      late-at (suc i) (λ z. omega arith) ∙ ap (λ (k : ℕ). misplaced (record_at bytes k) (record_at bytes (suc i))) e

  -- a record that is in order stands behind the one before it
  placed_of :
      (i : ℕ) → record_refusal bytes (suc i) ≡ 0 → misplaced (record_at bytes i) (record_at bytes (suc i)) ≡ false
  placed_of i h =
      by-test (misplaced (record_at bytes i) (record_at bytes (suc i)))
      (λ t. absurd (refusal-late (suc i) (late-next i ∙ t) h))
      (λ t. t)

  late-placed :
      (i : ℕ) → ((k : ℕ) → suc k ≡ i → misplaced (record_at bytes k) (record_at bytes i) ≡ false) → late bytes i ≡ false
  late-placed zero r = late-first zero refl
  late-placed (suc i) r = late-next i ∙ r i refl

  whole_of : misfit bytes ≡ false → length bytes % record_bytes ≡ 0
  whole_of m =
      by-test (eqb (length bytes % record_bytes) 0) (λ e. eqb-true _ _ e)
      (λ e. absurd (true≢false (sym (misfit-odd (eqb-false _ _ e)) ∙ m)))

  pub few-of : misfit bytes ≡ false → record_count bytes ≤ most_records
  few-of m =
      by_order most_records (record_count bytes) (λ l. absurd (true≢false (sym (misfit-many (whole_of m) l) ∙ m))) (λ l. l)

  in-order-of : misfit bytes ≡ false → ((j : ℕ) → j < record_count bytes → record_refusal bytes j ≡ 0) → InOrder bytes
  in-order-of m g =
      record {
        whole = whole_of m;
        few = few-of m;
        sound = λ i h. sound-of i (g i h);
        climbing = λ i h. placed-climbs (record_at bytes i) (record_at bytes (suc i)) (placed_of i (g (suc i) h));
        together = λ i h e.
            placed-together (record_at bytes i) (record_at bytes (suc i)) (sound-of i (g i (omega arith)))
            (sound-of (suc i) (g (suc i) h))
            (placed_of i (g (suc i) h))
            e;
      }

  none_of : (i : ℕ) → bad bytes i ≡ false → record_refusal bytes i ≡ 0
  unfolding bad
  none_of i h = let l = ltb-false 0 (record_refusal bytes i) h in omega arith

  some_of : (i : ℕ) → bad bytes i ≡ true → record_refusal bytes i ≡ 0 → ⊥
  unfolding bad
  some_of i h z = let l = ltb-true 0 (record_refusal bytes i) h in omega arith

  -- a block that is accepted is in order
  pub accepted-in-order : (block_answer bytes).code ≡ 0 → InOrder bytes
  unfolding first_bad
  accepted-in-order h =
      by-test (misfit bytes)
      (λ m. let e = ap (λ (a : Answer). a.code) (answer-misfit m) in absurd (omega arith))
      (λ m. by_order (first_bad bytes) (record_count bytes)
      (λ l.
      let z = some_of (first_bad bytes) (first_passes (bad bytes) (record_count bytes) l) in
      absurd (z (sym (ap (λ (a : Answer). a.code) (answer-bad (first_bad bytes) m l (λ j k. none_of j (first-fails (bad bytes) (record_count bytes) j k)) z)) ∙ h)))
      (λ l. in-order-of m (λ j k. none_of j (first-fails (bad bytes) (record_count bytes) j (omega arith)))))

  -- a block in order is accepted, with its count of records
  pub in-order-accepted :
      InOrder bytes
      → block_answer bytes ≡ record { code = 0; place = 0; used = record_count bytes; readings = 0; peak = 0 }
  in-order-accepted o =
      answer-good (fitting o.whole o.few)
      (λ j h. refusal-none j (o.sound j h) (late-placed j (λ k e. subst (λ (i : ℕ). misplaced (record_at bytes k) (record_at bytes i) ≡ false) e (placed k (omega arith)))))
    where
      placed : (k : ℕ) → suc k < record_count bytes → misplaced (record_at bytes k) (record_at bytes (suc k)) ≡ false
      placed k l = placed_by (record_at bytes k) (record_at bytes (suc k)) (o.climbing k l) (o.together k l)

-- any two answers that meet the promise of `check_block` are equal
pub check-block-unique : (bytes : List ℕ) (a b : Answer) → a ≡ block_answer bytes → b ≡ block_answer bytes → a ≡ b
check-block-unique bytes a b p q = p ∙ sym q
