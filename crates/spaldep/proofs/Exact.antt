-- The C answer of a pass, of the listing, of a text, of the maker and of the search has exactly the fields of the
-- call's answer, since all of them fit, but for the place of a bad line far down in a text; and two answers that differ
-- pack to numbers that differ.
-- Assumes nothing.
use mathlib.Core.Path.{◌≡◌, ◌∙◌, refl, sym, ap, subst}
use mathlib.Core.Logic.{◌⊎◌, inl, inr}
use mathlib.Core.Bool.{false, ◌&&◌}
use mathlib.Core.List.{List, [], ◌∷◌}
use Prim.Native.Nat.{ℕ, zero, suc, ◌+◌, ◌-◌, ◌*◌, ◌^◌, ◌≤◌, ◌<◌}
use native.Mathlib.Nat.{suc-mul, mul-le-mul}
use native.Mathlib.Omega.{arith}
use borrow.Author.Tests.{eq-eqb, ne_eqb, eqb-true, eqb-false, lt-ltb, le-ltb}
use lib.Dec.{eqb}
use lib.ListN.{length, length-append}
use lib.Pow.{pow_mono}
use Rattle.numbers.specs.Numbers.{sum}
use Rattle.numbers.proofs.Count.{count-bound}
use Rattle.numbers.proofs.Cases.{by-test, by_order}
use Rattle.records.specs.declared.Answer.{Answer}
use Rattle.records.specs.Records.{record_count}
use Rattle.records.specs.Blocks.{most_records, refused, misfit, first_bad, block_answer}
use Rattle.records.proofs.Blocks.{answer-misfit, few-of}
use Rattle.patterns.specs.declared.Checked.{Checked}
use Rattle.patterns.specs.declared.Pattern.{Pattern}
use Rattle.patterns.specs.Patterns.{most_sets, header_bytes, header_broken, variable_count, condition_count}
use Rattle.patterns.specs.Checked.{set_of, is_group, pattern_of, first_bad_variable, first_bad_condition, pattern_answer}
use Rattle.patterns.specs.Checked.{InOrder}
use Rattle.patterns.proofs.Answers.{whole_length, answer-short, answer-header, answer-length, answer-variable}
use Rattle.patterns.proofs.Answers.{answer-condition, answer-pattern}
use Rattle.patterns.proofs.InOrder.{accepted-pattern, accepted-in-order}
use Rattle.automaton.specs.Counts.{set_size, group_size, steps_given}
use Rattle.automaton.specs.Listing.{ListingPromise, steps_listed}
use Rattle.automaton.proofs.Counts.{all-steps}
use Rattle.form.specs.Promises.{ReadPromise, WritePromise, bytes_written}
use Rattle.form.proofs.Sizes.{most_bytes_lem}
use Rattle.wording.proofs.Written.{longest}
use Rattle.rule.specs.Rule.{Block, Line, TimesNeverFall, pack, pack_bindings}
use Rattle.rule.specs.Promises.{Outcome, LiveCount, Forward, StartByStart, success}
use Rattle.rule.specs.Calls.{input_answer, pattern_in, block_in, most_live, most_result_bytes, room_in, StartByStartCall}
use Rattle.rule.specs.Calls.{ForwardCall}
use Rattle.rule.proofs.FoundTooLong.{long-in}
use Rattle.rule.proofs.EveryReading.{never-twice}
use Rattle.rule.proofs.Inputs.{pattern-refusals, block-refusals, input-pattern, input-block, input-refused}
use Rattle.rule.proofs.Inputs.{input-in-order, times-never-fall}
use Rattle.rule.proofs.Results.{checked-input}
use Rattle.index.specs.Index.{index_bytes}
use Rattle.index.specs.Promises.{MakePromise, SearchCall}
use Rattle.spaldep.specs.Packed.{place_or_used, packed_answer, code_in, place_or_used_in, readings_in, peak_in}
use Rattle.spaldep.proofs.Fields.{packed-code, packed-place, packed-readings, packed-peak}

-- ## What fits

pub record Fits (a : Answer) : Type 0 where
  pub code : a.code < 2 ^ 8
  pub place : place_or_used a < 2 ^ 24
  pub readings : a.readings < 2 ^ 16
  pub peak : a.peak < 2 ^ 16

pub record Exact (word : ℕ) (a : Answer) : Type 0 where
  pub code : code_in word ≡ a.code
  pub place : place_or_used_in word ≡ place_or_used a
  pub readings : readings_in word ≡ a.readings
  pub peak : peak_in word ≡ a.peak

pub fits-exact : (a : Answer) → Fits a → Exact (packed_answer a) a
fits-exact a f =
    record {
      code = omega (arith, packed-code a, f.code);
      place = omega (arith, packed-place a, f.place);
      readings = omega (arith, packed-readings a, f.readings);
      peak = omega (arith, packed-peak a, f.peak);
    }

module _ (a : Answer) where
  used-fits : a.code ≡ 0 → a.used < 2 ^ 24 → place_or_used a < 2 ^ 24
  unfolding place_or_used
  used-fits e l = rw (eq-eqb a.code 0 e, place_or_used) l

  place-fits : ¬ (a.code ≡ 0) → a.place < 2 ^ 24 → place_or_used a < 2 ^ 24
  unfolding place_or_used
  place-fits n l = rw (ne_eqb a.code 0 n, place_or_used) l

pub refused-fits : (code place : ℕ) → 0 < code → code ≤ 15 → place ≤ most_records → Fits (refused code place)
refused-fits code place l m h =
    record {
      code = omega arith;
      place = place-fits (refused code place) (λ e. omega arith) (omega arith);
      readings = omega arith;
      peak = omega arith;
    }

-- ## Where a pattern or a block is refused

pattern-place : (bytes : List ℕ) → (pattern_answer bytes).place ≤ most_records
pattern-place bytes =
    by_order (length bytes) header_bytes
    (λ h. placed (answer-short bytes h) (omega arith))
    (λ long. by-test (header_broken bytes)
    (λ h. placed (answer-header bytes long h) (omega arith))
    (λ head. by-test (eqb (length bytes) (whole_length bytes))
    (λ h. let whole = eqb-true (length bytes) (whole_length bytes) h in
    by_order (first_bad_variable bytes) (variable_count bytes)
    (λ l. placed (answer-variable bytes long head whole (first_bad_variable bytes) refl l) (omega arith))
    (λ variables. by_order (first_bad_condition bytes) (condition_count bytes)
    (λ l. placed (answer-condition bytes long head whole variables (first_bad_condition bytes) refl l) (omega arith))
    (λ conditions. placed (answer-pattern bytes long head whole variables conditions) (omega arith))))
    (λ h. placed (answer-length bytes long head (eqb-false (length bytes) (whole_length bytes) h)) (omega arith))))
  where
    placed : {a : Checked} → pattern_answer bytes ≡ a → a.place ≤ most_records → (pattern_answer bytes).place ≤ most_records
    placed e l = subst (λ (a : Checked). a.place ≤ most_records) (sym e) l

module _ (bytes : List ℕ) where
  bad-place : misfit bytes ≡ false → first_bad bytes < record_count bytes → (block_answer bytes).place ≡ first_bad bytes
  unfolding block_answer
  bad-place m l = rw (m, lt-ltb (first_bad bytes) (record_count bytes) l, block_answer)

  good-place : misfit bytes ≡ false → record_count bytes ≤ first_bad bytes → (block_answer bytes).place ≡ 0
  unfolding block_answer
  good-place m l = rw (m, le-ltb (first_bad bytes) (record_count bytes) l, block_answer)

  block-place : (block_answer bytes).place ≤ most_records
  block-place =
      by-test (misfit bytes)
      (λ m. omega (arith, ap (λ (a : Answer). a.place) (answer-misfit bytes m)))
      (λ m. by_order (first_bad bytes) (record_count bytes)
      (λ l. omega (arith, bad-place m l, few-of bytes m))
      (λ l. omega (arith, good-place m l)))

module _ (pattern block : List ℕ) where
  input-place : (input_answer pattern block).place ≤ most_records
  input-place =
      by-test (eqb (pattern_answer pattern).code 0)
      (λ t. omega (arith, ap (λ (a : Answer). a.place) (input-block pattern block (eqb-true (pattern_answer pattern).code 0 t)), block-place block))
      (λ t. omega (arith, ap (λ (a : Answer). a.place) (input-pattern pattern block (eqb-false (pattern_answer pattern).code 0 t)), pattern-place pattern))

  input-fits : ¬ ((input_answer pattern block).code ≡ 0) → Fits (input_answer pattern block)
  input-fits n =
      let r = input-refused pattern block n in
      record {
        code = omega (arith, r.up_to);
        place = place-fits (input_answer pattern block) n (omega (arith, input-place));
        readings = omega (arith, r.readings);
        peak = omega (arith, r.peak);
      }

-- ## What a pass counts

-- a line is a number at least
readings-le : (l : List Line) → length l ≤ length (pack l)
readings-le [] = omega arith
readings-le (x ∷ l) = omega (arith, readings-le l, length-append (pack_bindings x.reading) (pack l))

success-fits :
    (l : List Line) (room peak : ℕ) → length (pack l) ≤ room → room ≤ room_in most_result_bytes → peak ≤ most_live
    → Fits (success room l peak).answer
success-fits l room peak h m k =
    record {
      code = omega arith;
      place = used-fits (success room l peak).answer refl (omega arith);
      readings = omega (arith, readings-le l);
      peak = omega arith;
    }

module _ (p : Pattern) (B : Block) (few : length B ≤ most_records) (mono : TimesNeverFall B) (room : ℕ)
    (small : room ≤ room_in most_result_bytes) where
  start-pass-fits : (o : Outcome) → StartByStart p B room o → Fits o.answer
  start-pass-fits o (StartByStart.long j h n e) = subst (λ (x : Outcome). Fits x.answer) (sym e) (refused-fits 9 j (omega arith) (omega arith) (omega (arith, long-in p B mono j h)))
  start-pass-fits o (StartByStart.twice j s h n e) = absurd (never-twice p B j h)
  start-pass-fits o (StartByStart.full_up s t h e) = subst (λ (x : Outcome). Fits x.answer) (sym e) (refused-fits 11 0 (omega arith) (omega arith) (omega arith))
  start-pass-fits o (StartByStart.done l s t r h e) = subst (λ (x : Outcome). Fits x.answer) (sym e) (success-fits l room 0 h small (omega arith))

  forward-pass-fits : (L : ℕ) → L ≤ most_live → (o : Outcome) → Forward p B L room o → Fits o.answer
  forward-pass-fits L limit o (Forward.refuses j zero h m n e) = subst (λ (x : Outcome). Fits x.answer) (sym e) (refused-fits 11 0 (omega arith) (omega arith) (omega arith))
  forward-pass-fits L limit o (Forward.refuses j (suc zero) h m n e) = subst (λ (x : Outcome). Fits x.answer) (sym e) (refused-fits 9 j (omega arith) (omega arith) (omega arith))
  forward-pass-fits L limit o (Forward.refuses j (suc (suc zero)) h m n e) = subst (λ (x : Outcome). Fits x.answer) (sym e) (refused-fits 13 j (omega arith) (omega arith) (omega arith))
  forward-pass-fits L limit o (Forward.refuses j (suc (suc (suc t))) h m n e) = subst (λ (x : Outcome). Fits x.answer) (sym e) (refused-fits 10 j (omega arith) (omega arith) (omega arith))
  forward-pass-fits L limit o (Forward.succeeds l peak n r k e) = subst (λ (x : Outcome). Fits x.answer) (sym e) (success-fits l room peak fits small (bounded k.reached))
    where
      fits : length (pack l) ≤ room
      fits = by_order room (length (pack l)) (λ q. absurd (n (length B) 0 (omega arith) (record { lines = l; report = r; more = q }))) (λ q. q)

      bounded : (peak ≡ 0) ⊎ ((j : ℕ) × (j < length B) × LiveCount p B j peak) → peak ≤ most_live
      bounded (inl q) = omega arith
      bounded (inr q) = by_order L peak (λ m. absurd (n q.0 3 (omega (arith, q.1)) (record { number = peak; count = q.2; more = m }))) (λ m. omega arith)

-- ## The calls

module _ (pattern block : List ℕ) where
  pub start-by-start-fits :
      (lent : ℕ) (a : Answer) (result : List ℕ) → lent ≤ most_result_bytes → StartByStartCall pattern block lent a result
      → Fits a
  start-by-start-fits lent a result h (StartByStartCall.refused_input n e r) = subst Fits (sym e) (input-fits pattern block n)
  start-by-start-fits lent a result h (StartByStartCall.answered z numbers s r) =
      let c = input-in-order pattern block z in
      start-pass-fits (pattern_in pattern) (block_in block) (checked-input pattern block c).few (times-never-fall block c.ordered) (room_in lent) (omega arith) (record { answer = a; numbers = numbers }) s

  pub forward-fits :
      (limit lent_work lent_result : ℕ) (a : Answer) (work result : List ℕ) → lent_result ≤ most_result_bytes
      → ForwardCall pattern block limit lent_work lent_result a work result
      → Fits a
  forward-fits limit lent_work lent_result a work result h (ForwardCall.refused_input n e w r) = subst Fits (sym e) (input-fits pattern block n)
  forward-fits limit lent_work lent_result a work result h (ForwardCall.refused_limit z n e w r) = subst Fits (sym e) (refused-fits 8 0 (omega arith) (omega arith) (omega arith))
  forward-fits limit lent_work lent_result a work result h (ForwardCall.answered z l numbers f w r) =
      let c = input-in-order pattern block z in
      forward-pass-fits (pattern_in pattern) (block_in block) (checked-input pattern block c).few (times-never-fall block c.ordered) (room_in lent_result) (omega arith) limit l.few (record { answer = a; numbers = numbers }) f

-- answers that fit and pack to one number have the same fields
pub packed-apart :
    (a b : Answer) → Fits a → Fits b → packed_answer a ≡ packed_answer b
    → (a.code ≡ b.code) × (place_or_used a ≡ place_or_used b) × (a.readings ≡ b.readings) × (a.peak ≡ b.peak)
packed-apart a b f g e =
    let x = fits-exact a f in
    let y = fits-exact b g in
    (sym x.code ∙ ap code_in e ∙ y.code, sym x.place ∙ ap place_or_used_in e ∙ y.place, sym x.readings ∙ ap readings_in e ∙ y.readings, sym x.peak ∙ ap peak_in e ∙ y.peak)

-- ## The listing

sum-le : (f : ℕ → ℕ) (most n : ℕ) → ((i : ℕ) → f i ≤ most) → sum f n ≤ n * most
unfolding sum
sum-le f most zero h = omega arith
sum-le f most (suc n) h = omega (arith, sum-le f most n h, h n, suc-mul n most)

-- a set has at most twelve variables here; a checked one has at most six
steps-le : (p : Pattern) → InOrder p → (set : ℕ) → steps_given p set ≤ 24 * 2 ^ 11
steps-le p ok set =
    let size = count-bound (λ v. eqb (set_of p v) set) p.n in
    let groups = count-bound (λ v. eqb (set_of p v) set && is_group p v) p.n in
    let many : set_size p set + group_size p set ≤ 24 = omega (arith, size, groups, ok.few) in
    let high : set_size p set - 1 ≤ 11 = omega (arith, size, ok.few) in
    mul-le-mul many (pow_mono high)

pub listing-fits :
    (pattern : List ℕ) (lent : ℕ) (a : Answer) (after : List ℕ) → ListingPromise pattern lent a after → Fits a
listing-fits pattern lent a after (ListingPromise.bad_pattern n e r) =
    subst Fits (sym e) (refused-fits (pattern_answer pattern).code (pattern_answer pattern).place (omega arith) (omega (arith, pattern-refusals pattern)) (pattern-place pattern))
listing-fits pattern lent a after (ListingPromise.no_room z l is m e r) = subst Fits (sym e) (refused-fits 12 0 (omega arith) (omega arith) (omega arith))
listing-fits pattern lent a after (ListingPromise.listed z l is m e r) =
    let checked = subst InOrder (accepted-pattern pattern z) (accepted-in-order pattern z) in
    let bound = sum-le (λ i. steps_given (pattern_of pattern) (suc i)) (24 * 2 ^ 11) most_sets (λ i. steps-le (pattern_of pattern) checked (suc i)) in
    let small : length l < 2 ^ 24 = omega (arith, all-steps (pattern_of pattern) checked l is, bound) in
    subst Fits (sym e) (record { code = omega arith; place = used-fits (steps_listed (length l)) refl small; readings = omega arith; peak = omega arith })

-- ## Texts

written-fits : (bytes : ℕ) → bytes < 2 ^ 24 → Fits (bytes_written bytes)
written-fits bytes l =
    record { code = omega arith; place = used-fits (bytes_written bytes) refl l; readings = omega arith; peak = omega arith }

checked-fits :
    (pattern : List ℕ) → ¬ ((pattern_answer pattern).code ≡ 0)
    → Fits (refused (pattern_answer pattern).code (pattern_answer pattern).place)
checked-fits pattern n =
    refused-fits (pattern_answer pattern).code (pattern_answer pattern).place (omega arith)
    (omega (arith, pattern-refusals pattern))
    (pattern-place pattern)

pub write-fits :
    (pattern : List ℕ) (lent : ℕ) (a : Answer) (after : List ℕ) → WritePromise pattern lent a after → Fits a
write-fits pattern lent a after (WritePromise.bad_pattern n e r) = subst Fits (sym e) (checked-fits pattern n)
write-fits pattern lent a after (WritePromise.no_room z m q l e r) =
    subst Fits (sym e) (refused-fits 12 0 (omega arith) (omega arith) (omega arith))
write-fits pattern lent a after (WritePromise.wrote z m q l e r) =
    subst Fits (sym e) (written-fits _ (omega (arith, longest pattern m z q)))

-- the place of a 14 fits where the line is one of the first 2^24
pub read_fits :
    (text : List ℕ) (lent : ℕ) (a : Answer) (after : List ℕ) → ReadPromise text lent a after
    → (a.code ≡ 14 → a.place < 2 ^ 24)
    → Fits a
read_fits text lent a after (ReadPromise.outside place f e r) l =
    let bound = l (ap (λ (b : Answer). b.code) e) in
    record {
      code = omega (arith, ap (λ (b : Answer). b.code) e);
      place = place-fits a (λ z. omega (arith, ap (λ (b : Answer). b.code) e)) bound;
      readings = omega (arith, ap (λ (b : Answer). b.readings) e);
      peak = omega (arith, ap (λ (b : Answer). b.peak) e);
    }
read_fits text lent a after (ReadPromise.too_large m f n e r) l =
    subst Fits (sym e) (refused-fits 2 0 (omega arith) (omega arith) (omega arith))
read_fits text lent a after (ReadPromise.bad_set m f i s e r) l =
    subst Fits (sym e) (refused-fits 3 _ (omega arith) (omega arith) (pattern-place _))
read_fits text lent a after (ReadPromise.no_room m f i s h e r) l =
    subst Fits (sym e) (refused-fits 12 0 (omega arith) (omega arith) (omega arith))
read_fits text lent a after (ReadPromise.read m f i s h e r) l =
    subst Fits (sym e) (written-fits _ (omega (arith, most_bytes_lem m i)))

-- ## Indexes

block-fits : (block : List ℕ) → ¬ ((block_answer block).code ≡ 0) → Fits (block_answer block)
block-fits block n =
    let r = block-refusals block n in
    record {
      code = omega (arith, r.up_to);
      place = place-fits (block_answer block) n (omega (arith, block-place block));
      readings = omega (arith, r.readings);
      peak = omega (arith, r.peak);
    }

pub make-fits : (block : List ℕ) (lent : ℕ) (a : Answer) (index : List ℕ) → MakePromise block lent a index → Fits a
make-fits block lent a index (MakePromise.refused_slice n e r) =
    subst Fits (sym e) (refused-fits 15 0 (omega arith) (omega arith) (omega arith))
make-fits block lent a index (MakePromise.refused_block h n e r) = subst Fits (sym e) (block-fits block n)
make-fits block lent a index (MakePromise.made h z e r) = subst Fits (sym e) (written-fits index_bytes (omega arith))

pub search-fits :
    (pattern index block : List ℕ) (limit lent_work lent_result : ℕ) (a : Answer) (work result : List ℕ)
    → lent_result ≤ most_result_bytes
    → SearchCall pattern index block limit lent_work lent_result a work result
    → Fits a
search-fits pattern index block limit lent_work lent_result a work result h (SearchCall.refused_index p t e w r) =
    subst Fits (sym e) (refused-fits 15 0 (omega arith) (omega arith) (omega arith))
search-fits pattern index block limit lent_work lent_result a work result h (SearchCall.cannot_match z f l c e w r) =
    subst Fits (sym e) (written-fits 0 (omega arith))
search-fits pattern index block limit lent_work lent_result a work result h (SearchCall.forwarded f g s) =
    forward-fits pattern block limit lent_work lent_result a work result h s
