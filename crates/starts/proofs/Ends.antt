-- What was written and counted at the end meets the promises of the calls. Assumes nothing.
use Rattle.std.proofs.Common.{arith, ◌≡◌, refl, sym, ap, subst, ◌∙◌, List, [], ◌∷◌, ◌++◌, ℕ, ◌+◌, ◌-◌, ◌*◌, ◌/◌, ◌≤◌}
use Rattle.std.proofs.Common.{◌<◌, length, replicate, Ok, Err, min, take, append_assoc, zero, suc, length-append}
use Rattle.std.proofs.Common.{lt-ltb, le-ltb}
use lib.ListN.{length-replicate, replicate-append-replicate}
use Rattle.numbers.specs.Numbers.{bytes_of}
use Rattle.numbers.proofs.Cases.{by_order}
use Rattle.records.specs.declared.Answer.{Answer}
use Rattle.records.specs.declared.refusals.Refusal.{Refusal}
use Rattle.records.specs.declared.refusals.Refusal.TheVariants.{PatternLength, Header, Variable, Condition, BlockLength}
use Rattle.records.specs.declared.refusals.Refusal.TheVariants.{Record, Time, Limit, Bindings, Live, ResultRoom, SliceRoom}
use Rattle.records.specs.declared.refusals.Refusal.TheVariants.{Line, Index}
use Rattle.records.specs.Refusals.{code_of, judged_as}
use Rattle.records.specs.Records.{records_of}
use Rattle.records.specs.Blocks.{refused, block_answer, most_records, InOrder}
use Rattle.patterns.specs.declared.Pattern.{Pattern}
use Rattle.patterns.specs.declared.Checked.{Checked}
use Rattle.patterns.specs.Checked.{checked_of, pattern_answer}
use Rattle.patterns.specs.Checked.{InOrder as PatternInOrder}
use Rattle.patterns.proofs.InOrder.{read-accepted}
use Rattle.rule.specs.Rule.{Block, TimesNeverFall, pack}
use Rattle.rule.specs.Promises.{StartByStart, Measure, Outcome, refused_with, success, most_counted}
use Rattle.rule.specs.Calls.{input_answer, zeros, room_in, result_of, StartByStartCall, MeasureCall}
use Rattle.rule.specs.Starts.{Found, found_all, lines_of, least_over, start_answer, measure_answer}
use Rattle.rule.proofs.Inputs.{times-never-fall, few-records, input-pattern, input-block, input-in-order}
use Rattle.rule.proofs.StartAnswers.{start-answer-is, measure-answer-is, ends-long, ends-full, ends-well}
use Rattle.rule.proofs.StartAnswers.{measure-ends-long, measure-ends-well}
use Rattle.slots.proofs.Results.{bytes_of-append}
use Rattle.starts.specs.declared.Counts.{Counts}
use Rattle.starts.specs.Sinks.{Sink, sink_of, stop, emits, none_yet, Accepted, answer_by, left_by, measure_by}
use Rattle.starts.proofs.Sinks.{least-all, used_all, readings-all, readings-few, memory-all}
use Rattle.starts.specs.Skips.{Passed}
use Rattle.starts.proofs.Same.{length-emits, counts_of, same_answer_lem, same_left, same-measure}

-- ## Zeros

zeros-append : (a b : ℕ) → zeros a ++ zeros b ≡ zeros (a + b)
zeros-append a b = replicate-append-replicate a b 0

zeros-bytes : (k : ℕ) → bytes_of (replicate k 0) ≡ zeros (2 * k)
unfolding bytes_of
zeros-bytes zero = refl
zeros-bytes (suc k) =
    let e : suc (suc (2 * k)) ≡ 2 * suc k = omega arith in
    ap (λ (l : List ℕ). 0 ∷ 0 ∷ l) (zeros-bytes k) ∙ ap zeros e

-- unused numbers are 0, and so is a left-over byte
unused :
    (lent : ℕ) (numbers : List ℕ) → length numbers ≤ room_in lent
    → bytes_of numbers ++ zeros (lent - 2 * length numbers)
    ≡ result_of lent (numbers ++ replicate (room_in lent - length numbers) 0)
unused lent numbers h =
    let k : ℕ = room_in lent - length numbers in
    let n : length (numbers ++ replicate k 0) ≡ length numbers + k = length-append numbers (replicate k 0) ∙ (let z = length-replicate {A = ℕ} k 0 in omega arith) in
    let e : 2 * k + (lent - 2 * (length numbers + k)) ≡ lent - 2 * length numbers = omega arith in
    sym
    ((λ i. bytes_of-append numbers (replicate k 0) i ++ zeros (lent - 2 * n i))
    ∙ append_assoc (bytes_of numbers) (bytes_of (replicate k 0)) (zeros (lent - 2 * (length numbers + k)))
    ∙ ap (λ (l : List ℕ). bytes_of numbers ++ l)
    (ap (λ (l : List ℕ). l ++ zeros (lent - 2 * (length numbers + k))) (zeros-bytes k)
    ∙ zeros-append (2 * k) (lent - 2 * (length numbers + k))
    ∙ ap zeros e))

all-unused : (lent : ℕ) → zeros lent ≡ result_of lent (replicate (room_in lent) 0)
unfolding bytes_of
all-unused lent =
    let e : lent - 2 * 0 ≡ lent = omega arith in
    let d : room_in lent - 0 ≡ room_in lent = omega arith in
    ap zeros (sym e) ∙ unused lent [] (omega arith) ∙ ap (λ (k : ℕ). result_of lent (replicate k 0)) d

-- ## The three ways out

-- the answer and the bytes that meet the promise
pub record Answered (p : Pattern) (B : Block) (lent : ℕ) (answer : Answer) (after : List ℕ) : Type 0 where
  pub numbers : List ℕ
  pub promise : StartByStart p B (room_in lent) (record { answer = answer; numbers = numbers })
  pub left : after ≡ result_of lent numbers

module _ (p : Pattern) (B : Block) (mono : TimesNeverFall B) (few : length B ≤ most_records) (lent memory : List ℕ)
    (o : Counts) (e : sink_of memory o ≡ emits (sink_of lent none_yet) (found_all p B)) where
  abbrev found : List Found
  found = found_all p B

  least-is : o.least ≡ least_over most_records found
  least-is = ap (λ (s : Sink). s.least) e ∙ least-all found (sink_of lent none_yet)

  used_is : o.used ≡ min (length (pack (lines_of found))) stop
  used_is = ap (λ (s : Sink). s.used) e ∙ used_all found (sink_of lent none_yet) (omega arith) ∙ omega arith

  readings_is : o.readings ≡ min (length (lines_of found)) stop
  readings_is = ap (λ (s : Sink). s.readings) e ∙ readings-all found (sink_of lent none_yet) (omega arith) ∙ omega arith

  module _ (size : length memory ≡ length lent) (small : length lent < stop) where
    abbrev room : ℕ
    room = room_in (length lent)

    -- the same answer and bytes as those of the list
    meets :
        (outcome : Outcome) → start_answer p B room ≡ outcome → (answer : Answer) (after : List ℕ)
        → answer ≡ outcome.answer → after ≡ result_of (length lent) outcome.numbers
        → Answered p B (length lent) answer after
    meets outcome q answer after a b =
        record {
          numbers = outcome.numbers;
          promise =
              subst (StartByStart p B room) (q ∙ (λ i. record { answer = sym a i; numbers = outcome.numbers })) (start-answer-is p B mono room);
          left = b;
        }

    cleared : replicate (length memory) 0 ≡ result_of (length lent) (replicate room 0)
    cleared = ap zeros size ∙ all-unused (length lent)

    long :
        o.least < most_records → (answer : Answer) (after : List ℕ) → answer ≡ answer_by o room → after ≡ left_by o memory
        → Answered p B (length lent) answer after
    unfolding answer_by left_by
    long h answer after a b =
        let t = lt-ltb o.least most_records h in
        let l = least-is in
        meets (refused_with room 9 (least_over most_records found)) (ends-long p B mono most_records few room (omega arith)) answer after
        (a ∙ rw (t, answer_by) (ap (refused 9) l))
        (b ∙ rw (t, left_by) cleared)

    full :
        most_records ≤ o.least → room < o.used → (answer : Answer) (after : List ℕ)
        → answer ≡ answer_by o room → after ≡ left_by o memory
        → Answered p B (length lent) answer after
    unfolding answer_by left_by
    full h g answer after a b =
        let t = le-ltb o.least most_records h in
        let half : length memory / 2 ≡ room = ap (λ (k : ℕ). k / 2) size in
        let l = least-is in
        let u = used_is in
        meets (refused_with room 11 0) (ends-full p B mono most_records few room (omega arith) (omega arith)) answer after
        (a ∙ rw (t, lt-ltb room o.used g, answer_by))
        (b ∙ rw (t, half, lt-ltb room o.used g, left_by) cleared)

    well :
        most_records ≤ o.least → o.used ≤ room → (answer : Answer) (after : List ℕ)
        → answer ≡ answer_by o room → after ≡ left_by o memory
        → Answered p B (length lent) answer after
    unfolding answer_by left_by bytes_of
    well h g answer after a b =
        let t = le-ltb o.least most_records h in
        let half : length memory / 2 ≡ room = ap (λ (k : ℕ). k / 2) size in
        let l = least-is in
        let u : o.used ≡ length (pack (lines_of found)) = omega (arith, used_is) in
        let n : o.readings ≡ length (lines_of found) = omega (arith, readings_is, readings-few found) in
        let z : 2 * (0 + length (pack (lines_of found))) ≡ 2 * o.used = omega arith in
        let m : take (2 * o.used) memory ≡ bytes_of (pack (lines_of found)) =
        ap (λ (k : ℕ). take k memory) (sym z)
        ∙ ap (λ (s : Sink). take (2 * (0 + length (pack (lines_of found)))) s.memory) e
        ∙ memory-all found (sink_of lent none_yet) [] refl refl (omega arith) (omega arith) in
        let w : length memory - 2 * o.used ≡ length lent - 2 * length (pack (lines_of found)) = omega arith in
        meets (success room (lines_of found) 0) (ends-well p B mono most_records few room (omega arith) (omega arith)) answer after
        (a ∙ rw (t, le-ltb room o.used g, answer_by) (λ i. record { code = 0; place = 0; used = u i; readings = n i; peak = 0 }))
        (b
        ∙ rw (t, half, le-ltb room o.used g, left_by) (λ i. m i ++ zeros (w i))
        ∙ unused (length lent) (pack (lines_of found)) (omega arith))

    pub start-ends :
        (answer : Answer) (after : List ℕ) → answer ≡ answer_by o room → after ≡ left_by o memory
        → Answered p B (length lent) answer after
    start-ends answer after a b =
        by_order o.least most_records
        (λ h. long h answer after a b)
        (λ h. by_order room o.used (λ g. full h g answer after a b) (λ g. well h g answer after a b))

  -- ## Measure

  measure-long : o.least < most_records → measure_by o ≡ measure_answer p B
  unfolding measure_by
  measure-long h =
      let l = least-is in
      rw (lt-ltb o.least most_records h, measure_by) (ap (refused 9) l ∙ sym (measure-ends-long p B mono most_records few (omega arith)))

  measure-well : most_records ≤ o.least → measure_by o ≡ measure_answer p B
  unfolding measure_by
  measure-well h =
      let l = least-is in
      let u : min o.used most_counted ≡ min (length (pack (lines_of found))) most_counted = omega (arith, used_is) in
      let n : min o.readings most_counted ≡ min (length (lines_of found)) most_counted = omega (arith, readings_is) in
      rw (le-ltb o.least most_records h, measure_by)
      ((λ i. record { code = 0; place = 0; used = u i; readings = n i; peak = 0 }) ∙ sym (measure-ends-well p B mono most_records few (omega arith)))

  pub measure-ends : (answer : Answer) → answer ≡ measure_by o → Measure p B answer
  measure-ends answer a =
      subst (Measure p B) (sym (a ∙ by_order o.least most_records measure-long measure-well)) (measure-answer-is p B mono)

-- ## What is judged before the pass

-- a refusal has a number
code-some : (r : Refusal) → ¬ (code_of r ≡ 0)
code-some PatternLength z = omega arith
code-some Header z = omega arith
code-some (Variable v) z = omega arith
code-some (Condition j) z = omega arith
code-some BlockLength z = omega arith
code-some (Record i) z = omega arith
code-some (Time i) z = omega arith
code-some Limit z = omega arith
code-some (Bindings i) z = omega arith
code-some (Live i) z = omega arith
code-some ResultRoom z = omega arith
code-some SliceRoom z = omega arith
code-some (Line l) z = omega arith
code-some Index z = omega arith

module _ (pattern block : List ℕ) where
  pub refused-pattern : (r : Refusal) → checked_of (Err r) ≡ pattern_answer pattern → Accepted pattern block (Err r)
  refused-pattern r e =
      let n : ¬ ((pattern_answer pattern).code ≡ 0) = λ z. code-some r (ap (λ (k : Checked). k.code) e ∙ z) in
      let is = input-pattern pattern block n in
      ((λ z. n (sym (ap (λ (a : Answer). a.code) is) ∙ z)), ap (λ (k : Checked). refused k.code k.place) e ∙ sym is)

  module _ (p : Pattern) (read : checked_of (Ok p) ≡ pattern_answer pattern) where
    whole : input_answer pattern block ≡ block_answer block
    whole = input-block pattern block (read-accepted pattern p read)

    pub refused_block : (r : Refusal) → judged_as (Err r) ≡ block_answer block → Accepted pattern block (Err r)
    refused_block r e = ((λ z. code-some r (ap (λ (a : Answer). a.code) (e ∙ sym whole) ∙ z)), e ∙ sym whole)

    pub both-accepted : (n : ℕ) → judged_as (Ok n) ≡ block_answer block → Accepted pattern block (Ok p)
    both-accepted n e = (ap (λ (a : Answer). a.code) (whole ∙ sym e), ap (λ (k : Checked). k.pattern) read)

-- ## The calls

module _ (pattern block : List ℕ) (p : Pattern) (ok : Accepted pattern block (Ok p)) where
  pub pattern-good : PatternInOrder p
  pattern-good = rw ok.1 (input-in-order pattern block ok.0).checked

  pub block-good : InOrder block
  block-good = (input-in-order pattern block ok.0).ordered

  pub call-answered :
      (lent : ℕ) (memory : List ℕ) (o : Counts) → Passed p block 0 lent (sink_of memory o) → lent < stop
      → (answer : Answer) (after : List ℕ) → answer ≡ answer_by o (length memory / 2)
      → after ≡ left_by o memory
      → StartByStartCall pattern block lent answer after
  call-answered lent memory o passed small answer after a b =
      let t : Sink = emits (sink_of passed.memory none_yet) (found_all p (records_of block)) in
      let size = length-emits (sink_of passed.memory none_yet) (found_all p (records_of block)) in
      let half : length t.memory / 2 ≡ room_in (length passed.memory) = ap (λ (k : ℕ). k / 2) size in
      let few = passed.size in
      let r = start-ends p (records_of block) (times-never-fall block block-good) (few-records block block-good) passed.memory t.memory (counts_of t) refl size (omega arith) answer after
      (a ∙ same_answer_lem (sink_of memory o) t passed.same ∙ ap (answer_by (counts_of t)) half)
      (b ∙ same_left (sink_of memory o) t passed.same) in
      let q = subst (λ (x : Pattern). Answered x (records_of block) lent answer after) ok.1
      (subst (λ (k : ℕ). Answered p (records_of block) k answer after) few r) in
      StartByStartCall.answered ok.0 q.numbers q.promise q.left

  pub measure-answered :
      (lent : ℕ) (memory : List ℕ) (o : Counts) → Passed p block most_counted lent (sink_of memory o)
      → (answer : Answer) → answer ≡ measure_by o
      → MeasureCall pattern block answer
  measure-answered lent memory o passed answer a =
      let t : Sink = emits (sink_of passed.memory none_yet) (found_all p (records_of block)) in
      MeasureCall.answered ok.0
      (subst (λ (x : Pattern). Measure x (records_of block) answer) ok.1
      (measure-ends p (records_of block) (times-never-fall block block-good) (few-records block block-good) passed.memory t.memory (counts_of t) refl answer
      (a ∙ same-measure (sink_of memory o) t passed.same)))
