-- m + 1 events under the pattern of one variable, no conditions and duration 0: each begins a reading of its own, which
-- the next event closes, and the end of the block the last; both passes accept. Assumes nothing.
use mathlib.Core.Path.{◌≡◌, refl, sym, ap, ap₂, subst, ◌∙◌}
use mathlib.Core.Logic.{◌⊎◌, inl, inr}
use mathlib.Core.Bool.{Bool, true, false, ◌&&◌, ◌||◌}
use mathlib.Core.List.{List, [], ◌∷◌, ◌++◌}
use Prim.Native.Nat.{ℕ, zero, suc, ◌+◌, ◌*◌, ◌≤◌, ◌<◌}
use native.Mathlib.Omega.{arith}
use native.Mathlib.Decide.{ℕ_discrete}
use lib.Dec.{eqb, ltb}
use lib.ListN.{length}
use borrow.Author.Tests.{lt-leb, le-ltb}
use Rattle.numbers.specs.Numbers.{number, upto, first_from, first, count}
use Rattle.numbers.proofs.Cases.{by-test}
use Rattle.records.specs.declared.Answer.{Answer}
use Rattle.records.specs.declared.Record.{Record}
use Rattle.records.specs.Blocks.{most_records}
use Rattle.patterns.specs.declared.Pattern.{Pattern}
use Rattle.patterns.specs.Patterns.{header, header_broken, set_number, group_flag, variable_zero, least_set, greatest_set}
use Rattle.patterns.specs.Patterns.{variable_broken, condition_of, condition_zero, condition_word, form_broken}
use Rattle.patterns.specs.Patterns.{condition_broken}
use Rattle.patterns.specs.Checked.{filled, pattern_up_to, pattern_of, first_bad_variable, first_bad_condition, pattern_answer}
use Rattle.patterns.specs.Checked.{condition_at}
use Rattle.automaton.specs.Filtering.{all, keep, filter, collect}
use Rattle.automaton.specs.Automaton.{opens, loops, leaves, marked, carries}
use Rattle.rule.specs.Rule.{Block, Reading, Line, Report, TimesNeverFall, record_in, time_at, last_of, binds}
use Rattle.rule.specs.Rule.{in_order, allowed, fires, is_full, past_mark, end_mark, pack}
use Rattle.rule.specs.Promises.{Outcome, most_bindings, success, Forward}
use Rattle.rule.specs.Calls.{input_answer, pattern_in, block_in, zeros, result_of, ForwardCall, StartByStartCall}
use Rattle.rule.specs.Computed.{is_event, in_window, only, or_else, any, fired, extend, step, live, line, lines}
use Rattle.rule.specs.Computed.{closing, closed, report, is_met, peak, scan, forward}
use Rattle.rule.specs.Bench.{one_pattern, bound, full_limit, full_work, full_result}
use Rattle.rule.proofs.LiveReadings.{event-yes, yes-event}
use Rattle.rule.proofs.Report.{event-in, report-is}
use Rattle.rule.proofs.Written.{report-written}
use Rattle.rule.proofs.OneReport.{one-report}
use Rattle.rule.proofs.ForwardAnswers.{forward-is}
use Rattle.rule.proofs.Inputs.{block-length, block-record, times-never-fall, input-accepted}
use Rattle.rule.proofs.Calls.{forward-one}
use Rattle.rule.proofs.Accepted.{CallTold}
use Rattle.rule.proofs.Demand3.{forward-then-start}
use Rattle.rule.proofs.EventBlocks.{events, event, length-events, record_is, events-in-order}

-- ## The pattern

abbrev pub one : Pattern
one = pattern_in one_pattern

-- variable 0 bound to record j
unfoldable pub single : ℕ → Reading
single j = bound 0 j ∷ []

-- the pattern is accepted and has duration 0; each event begins a reading, which is full with its first binding
one-facts : ((pattern_answer one_pattern).code ≡ 0) × (one.duration ≡ 0)
    × ((B : Block) (j : ℕ) → fired one B j [] ≡ single j ∷ [])
    × ((j : ℕ) → is_full one (single j) ≡ true)
unfolding number upto first_from first count header header_broken set_number group_flag variable_zero least_set greatest_set
    variable_broken condition_of condition_zero condition_word form_broken condition_broken filled pattern_up_to pattern_of
    first_bad_variable first_bad_condition pattern_answer condition_at all keep filter opens loops leaves marked carries binds
    in_order allowed fires is_full fired single
one-facts = (refl, refl, (λ B j. refl), (λ j. refl))

-- ## What is live and what has closed

-- n lines from start a on, each closed by the event after it
unfoldable pub passed : ℕ → ℕ → List Line
passed a zero = []
passed a (suc n) = line past_mark (single a) ∷ passed (suc a) n

pub passed-more : (a n : ℕ) → passed a (suc n) ≡ passed a n ++ (line past_mark (single (a + n)) ∷ [])
unfolding passed
passed-more a zero = let e : a ≡ a + 0 = omega arith in ap (λ k. line past_mark (single k) ∷ []) e
passed-more a (suc n) =
    let e : suc a + n ≡ a + suc n = omega arith in
    ap (λ l. line past_mark (single a) ∷ l)
    (passed-more (suc a) n ∙ ap (λ k. passed (suc a) n ++ (line past_mark (single k) ∷ [])) e)

-- two numbers a line
length-pack : (a n : ℕ) (l : List Line) → length (pack (passed a n ++ l)) ≡ 2 * n + length (pack l)
unfolding passed single
length-pack a zero l = omega arith
length-pack a (suc n) l = let e = length-pack (suc a) n l in omega arith

length-passed : (a n : ℕ) (l : List Line) → length (passed a n ++ l) ≡ n + length l
unfolding passed
length-passed a zero l = omega arith
length-passed a (suc n) l = let e = length-passed (suc a) n l in omega arith

length-pack-passed : (a n : ℕ) → length (pack (passed a n)) ≡ 2 * n
unfolding passed single
length-pack-passed a zero = refl
length-pack-passed a (suc n) = let e = length-pack-passed (suc a) n in omega arith

-- of so few live readings none is too long, and they are not too many
none-long : (j : ℕ) (l : List Reading) → (l ≡ []) ⊎ (l ≡ single j ∷ [])
    → any (λ (r : Reading). eqb (last_of r) j && eqb (length r) (suc most_bindings)) l ≡ false
unfolding any single
none-long j l (inl e) = ap (any (λ (r : Reading). eqb (last_of r) j && eqb (length r) (suc most_bindings))) e
none-long j l (inr e) =
    ap (any (λ (r : Reading). eqb (last_of r) j && eqb (length r) (suc most_bindings))) e ∙ go (eqb j j)
  where
    go : (b : Bool) → (b && false) || false ≡ false
    go true = refl
    go false = refl

none-many : (j : ℕ) (l : List Reading) → (l ≡ []) ⊎ (l ≡ single j ∷ []) → ltb full_limit (length l) ≡ false
none-many j l (inl e) = le-ltb full_limit (length l) (omega (arith, ap length e))
none-many j l (inr e) = le-ltb full_limit (length l) (omega (arith, ap length e))

-- the answer and the slices after a call, with limit and slices as the match program lends them
abbrev pub OfOne : List ℕ → Answer → List ℕ → List ℕ → Type 0
OfOne block answer work result = ForwardCall one_pattern block full_limit full_work full_result answer work result

abbrev pub StartOfOne : List ℕ → Answer → List ℕ → Type 0
StartOfOne block answer result = StartByStartCall one_pattern block full_result answer result

-- m + 1 events
module _ (m : ℕ) (few : suc m ≤ most_records) where
  abbrev B : Block
  B = block_in (events (suc m))

  size : length B ≡ suc m
  size = block-length (events (suc m)) ∙ (let e = length-events (suc m) in omega arith)

  record-in : (j : ℕ) → j < suc m → record_in B j ≡ event j
  record-in j h =
      block-record (events (suc m)) j (let e = length-events (suc m) in omega arith) ∙ record_is (suc m) j few h

  is-event : (j : ℕ) → j < suc m → is_event B j ≡ true
  unfolding event
  is-event j h = yes-event one B j (ap (λ (r : Record). r.kind) (record-in j h))

  time-in : (j : ℕ) → j < suc m → time_at B j ≡ j
  unfolding event
  time-in j h = ap (λ (r : Record). r.time) (record-in j h)

  outside : (j : ℕ) → suc j < suc m → in_window one B (single j) (suc j) ≡ false
  unfolding in_window single
  outside j h =
      lt-leb (time_at B (suc j)) (time_at B j + one.duration)
      (omega (arith, time-in j (omega arith), time-in (suc j) h, one-facts.1))

  end-is-gap : is_event B (suc m) ≡ false
  end-is-gap =
      by-test (is_event B (suc m))
      (λ t. absurd (omega (arith, size, event-in one B (suc m) (event-yes one B (suc m) t))))
      (λ f. f)

  step-single : (j : ℕ) (l : List Reading) → j < suc m → collect (extend one B j) l ≡ []
      → step one B j l ≡ single j ∷ []
  unfolding step only
  step-single j l h e =
      ap (λ b. only b (collect (extend one B j) l ++ fired one B j [])) (is-event j h)
      ∙ ap (λ x. x ++ fired one B j []) e
      ∙ one-facts.2 B j

  gone : (j : ℕ) → suc j < suc m → collect (extend one B (suc j)) (single j ∷ []) ≡ []
  unfolding collect extend only
  gone j h = ap (λ b. only b (or_else (single j) (fired one B (suc j) (single j))) ++ []) (outside j h)

  live-single : (j : ℕ) → j < suc m → live one B (suc j) ≡ single j ∷ []
  unfolding live collect
  live-single zero h = step-single 0 [] h refl
  live-single (suc j) h =
      ap (step one B (suc j)) (live-single j (omega arith)) ∙ step-single (suc j) (single j ∷ []) h (gone j h)

  live_end : live one B (suc (suc m)) ≡ []
  unfolding live step only
  live_end = ap (λ b. only b (collect (extend one B (suc m)) (live one B (suc m)) ++ fired one B (suc m) [])) end-is-gap

  closing-first : closing one B 0 [] ≡ []
  unfolding closing lines filter
  closing-first = rw (is-event 0 (omega arith), closing)

  closing-past : (j : ℕ) → suc j < suc m → closing one B (suc j) (single j ∷ []) ≡ line past_mark (single j) ∷ []
  unfolding closing lines filter keep
  closing-past j h = rw (is-event (suc j) h, closing, outside j h, one-facts.3 j)

  closing_end : closing one B (suc m) (single m ∷ []) ≡ line end_mark (single m) ∷ []
  unfolding closing lines filter keep
  closing_end = rw (end-is-gap, closing, size, le-ltb (suc m) (suc m) (omega arith), one-facts.3 m)

  closed-passed : (j : ℕ) → j < suc m → closed one B (suc j) ≡ passed 0 j
  unfolding closed live passed
  closed-passed zero h = closing-first
  closed-passed (suc j) h =
      let e : 0 + j ≡ j = omega arith in
      let now = ap (closing one B (suc j)) (live-single j (omega arith)) ∙ closing-past j h in
      ap₂ (λ x y. x ++ y) (closed-passed j (omega arith)) now
      ∙ ap (λ k. passed 0 j ++ (line past_mark (single k) ∷ [])) (sym e)
      ∙ sym (passed-more 0 j)

  -- the report: m lines that the next event closes, and one that the end does
  abbrev pub told : List Line
  told = passed 0 m ++ (line end_mark (single m) ∷ [])

  closed-end : closed one B (suc (suc m)) ≡ told
  unfolding closed
  closed-end =
      let now = ap (closing one B (suc m)) (live-single m (omega arith)) ∙ closing_end in
      ap₂ (λ x y. x ++ y) (closed-passed m (omega arith)) now

  report-told : report one B ≡ told
  unfolding report
  report-told = ap (λ n. closed one B (suc n)) size ∙ closed-end

  accepted : (input_answer one_pattern (events (suc m))).code ≡ 0
  accepted = input-accepted one_pattern (events (suc m)) one-facts.0 (events-in-order (suc m) few)

  mono : TimesNeverFall B
  mono = times-never-fall (events (suc m)) (events-in-order (suc m) few)

  pub report-of : Report one B (length B) told
  report-of =
      subst (Report one B (length B)) report-told
      ((report-written one B mono (length B) (report one B)).0 (report-is one B mono))

  -- ## The forward pass accepts

  abbrev room : ℕ
  room = 32768

  told-fits : length (pack told) ≡ 2 * m + 2
  unfolding single
  told-fits = length-pack 0 m (line end_mark (single m) ∷ [])

  closed-fits : (j : ℕ) → j ≤ suc m → length (pack (closed one B (suc j))) ≤ room
  closed-fits j h = go (ℕ_discrete j (suc m))
    where
      go : Dec (j ≡ suc m) → length (pack (closed one B (suc j))) ≤ room
      go (yes e) =
          let q = ap (λ n. closed one B (suc n)) e ∙ closed-end in
          omega (arith, ap (λ l. length (pack l)) q, told-fits)
      go (no d) =
          omega (arith, ap (λ l. length (pack l)) (closed-passed j (omega arith)), length-pack-passed 0 j)

  live-few : (j : ℕ) → j ≤ suc m → (live one B (suc j) ≡ []) ⊎ (live one B (suc j) ≡ single j ∷ [])
  live-few j h = go (ℕ_discrete j (suc m))
    where
      go : Dec (j ≡ suc m) → (live one B (suc j) ≡ []) ⊎ (live one B (suc j) ≡ single j ∷ [])
      go (yes e) = inl (ap (λ n. live one B (suc n)) e ∙ live_end)
      go (no d) = inr (live-single j (omega arith))

  not_full : (j : ℕ) → j ≤ suc m → is_met one B full_limit room j 0 ≡ false
  unfolding is_met
  not_full j h = le-ltb room (length (pack (closed one B (suc j)))) (closed-fits j h)

  not-long : (j : ℕ) → j ≤ suc m → is_met one B full_limit room j 1 ≡ false
  unfolding is_met
  not-long j h = none-long j (live one B (suc j)) (live-few j h)

  not-many : (j : ℕ) → j ≤ suc m → is_met one B full_limit room j 3 ≡ false
  unfolding is_met
  not-many j h = none-many j (live one B (suc j)) (live-few j h)

  abbrev answered : Outcome
  answered = success room (report one B) (peak one B (length B))

  scan-accepts : (j n : ℕ) → j + n ≤ suc (suc m) → scan one B full_limit room j n ≡ answered
  unfolding scan
  scan-accepts j zero h = refl
  scan-accepts j (suc n) h =
      rw (not_full j (omega arith), scan, not-long j (omega arith), not-many j (omega arith))
      (scan-accepts (suc j) n (omega arith))

  forward-accepts : forward one B full_limit room ≡ answered
  unfolding forward
  forward-accepts = scan-accepts 0 (suc (length B)) (omega (arith, size))

  right-call : OfOne (events (suc m)) answered.answer (zeros full_work) (result_of full_result answered.numbers)
  right-call =
      ForwardCall.answered accepted (record { some = omega arith; few = omega arith; room = omega arith })
      answered.numbers
      (subst (Forward one B full_limit room) forward-accepts (forward-is one B mono full_limit room))
      refl
      refl

  pub forward-code : (a : Answer) (work result : List ℕ) → OfOne (events (suc m)) a work result → a.code ≡ 0
  forward-code a work result met =
      ap (λ (x : Answer). x.code)
      (forward-one one_pattern (events (suc m)) full_limit full_work full_result a _ work _ result _ met right-call).0

  pub start-code : (a : Answer) (result : List ℕ) → StartOfOne (events (suc m)) a result → a.code ≡ 0
  start-code a result met =
      (forward-then-start one_pattern (events (suc m)) full_limit full_work full_result _ a _ _ result right-call met refl).0

  pub lines-told : (a : Answer) (result : List ℕ) (c : CallTold one_pattern (events (suc m)) full_result a result)
      → c.told.lines ≡ told
  lines-told a result c = one-report one B (length B) c.told.lines told c.told.report report-of

  pub told-length : length told ≡ suc m
  told-length = length-passed 0 m (line end_mark (single m) ∷ []) ∙ omega arith
