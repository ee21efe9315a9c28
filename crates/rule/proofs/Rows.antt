-- The rows of the bench table, proved of what the calls promise from the caller's bytes. Assumes nothing.
use mathlib.Core.Path.{◌≡◌, refl, sym, ap, ap₂, subst, ◌∙◌}
use mathlib.Core.Bool.{true, false≢true}
use mathlib.Core.List.{List, [], ◌∷◌, ◌++◌, append_assoc, Memᴰ}
use Prim.Native.Nat.{ℕ, zero, suc, ◌+◌, ◌-◌, ◌*◌, ◌≤◌}
use native.Mathlib.Nat.{sub-zero}
use native.Mathlib.Omega.{arith}
use lib.Dec.{eqb, leb}
use lib.ListN.{length, take, replicate, length-append, length-replicate, replicate-append-replicate}
use lib.Seq.{take-append_seam}
use borrow.Author.Tests.{eqb-true, leb-true}
use Rattle.numbers.specs.Numbers.{bytes_of}
use Rattle.numbers.proofs.Bytes.{bytes-append, bytes-zeros}
use Rattle.records.specs.declared.Answer.{Answer}
use Rattle.patterns.specs.declared.Pattern.{Pattern}
use Rattle.patterns.specs.Patterns.{most_variables, most_conditions}
use Rattle.patterns.specs.Checked.{pattern_answer, pattern_of}
use Rattle.automaton.specs.Automaton.{IsListing}
use Rattle.automaton.specs.Steps.{steps}
use Rattle.automaton.specs.Listing.{step_room, steps_listed, ListingPromise}
use Rattle.rule.specs.Rule.{Block, Reading, Line, TimesNeverFall, Report, pack}
use Rattle.rule.specs.Promises.{Outcome, Forward, StartByStart, Measure, refusal, refused_with, success}
use Rattle.rule.specs.Calls.{input_answer, pattern_in, block_in, zeros, room_in, result_of, most_live, LimitInOrder}
use Rattle.rule.specs.Calls.{ForwardCall, StartByStartCall, MeasureCall}
use Rattle.rule.specs.Computed.{report, forward}
use Rattle.rule.specs.Starts.{start_answer, measure_answer}
use Rattle.rule.proofs.Table.{table_agrees, no_fetch_agrees}
use Rattle.rule.specs.Bench.{Row, asks, reports, lists, Says, table, no_fetch, agrees, same_list, same_reading}
use Rattle.rule.specs.Bench.{same_lines, same_answer, same_outcome, limit_in_order}
use Rattle.automaton.proofs.Membership.{both, all-mem}
use Rattle.automaton.proofs.Listing.{steps-is}
use Rattle.rule.proofs.Report.{report-is}
use Rattle.rule.proofs.Written.{report-written}
use Rattle.rule.proofs.Inputs.{times-never-fall, input-in-order}
use Rattle.rule.proofs.ForwardAnswers.{forward-is}
use Rattle.rule.proofs.StartAnswers.{start-answer-is, measure-answer-is}

-- ## What is compared equal is equal

lists-same : (l m : List ℕ) → same_list l m ≡ true → l ≡ m
unfolding same_list
lists-same [] [] h = refl
lists-same [] (y ∷ m) h = absurd (false≢true h)
lists-same (x ∷ l) [] h = absurd (false≢true h)
lists-same (x ∷ l) (y ∷ m) h = let q = both {a = eqb x y} h in ap₂ ◌∷◌ (eqb-true x y q.0) (lists-same l m q.1)

readings-same : (r s : Reading) → same_reading r s ≡ true → r ≡ s
unfolding same_reading
readings-same [] [] h = refl
readings-same [] (b ∷ s) h = absurd (false≢true h)
readings-same (a ∷ r) [] h = absurd (false≢true h)
readings-same (a ∷ r) (b ∷ s) h =
    let h1 = both {a = eqb a.variable b.variable} h in
    let h2 = both {a = eqb a.at b.at} h1.1 in
    λ i. record { variable = eqb-true a.variable b.variable h1.0 i; at = eqb-true a.at b.at h2.0 i } ∷ readings-same r s h2.1 i

lines_same : (l m : List Line) → same_lines l m ≡ true → l ≡ m
unfolding same_lines
lines_same [] [] h = refl
lines_same [] (y ∷ m) h = absurd (false≢true h)
lines_same (x ∷ l) [] h = absurd (false≢true h)
lines_same (x ∷ l) (y ∷ m) h =
    let h1 = both {a = eqb x.mark y.mark} h in
    let h2 = both {a = same_reading x.reading y.reading} h1.1 in
    λ i. record { mark = eqb-true x.mark y.mark h1.0 i; reading = readings-same x.reading y.reading h2.0 i } ∷ lines_same l m h2.1 i

answers-same : (a b : Answer) → same_answer a b ≡ true → a ≡ b
unfolding same_answer
answers-same a b h =
    let h1 = both {a = eqb a.code b.code} h in
    let h2 = both {a = eqb a.place b.place} h1.1 in
    let h3 = both {a = eqb a.used b.used} h2.1 in
    let h4 = both {a = eqb a.readings b.readings} h3.1 in
    λ i. record {
      code = eqb-true a.code b.code h1.0 i;
      place = eqb-true a.place b.place h2.0 i;
      used = eqb-true a.used b.used h3.0 i;
      readings = eqb-true a.readings b.readings h4.0 i;
      peak = eqb-true a.peak b.peak h4.1 i;
    }

limit-in-order : (limit lent : ℕ) → limit_in_order limit lent ≡ true → LimitInOrder limit lent
unfolding limit_in_order
limit-in-order limit lent h =
    let q = both {a = leb 1 limit} h in
    let r = both {a = leb limit most_live} q.1 in
    record { some = leb-true _ _ q.0; few = leb-true _ _ r.0; room = leb-true _ _ r.1 }

-- ## Unused numbers are 0

-- the numbers used, and zeros behind them to the end of the room
abbrev Filled : ℕ → Outcome → Type 0
Filled room a = a.numbers ≡ take a.answer.used a.numbers ++ replicate (room - a.answer.used) 0

filled-refusal : (room code place : ℕ) → Filled room (refused_with room code place)
filled-refusal room code place = ap (λ n. replicate n 0) (sym (sub-zero room))

filled_row : (room j t : ℕ) → Filled room (refusal room j t)
filled_row room j zero = filled-refusal room 11 0
filled_row room j (suc zero) = filled-refusal room 9 j
filled_row room j (suc (suc zero)) = filled-refusal room 13 j
filled_row room j (suc (suc (suc t))) = filled-refusal room 10 j

filled-success : (room : ℕ) (l : List Line) (peak : ℕ) → Filled room (success room l peak)
filled-success room l peak =
    ap (λ x. x ++ replicate (room - length (pack l)) 0) (sym (take-append_seam (pack l) (replicate (room - length (pack l)) 0)))

module _ (p : Pattern) (B : Block) (room : ℕ) (a : Outcome) where
  filled-forward : (L : ℕ) → Forward p B L room a → Filled room a
  filled-forward L (Forward.refuses j t i h f e) = subst (Filled room) (sym e) (filled_row room j t)
  filled-forward L (Forward.succeeds l peak n r k e) = subst (Filled room) (sym e) (filled-success room l peak)

  filled-start : StartByStart p B room a → Filled room a
  filled-start (StartByStart.long j h f e) = subst (Filled room) (sym e) (filled-refusal room 9 j)
  filled-start (StartByStart.twice j n h f e) = subst (Filled room) (sym e) (filled-refusal room 13 j)
  filled-start (StartByStart.full_up n m h e) = subst (Filled room) (sym e) (filled-refusal room 11 0)
  filled-start (StartByStart.done l n m r h e) = subst (Filled room) (sym e) (filled-success room l 0)

-- zeros behind the numbers make no other bytes
result-zeros :
    (lent k : ℕ) (l : List ℕ) → 2 * (length l + k) ≤ lent → result_of lent (l ++ replicate k 0) ≡ result_of lent l
result-zeros lent k l h =
    rw (length-append, length-replicate, bytes-append, bytes-zeros, append_assoc, replicate-append-replicate)
    (ap (λ n. bytes_of l ++ zeros n) (left lent k (length l) h))
  where
    left : (lent k n : ℕ) → 2 * (n + k) ≤ lent → 2 * k + (lent - 2 * (n + k)) ≡ lent - 2 * n
    left lent k n h = omega arith

-- what came is what must come
outcome-same :
    (lent : ℕ) (came must : Outcome) → same_outcome (room_in lent) came must ≡ true → Filled (room_in lent) came
    → (came.answer ≡ must.answer) × (result_of lent came.numbers ≡ result_of lent must.numbers)
unfolding same_outcome
outcome-same lent came must h f =
    let q = both {a = same_answer came.answer must.answer} h in
    let r = both {a = eqb (length must.numbers) must.answer.used} q.1 in
    let s = both {a = leb (length must.numbers) (room_in lent)} r.1 in
    let e = answers-same came.answer must.answer q.0 in
    let u : came.answer.used ≡ length must.numbers = ap (λ (a : Answer). a.used) e ∙ sym (eqb-true _ _ r.0) in
    let n = f ∙ ap (λ k. take k came.numbers ++ replicate (room_in lent - k) 0) u ∙ ap (λ x. x ++ replicate (room_in lent - length must.numbers) 0) (lists-same _ _ s.1) in
    (e, ap (result_of lent) n ∙ result-zeros lent (room_in lent - length must.numbers) must.numbers (omega (arith, leb-true (length must.numbers) (room_in lent) s.0)))

-- ## The rows

times : (pattern block : List ℕ) → (input_answer pattern block).code ≡ 0 → TimesNeverFall (block_in block)
times pattern block z = times-never-fall block (input-in-order pattern block z).ordered

row-says : (x : Row) → agrees x ≡ true → Says x
unfolding agrees
row-says (asks pattern block limit lent_work lent_result f s m) h =
    let p = pattern_in pattern in
    let B = block_in block in
    let room = room_in lent_result in
    let h1 = both {a = eqb (input_answer pattern block).code 0} h in
    let h2 = both {a = limit_in_order limit lent_work} h1.1 in
    let h3 = both {a = same_outcome room (forward p B limit room) f} h2.1 in
    let h4 = both {a = same_outcome room (start_answer p B room) s} h3.1 in
    let good = eqb-true _ _ h1.0 in
    let mono = times pattern block good in
    let f-is = forward-is p B mono limit room in
    let s-is = start-answer-is p B mono room in
    let f-same = outcome-same lent_result (forward p B limit room) f h3.0 (filled-forward p B room _ limit f-is) in
    let s-same = outcome-same lent_result (start_answer p B room) s h4.0 (filled-start p B room _ s-is) in (
      subst (λ a. ForwardCall pattern block limit lent_work lent_result a (zeros lent_work) (result_of lent_result f.numbers)) f-same.0
          (ForwardCall.answered good (limit-in-order limit lent_work h2.0) (forward p B limit room).numbers f-is refl (sym f-same.1)),
      subst (λ a. StartByStartCall pattern block lent_result a (result_of lent_result s.numbers)) s-same.0
          (StartByStartCall.answered good (start_answer p B room).numbers s-is (sym s-same.1)),
      MeasureCall.answered good (subst (Measure p B) (answers-same (measure_answer p B) m h4.1) (measure-answer-is p B mono)),
    )
row-says (reports pattern block l) h =
    let p = pattern_in pattern in
    let B = block_in block in
    let h1 = both {a = eqb (input_answer pattern block).code 0} h in
    let mono = times pattern block (eqb-true _ _ h1.0) in
    subst (Report p B (length B)) (lines_same (report p B) l h1.1) ((report-written p B mono (length B) (report p B)).0 (report-is p B mono))
row-says (lists pattern lent answer l) h =
    let p = pattern_of pattern in
    let h1 = both {a = eqb (pattern_answer pattern).code 0} h in
    let h2 = both {a = leb p.n most_variables} h1.1 in
    let h3 = both {a = leb p.c most_conditions} h2.1 in
    let h4 = both {a = same_list (steps p) l} h3.1 in
    let h5 = both {a = leb (length l) (step_room lent)} h4.1 in
    ListingPromise.listed (eqb-true _ _ h1.0) l
    (subst (IsListing p) (lists-same (steps p) l h4.0) (steps-is p (leb-true _ _ h2.0) (leb-true _ _ h3.0)))
    (leb-true _ _ h5.0)
    (sym (answers-same (steps_listed (length l)) answer h5.1))
    refl

pub rows : (x : Row) → Memᴰ x table → Says x
rows x m = row-says x (all-mem agrees m table_agrees)

-- what the row of the search says
pub search-row : Says no_fetch
search-row = row-says no_fetch no_fetch_agrees
