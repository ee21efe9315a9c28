-- What the start-by-start pass and measure answer by what they find meets their promises; and two answers that meet one
-- of these promises are one. Assumes nothing.
use mathlib.Core.Path.{◌≡◌, sym, ap, ◌∙◌}
use mathlib.Core.List.{List}
use Prim.Native.Nat.{ℕ, ◌≤◌, ◌<◌}
use native.Mathlib.Omega.{arith}
use native.Mathlib.Decide.{dec_lt}
use lib.ListN.{length}
use borrow.Author.Tests.{lt-ltb, le-ltb}
use Rattle.records.specs.declared.Answer.{Answer}
use Rattle.records.specs.Blocks.{refused}
use Rattle.numbers.proofs.Cases.{by_order}
use Rattle.patterns.specs.declared.Pattern.{Pattern}
use Rattle.rule.specs.Rule.{Block, Line, Report, TimesNeverFall, pack}
use Rattle.rule.specs.Promises.{Outcome, StartByStart, Measure, TooLong, refused_with, success, measured}
use Rattle.rule.specs.Starts.{found_all, lines_of, least_over, start_answer, measure_answer}
use Rattle.rule.proofs.EveryReading.{never-twice}
use Rattle.rule.proofs.OneReport.{one-report}
use Rattle.rule.proofs.Written.{report-written}
use Rattle.rule.proofs.FoundReport.{NoneOver, lines-report}
use Rattle.rule.proofs.FoundTooLong.{over-long, least-long, none_below, none-long, least-found, least-missing}

-- ## One answer of the start-by-start pass

pub least : {P : ℕ → Type 0} (i j : ℕ) → P i → P j → ((k : ℕ) → k < i → ¬ P k) → ((k : ℕ) → k < j → ¬ P k) → i ≡ j
least i j a b f g = go (dec_lt i j) (dec_lt j i)
  where
    go : Dec (i < j) → Dec (j < i) → i ≡ j
    go (yes l) d = absurd (g i l a)
    go (no l) (yes d) = absurd (f j d b)
    go (no l) (no d) = omega arith

module _ (p : Pattern) (B : Block) (room : ℕ) where
  pub one-start : (a b : Outcome) → StartByStart p B room a → StartByStart p B room b → a ≡ b
  one-start a b (StartByStart.long j t f e) (StartByStart.long k u g d) = e ∙ ap (refused_with room 9) (least {P = TooLong p B} j k t u f g) ∙ sym d
  one-start a b (StartByStart.long j t f e) (StartByStart.twice k n u g d) = absurd (n j t)
  one-start a b (StartByStart.long j t f e) (StartByStart.full_up n m r d) = absurd (n j t)
  one-start a b (StartByStart.long j t f e) (StartByStart.done l n m r h d) = absurd (n j t)
  one-start a b (StartByStart.twice j n t f e) s = absurd (never-twice p B j t)
  one-start a b (StartByStart.full_up n m r e) (StartByStart.long k u g d) = absurd (n k u)
  one-start a b (StartByStart.full_up n m r e) (StartByStart.twice k n' u g d) = absurd (never-twice p B k u)
  one-start a b (StartByStart.full_up n m r e) (StartByStart.full_up n' m' r' d) = e ∙ sym d
  one-start a b (StartByStart.full_up n m r e) (StartByStart.done l n' m' r' h d) = absurd (omega (arith, r.more, ap (λ x. length (pack x)) (one-report p B (length B) r.lines l r.report r')))
  one-start a b (StartByStart.done l n m r h e) (StartByStart.long k u g d) = absurd (n k u)
  one-start a b (StartByStart.done l n m r h e) (StartByStart.twice k n' u g d) = absurd (never-twice p B k u)
  one-start a b (StartByStart.done l n m r h e) (StartByStart.full_up n' m' r' d) = absurd (omega (arith, r'.more, ap (λ x. length (pack x)) (one-report p B (length B) r'.lines l r'.report r)))
  one-start a b (StartByStart.done l n m r h e) (StartByStart.done l' n' m' r' h' d) = e ∙ ap (λ x. success room x 0) (one-report p B (length B) l l' r r') ∙ sym d

-- ## What is answered by what is found

module _ (p : Pattern) (B : Block) (mono : TimesNeverFall B) where
  -- the least record at which a reading would take a binding too many, and what is reported
  abbrev place : ℕ
  place = least_over (length B) (found_all p B)

  abbrev told : List Line
  told = lines_of (found_all p B)

  none_over : length B ≤ place → NoneOver (found_all p B)
  none_over h j m = none-long p B mono h j (over-long p B j m)

  reported : length B ≤ place → Report p B (length B) told
  reported h = (report-written p B mono (length B) told).0 (lines-report p B (none_over h))

  module _ (room : ℕ) where
    answer-long : place < length B → start_answer p B room ≡ refused_with room 9 place
    unfolding start_answer
    answer-long h = rw (lt-ltb place (length B) h, start_answer)

    answer-full : length B ≤ place → room < length (pack told) → start_answer p B room ≡ refused_with room 11 0
    unfolding start_answer
    answer-full h g = rw (le-ltb place (length B) h, lt-ltb room (length (pack told)) g, start_answer)

    answer-done : length B ≤ place → length (pack told) ≤ room → start_answer p B room ≡ success room told 0
    unfolding start_answer
    answer-done h g = rw (le-ltb place (length B) h, le-ltb room (length (pack told)) g, start_answer)

    pub start-answer-is : StartByStart p B room (start_answer p B room)
    start-answer-is =
        by_order place (length B)
        (λ h. StartByStart.long place (least-long p B mono h) (none_below p B mono) (answer-long h))
        (λ h.
        by_order room (length (pack told))
        (λ g. StartByStart.full_up (none-long p B mono h) (never-twice p B) (record { lines = told; report = reported h; more = g }) (answer-full h g))
        (λ g. StartByStart.done told (none-long p B mono h) (never-twice p B) (reported h) g (answer-done h g)))

  -- ## Measure

  measure-long : place < length B → measure_answer p B ≡ refused 9 place
  unfolding measure_answer
  measure-long h = rw (lt-ltb place (length B) h, measure_answer)

  measure-done : length B ≤ place → measure_answer p B ≡ measured told
  unfolding measure_answer
  measure-done h = rw (le-ltb place (length B) h, measure_answer)

  pub measure-answer-is : Measure p B (measure_answer p B)
  measure-answer-is =
      by_order place (length B)
      (λ h. Measure.long place (least-long p B mono h) (none_below p B mono) (measure-long h))
      (λ h. Measure.done told (none-long p B mono h) (never-twice p B) (reported h) (measure-done h))

  pub one-measure : (a b : Answer) → Measure p B a → Measure p B b → a ≡ b
  one-measure a b (Measure.long j t f e) (Measure.long k u g d) = e ∙ ap (refused 9) (least {P = TooLong p B} j k t u f g) ∙ sym d
  one-measure a b (Measure.long j t f e) (Measure.twice k n u g d) = absurd (n j t)
  one-measure a b (Measure.long j t f e) (Measure.done l n m r d) = absurd (n j t)
  one-measure a b (Measure.twice j n t f e) s = absurd (never-twice p B j t)
  one-measure a b (Measure.done l n m r e) (Measure.long k u g d) = absurd (n k u)
  one-measure a b (Measure.done l n m r e) (Measure.twice k n' u g d) = absurd (never-twice p B k u)
  one-measure a b (Measure.done l n m r e) (Measure.done l' n' m' r' d) = e ∙ ap measured (one-report p B (length B) l l' r r') ∙ sym d

  -- ## The ways out of a pass that keeps the least record so far, where any number that no record has stands for none

  module _ (none : ℕ) (beyond : length B ≤ none) where
    pub ends-long :
        (room : ℕ) → least_over none (found_all p B) < none
        → start_answer p B room ≡ refused_with room 9 (least_over none (found_all p B))
    ends-long room h = let q = least-found p B mono none beyond h in answer-long room (omega (arith, q.0, q.1)) ∙ ap (refused_with room 9) q.0

    pub ends-full :
        (room : ℕ) → none ≤ least_over none (found_all p B) → room < length (pack told)
        → start_answer p B room ≡ refused_with room 11 0
    ends-full room h g = answer-full room (least-missing p B mono none beyond h) g

    pub ends-well :
        (room : ℕ) → none ≤ least_over none (found_all p B) → length (pack told) ≤ room
        → start_answer p B room ≡ success room told 0
    ends-well room h g = answer-done room (least-missing p B mono none beyond h) g

    pub measure-ends-long :
        least_over none (found_all p B) < none → measure_answer p B ≡ refused 9 (least_over none (found_all p B))
    measure-ends-long h = let q = least-found p B mono none beyond h in measure-long (omega (arith, q.0, q.1)) ∙ ap (refused 9) q.0

    pub measure-ends-well : none ≤ least_over none (found_all p B) → measure_answer p B ≡ measured told
    measure-ends-well h = measure-done (least-missing p B mono none beyond h)
