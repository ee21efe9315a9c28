-- Reports fit the fields of a result, so what a call leaves in the result gives its report back, and different reports
-- leave different results. Assumes nothing.
use mathlib.Core.Path.{◌≡◌, refl, sym, ap, ap₂, ◌∙◌}
use mathlib.Core.List.{List, [], ◌∷◌, ◌++◌, nil≢cons, cons≢nil, head-eq_of_cons-eq, tail-eq_of_cons-eq, Memᴰ}
use Prim.Native.Nat.{ℕ, ◌+◌, ◌-◌, ◌*◌, ◌^◌, ◌≤◌, ◌<◌}
use native.Mathlib.Omega.{arith}
use lib.ListN.{length, replicate, length-append, length-replicate}
use Rattle.numbers.specs.Numbers.{bytes_of}
use Rattle.numbers.proofs.Cases.{by_order}
use Rattle.records.specs.declared.Answer.{Answer}
use Rattle.records.specs.Blocks.{most_records}
use Rattle.patterns.specs.declared.Pattern.{Pattern}
use Rattle.patterns.specs.Checked.{InOrder}
use Rattle.rule.specs.Rule.{Block, Reading, Line, Report, Closes, TimesNeverFall, pack}
use Rattle.rule.specs.Promises.{most_bindings, TooLong}
use Rattle.rule.specs.Calls.{pattern_in, block_in, room_in, result_of}
use Rattle.rule.specs.Unpack.{unpack}
use Rattle.rule.proofs.Packing.{append-split, LineFits, AllFit, Marked, unpack-pack, padded-apart, pack-below}
use Rattle.rule.proofs.EveryReading.{variable-in}
use Rattle.rule.proofs.ReadingBounds.{bound-in, long-long}
use Rattle.rule.proofs.Written.{written-reported}
use Rattle.rule.proofs.GapMarks.{gap-mark-range}
use Rattle.rule.proofs.Inputs.{InputsInOrder, input-in-order, times-never-fall, few-records}
use Rattle.rule.proofs.Lent.{length-bytes}
use Rattle.rule.proofs.Accepted.{CallTold}

-- ## Reports

-- a checked pattern, and a block of no more than the most records whose times never fall
pub record CheckedInputs (p : Pattern) (B : Block) : Type 0 where
  pub pattern : InOrder p
  pub few : length B ≤ most_records
  pub times : TimesNeverFall B

pub checked-input :
    (pattern block : List ℕ) → InputsInOrder pattern block → CheckedInputs (pattern_in pattern) (block_in block)
checked-input pattern block h = record { pattern = h.checked; few = few-records block h.ordered; times = times-never-fall block h.ordered }

-- a mark is 1, 2, 3 or 4
mark-range : (p : Pattern) (B : Block) (r : Reading) (j m : ℕ) → Closes p B r j m → (1 ≤ m) × (m < 16)
mark-range p B r j m (Closes.gap a b e) = let q = gap-mark-range p in omega arith
mark-range p B r j m (Closes.past a b e) = omega arith
mark-range p B r j m (Closes.end a e) = omega arith

module _ (p : Pattern) (B : Block) (checked : CheckedInputs p B) (short : (i : ℕ) → ¬ TooLong p B i) (J : ℕ)
    (l : List Line) (report : Report p B J l) where
  -- no reading with a binding too many: every line has room for its fields, and its mark is not 0
  line-fits : (x : Line) → Memᴰ x l → LineFits x × (1 ≤ x.mark)
  line-fits x m =
      let q = written-reported p B checked.times J x (report.sound x m) in
      let h = q.live.reads in
      let mark = mark-range p B x.reading q.at x.mark q.closes in (
        record {
          mark = mark.1;
          count = by_order most_bindings (length x.reading) (λ n. let t = long-long p B x.reading h n in absurd (short t.0 t.1)) (λ n. n);
          bindings = λ b i. record { variable = omega (arith, variable-in p B x.reading h i, checked.pattern.few); record-number = omega (arith, bound-in p B x.reading h b i, checked.few) };
        },
        mark.0,
      )

  pub report-fits : AllFit l
  report-fits x m = (line-fits x m).0

  pub report-marked : Marked l
  report-marked x m = (line-fits x m).1

  -- 16-bit numbers
  pub report-below : (number : ℕ) → Memᴰ number (pack l) → number < 2 ^ 16
  report-below number m = pack-below l report-fits number m

  -- the packed numbers give the report back
  pub report-back : (spare : ℕ) → unpack (pack l ++ replicate spare 0) ≡ l
  report-back spare = unpack-pack l spare report-fits report-marked

-- of any patterns and blocks, different reports have different numbers
pub reports-apart : (p q : Pattern) (B C : Block) → CheckedInputs p B → CheckedInputs q C → ((i : ℕ) → ¬ TooLong p B i)
    → ((i : ℕ) → ¬ TooLong q C i)
    → (J K : ℕ) (l m : List Line) → Report p B J l → Report q C K m → (spare other : ℕ)
    → pack l ++ replicate spare 0 ≡ pack m ++ replicate other 0 → l ≡ m
reports-apart p q B C b c n o J K l m h g spare other e =
    padded-apart l m spare other (report-fits p B b n J l h) (report-marked p B b n J l h) (report-fits q C c o K m g) (report-marked q C c o K m g) e

-- ## Results

bytes_apart : (l m : List ℕ) → bytes_of l ≡ bytes_of m → l ≡ m
unfolding bytes_of
bytes_apart [] [] e = refl
bytes_apart [] (y ∷ m) e = absurd (nil≢cons e)
bytes_apart (x ∷ l) [] e = absurd (cons≢nil e)
bytes_apart (x ∷ l) (y ∷ m) e =
    let high = head-eq_of_cons-eq e in
    let low = head-eq_of_cons-eq (tail-eq_of_cons-eq e) in
    let number : x ≡ y = omega arith in
    ap₂ ◌∷◌ number (bytes_apart l m (tail-eq_of_cons-eq (tail-eq_of_cons-eq e)))

result-apart : (lent : ℕ) (l m : List ℕ) → length l ≡ length m → result_of lent l ≡ result_of lent m → l ≡ m
result-apart lent l m n e =
    bytes_apart l m (append-split (bytes_of l) (bytes_of m) _ _ (length-bytes l ∙ ap (λ k. 2 * k) n ∙ sym (length-bytes m)) e).0

module _ (pattern block : List ℕ) (lent : ℕ) (answer : Answer) (result : List ℕ) where
  told-length : (told : CallTold pattern block lent answer result) → length told.numbers ≡ room_in lent
  told-length c =
      let t = c.told in
      ap length t.numbers ∙ length-append (pack t.lines) (replicate (room_in lent - length (pack t.lines)) 0)
      ∙ ap (λ k. length (pack t.lines) + k) (length-replicate (room_in lent - length (pack t.lines)) 0)
      ∙ omega (arith, t.fits)

  -- what a call that accepts leaves in the result gives its report back
  pub result-back : (told : CallTold pattern block lent answer result) → unpack told.numbers ≡ told.told.lines
  result-back c =
      let t = c.told in
      ap unpack t.numbers
      ∙ report-back (pattern_in pattern) (block_in block) (checked-input pattern block (input-in-order pattern block c.accepted)) t.short (length (block_in block)) t.lines t.report (room_in lent - length (pack t.lines))

-- two calls that accept and leave the same bytes have the same report, whatever their patterns and blocks
pub results-apart : (pattern block pattern' block' : List ℕ) (lent : ℕ) (a b : Answer) (result : List ℕ)
    (c : CallTold pattern block lent a result) (d : CallTold pattern' block' lent b result)
    → c.told.lines ≡ d.told.lines
results-apart pattern block pattern' block' lent a b result c d =
    let e = result-apart lent c.numbers d.numbers (told-length pattern block lent a result c ∙ sym (told-length pattern' block' lent b result d)) (sym c.bytes ∙ d.bytes) in
    sym (result-back pattern block lent a result c) ∙ ap unpack e ∙ result-back pattern' block' lent b result d
