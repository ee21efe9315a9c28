-- What the two passes and measure promise: refusals and answers by the reading rule, over a checked pattern
-- and its block.
use Rattle.std.specs.Prelude.{◌≡◌, ◌⊎◌, ℕ, zero, suc, ◌-◌, ◌≤◌, ◌<◌, min, length, replicate}
use mathlib.Core.List.{List, [], ◌∷◌, ◌++◌, Memᴰ}
use Rattle.records.specs.declared.Answer.{Answer}
use Rattle.records.specs.Blocks.{refused}
use Rattle.patterns.specs.declared.Pattern.{Pattern}
use Rattle.rule.specs.Rule.{Block, Binding, Reading, Line, last_of, PartialReading, LiveAfter, Report, pack}

-- ## Counts and refusals

-- Rule 7.5: no reading is there twice
abbrev pub Distinct : List Reading → Type 0
Distinct [] = Unit {0}
Distinct (r ∷ l) = (¬ Memᴰ r l) × Distinct l

-- Rule 7.5: n readings are live after record j
pub record LiveCount (p : Pattern) (B : Block) (j n : ℕ) : Type 0 where
  pub readings : List Reading
  pub distinct : Distinct readings
  pub sound : (r : Reading) → Memᴰ r readings → LiveAfter p B r j
  pub complete : (r : Reading) → LiveAfter p B r j → Memᴰ r readings
  pub size : length readings ≡ n

-- Rule 7.5: n is the greatest number of readings that are live after a record; 0 where there is no record
pub record IsPeak (p : Pattern) (B : Block) (n : ℕ) : Type 0 where
  pub most : (j m : ℕ) → j < length B → LiveCount p B j m → m ≤ n
  pub reached : (n ≡ 0) ⊎ ((j : ℕ) × (j < length B) × LiveCount p B j n)

-- Rule 8.9
abbrev pub most_bindings : ℕ
most_bindings = 32

-- Rule 8.9: at record j
pub record TooLong (p : Pattern) (B : Block) (j : ℕ) : Type 0 where
  pub reading : Reading
  pub reads : PartialReading p B reading
  pub ends : last_of reading ≡ j
  pub long : length reading ≡ suc most_bindings

-- Rule 8.13: by the binding to record j
pub record Twice (p : Pattern) (B : Block) (j : ℕ) : Type 0 where
  pub last : Binding
  pub before : Reading
  pub reads : PartialReading p B (last ∷ before)
  pub ends : last.at ≡ j
  pub other : Binding
  pub bound : Memᴰ other before
  pub same : other.at ≡ j

-- Rule 8.10: after record j
pub record TooMany (p : Pattern) (B : Block) (L j : ℕ) : Type 0 where
  pub number : ℕ
  pub count : LiveCount p B j number
  pub more : L < number

-- Rule 8.11: for what has closed at record J or before
pub record NoRoom (p : Pattern) (B : Block) (room J : ℕ) : Type 0 where
  pub lines : List Line
  pub report : Report p B J lines
  pub more : room < length (pack lines)

-- Rule 8.15: the causes for a refusal at record j, in their order
abbrev pub Meets : Pattern → Block → ℕ → ℕ → ℕ → ℕ → Type 0
Meets p B L room j zero = NoRoom p B room j
Meets p B L room j (suc zero) = TooLong p B j
Meets p B L room j (suc (suc zero)) = Twice p B j
Meets p B L room j (suc (suc (suc zero))) = TooMany p B L j
Meets p B L room j (suc (suc (suc (suc n)))) = ⊥

-- ## What the passes answer, and the numbers of the lent result after them

-- Rule 7.2: an answer, and the numbers of the lent result after the call
pub record Outcome : Type 0 where
  pub answer : Answer
  pub numbers : List ℕ

-- Rule 7.2: a refusal, with a result of so many numbers
abbrev pub refused_with : ℕ → ℕ → ℕ → Outcome
refused_with room code place = record { answer = refused code place; numbers = replicate room 0 }

-- Rule 8.15: what each cause is refused with
abbrev pub refusal : ℕ → ℕ → ℕ → Outcome
refusal room j zero = refused_with room 11 0
refusal room j (suc zero) = refused_with room 9 j
refusal room j (suc (suc zero)) = refused_with room 13 j
refusal room j (suc (suc (suc n))) = refused_with room 10 j

-- Rule 7.2
abbrev pub success : ℕ → List Line → ℕ → Outcome
success room l peak =
    record {
      answer = record { code = 0; place = 0; used = length (pack l); readings = length l; peak = peak };
      numbers = pack l ++ replicate (room - length (pack l)) 0;
    }

-- Rules 7.5, 8.15: the earliest cause decides
pub data Forward (p : Pattern) (B : Block) (L room : ℕ) (a : Outcome) : Type 0 where
  refuses :
      (j t : ℕ) → j ≤ length B → Meets p B L room j t
      → ((i u : ℕ) → (i < j) ⊎ ((i ≡ j) × (u < t)) → ¬ Meets p B L room i u)
      → a ≡ refusal room j t
      → Forward p B L room a
  succeeds :
      (l : List Line) (peak : ℕ) → ((i u : ℕ) → i ≤ length B → ¬ Meets p B L room i u)
      → Report p B (length B) l
      → IsPeak p B peak
      → a ≡ success room l peak
      → Forward p B L room a

-- Rules 7.6, 8.16: each cause is looked for in the whole block
pub data StartByStart (p : Pattern) (B : Block) (room : ℕ) (a : Outcome) : Type 0 where
  long :
      (j : ℕ) → TooLong p B j → ((i : ℕ) → i < j → ¬ TooLong p B i)
      → a ≡ refused_with room 9 j
      → StartByStart p B room a
  twice :
      (j : ℕ) → ((i : ℕ) → ¬ TooLong p B i) → Twice p B j → ((i : ℕ) → i < j → ¬ Twice p B i)
      → a ≡ refused_with room 13 j
      → StartByStart p B room a
  full_up :
      ((i : ℕ) → ¬ TooLong p B i) → ((i : ℕ) → ¬ Twice p B i) → NoRoom p B room (length B)
      → a ≡ refused_with room 11 0
      → StartByStart p B room a
  done :
      (l : List Line) → ((i : ℕ) → ¬ TooLong p B i) → ((i : ℕ) → ¬ Twice p B i)
      → Report p B (length B) l
      → length (pack l) ≤ room
      → a ≡ success room l 0
      → StartByStart p B room a

-- Rule 7.7
abbrev pub most_counted : ℕ
most_counted = 4294967295

-- Rule 7.7: the answer of a success
abbrev pub measured : List Line → Answer
measured l =
    record {
      code = 0;
      place = 0;
      used = min (length (pack l)) most_counted;
      readings = min (length l) most_counted;
      peak = 0;
    }

-- Rules 7.7, 8.16
pub data Measure (p : Pattern) (B : Block) (a : Answer) : Type 0 where
  long : (j : ℕ) → TooLong p B j → ((i : ℕ) → i < j → ¬ TooLong p B i) → a ≡ refused 9 j → Measure p B a
  twice :
      (j : ℕ) → ((i : ℕ) → ¬ TooLong p B i) → Twice p B j → ((i : ℕ) → i < j → ¬ Twice p B i)
      → a ≡ refused 13 j
      → Measure p B a
  done :
      (l : List Line) → ((i : ℕ) → ¬ TooLong p B i) → ((i : ℕ) → ¬ Twice p B i)
      → Report p B (length B) l
      → a ≡ measured l
      → Measure p B a
