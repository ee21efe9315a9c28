-- The reading rule: which lists of bindings are readings, when they close, and what is reported.
-- A pattern is a checked one, a block a list of records, a reading a list of bindings, the LATEST first.
use Rattle.std.specs.Prelude.{◌≡◌, Bool, true, false, not, ◌&&◌, ◌||◌, ℕ, suc, ◌+◌, ◌-◌, ◌*◌, ◌^◌, ◌≤◌, ◌<◌, length, get_or, ltb, eqb}
use mathlib.Core.List.{List, [], ◌∷◌, ◌++◌, map, Memᴰ}
use Rattle.records.specs.declared.Record.{Record}
use Rattle.records.specs.Records.{event_kind, gap_kind}
use Rattle.patterns.specs.declared.Condition.{Condition}
use Rattle.patterns.specs.declared.Pattern.{Pattern}
use Rattle.patterns.specs.Checked.{set_of, is_group}
use Rattle.patterns.specs.Comparison.{holds}
use Rattle.automaton.specs.Filtering.{implies, all, filter}
use Rattle.automaton.specs.Automaton.{State, variables_of, conditions, leaves, marked, carries}

-- Rule 1.1
abbrev pub Block : Type 0
Block = List Record

-- Rule 5.1: a variable and the number of the record that it is bound to
pub record Binding : Type 0 where
  pub variable : ℕ
  pub at : ℕ

-- Rule 5.1
abbrev pub Reading : Type 0
Reading = List Binding

-- Rule 5.8: what stands behind the block's end is no event
abbrev pub behind_end : Record
behind_end = record { kind = gap_kind; core = 0; event_type = 0; time = 0; slot = 0; amount = 0; wave = 0 }

-- Rule 5.1: the record of a number
abbrev pub record_in : Block → ℕ → Record
record_in B i = get_or B i behind_end

-- Rule 1.3
abbrev pub Event : Block → ℕ → Type 0
Event B i = (record_in B i).kind ≡ event_kind

-- Rule 1.5
abbrev pub time_at : Block → ℕ → ℕ
time_at B i = (record_in B i).time

abbrev pub TimesNeverFall : Block → Type 0
TimesNeverFall B = (i j : ℕ) → i ≤ j → j < length B → time_at B i ≤ time_at B j

-- ## When a step fires

-- Rule 5.1: the state that a reading holds
unfoldable pub binds : Reading → State
binds [] v = false
binds (b ∷ bs) v = eqb b.variable v || binds bs v

-- Rule 5.3: the records that stand for u in turn, where record j is new for v
unfoldable pub choices : Reading → ℕ → ℕ → ℕ → List ℕ
choices r v j u =
    elim (eqb u v) [
      | true ↦ j ∷ []
      | false ↦ map (λ (b : Binding). b.at) (filter (λ (b : Binding). eqb b.variable u) r)
    ]

-- Rule 5.3: condition k, with record j new for v
unfoldable pub passes : Block → Reading → ℕ → ℕ → Condition → Bool
passes B r v j k =
    elim (eqb k.form 0) [
      | true ↦ holds k (record_in B j) (record_in B j)
      | false ↦ all
          (λ a. all (λ b. holds k (record_in B a) (record_in B b)) (choices r v j k.variable2))
          (choices r v j k.variable)
    ]

-- Rule 4.3: record j is late enough for the step on v
unfoldable pub in_order : Pattern → Block → Reading → ℕ → ℕ → Bool
in_order p B r v j =
    implies (marked p (binds r) v) (all (λ (b : Binding). ltb (time_at B b.at) (time_at B j)) r)

-- Rule 5.2: all conditions of the step on v pass at record j
unfoldable pub allowed : Pattern → Block → Reading → ℕ → ℕ → Bool
allowed p B r v j = all (λ k. implies (carries (binds r) v k) (passes B r v j k)) (conditions p)

-- Rule 5.2: the step on v fires at record j, after the reading r
unfoldable pub fires : Pattern → Block → Reading → ℕ → ℕ → Bool
fires p B r v j = leaves p (binds r) v && (in_order p B r v j && allowed p B r v j)

-- ## Readings

-- Rule 5.1: the record of the latest binding
abbrev pub last_of : Reading → ℕ
last_of [] = 0
last_of (b ∷ bs) = b.at

-- Rule 5.1: the record of the first binding
abbrev pub start_of : Reading → ℕ
start_of [] = 0
start_of (b ∷ []) = b.at
start_of (a ∷ b ∷ bs) = start_of (b ∷ bs)

-- Rule 5.6: record i is inside the window of the reading
abbrev pub InWindow : Pattern → Block → Reading → ℕ → Type 0
InWindow p B r i = time_at B i ≤ time_at B (start_of r) + p.duration

-- Rules 5.4, 5.5, 5.6: binding b may follow the bindings s that stand before it, none or more
pub record Follows (p : Pattern) (B : Block) (s : Reading) (b : Binding) : Type 0 where
  pub event : Event B b.at
  pub fire : fires p B s b.variable b.at ≡ true
  pub rising : ¬ (s ≡ []) → last_of s < b.at
  -- Rule 5.5: nothing that fires is passed over
  pub no_fire : ¬ (s ≡ []) → (i : ℕ) → last_of s < i → i < b.at → Event B i → (v : ℕ) → fires p B s v i ≡ false
  -- Rule 5.6
  pub window : ¬ (s ≡ []) → InWindow p B s b.at
  pub no_gap : ¬ (s ≡ []) → (i : ℕ) → last_of s < i → i < b.at → Event B i

-- Rule 5.4
pub record PartialReading (p : Pattern) (B : Block) (r : Reading) : Type 0 where
  pub one_or_more : ¬ (r ≡ [])
  pub each : (t : Reading) (b : Binding) (s : Reading) → r ≡ t ++ (b ∷ s) → Follows p B s b

-- Rules 5.5, 5.7: r is live after record j
pub record LiveAfter (p : Pattern) (B : Block) (r : Reading) (j : ℕ) : Type 0 where
  pub reads : PartialReading p B r
  pub up_to : last_of r ≤ j
  pub no_gap : (i : ℕ) → start_of r < i → i ≤ j → Event B i
  pub window : InWindow p B r j
  pub no_fire : (i : ℕ) → last_of r < i → i ≤ j → Event B i → (v : ℕ) → fires p B r v i ≡ false

-- Rule 5.9: the reading binds every variable
unfoldable pub is_full : Pattern → Reading → Bool
is_full p r = all (binds r) (variables_of p)

-- ## Closing and the report

-- Rule 5.8
abbrev pub past_mark : ℕ
past_mark = 1

-- Rule 5.8
abbrev pub end_mark : ℕ
end_mark = 2

-- Rule 5.8: of a gap, where the last set has a group variable
abbrev pub open_mark : ℕ
open_mark = 3

-- Rule 5.8: of a gap, where it has none
abbrev pub complete_mark : ℕ
complete_mark = 4

-- Rule 5.8: no variable of the last set, which is that of the last variable, is a group variable
unfoldable pub last_set_plain : Pattern → Bool
last_set_plain p = all (λ v. implies (eqb (set_of p v) (set_of p (p.n - 1))) (not (is_group p v))) (variables_of p)

-- Rule 5.8: the mark of what closes at a gap
unfoldable pub gap_mark : Pattern → ℕ
gap_mark p = elim (last_set_plain p) [ true ↦ complete_mark | false ↦ open_mark ]

-- Rule 5.8: what is live before record j closes there with mark m. The end of the block is record number length B.
pub data Closes (p : Pattern) (B : Block) (r : Reading) (j m : ℕ) : Type 0 where
  gap : j < length B → ¬ Event B j → m ≡ gap_mark p → Closes p B r j m
  past : Event B j → ¬ InWindow p B r j → m ≡ past_mark → Closes p B r j m
  end : j ≡ length B → m ≡ end_mark → Closes p B r j m

-- Rule 6.2: a reading with its mark
pub record Line : Type 0 where
  pub mark : ℕ
  pub reading : Reading

-- Rule 5.9: the line is reported, at record J or before
pub record IsReported (p : Pattern) (B : Block) (J : ℕ) (x : Line) : Type 0 where
  pub after : ℕ
  pub live : LiveAfter p B x.reading after
  pub closes : Closes p B x.reading (suc after) x.mark
  pub by : suc after ≤ J
  pub full : is_full p x.reading ≡ true

-- Rule 6.1
abbrev pub oldest_first : Reading → Reading
oldest_first [] = []
oldest_first (b ∷ bs) = oldest_first bs ++ (b ∷ [])

-- Rule 6.1: of two lists of bindings, the oldest first, the first has the smaller variable where they first differ
pub data Smaller : Reading → Reading → Type 0 where
  here : {a b : Binding} {l m : Reading} → a.variable < b.variable → Smaller (a ∷ l) (b ∷ m)
  there : {a b : Binding} {l m : Reading} → a ≡ b → Smaller l m → Smaller (a ∷ l) (b ∷ m)

-- Rule 6.1: r stands before s
pub data Before (r s : Reading) : Type 0 where
  sooner : start_of r < start_of s → Before r s
  smaller : start_of r ≡ start_of s → Smaller (oldest_first r) (oldest_first s) → Before r s

-- Rule 6.1: each line stands before all that follow it
abbrev pub Rising : List Line → Type 0
Rising [] = Unit {0}
Rising (x ∷ l) = ((y : Line) → Memᴰ y l → Before x.reading y.reading) × Rising l

-- Rule 6.2: the report of what has closed at record J or before. Of the whole block, J is length B.
pub record Report (p : Pattern) (B : Block) (J : ℕ) (l : List Line) : Type 0 where
  pub rising : Rising l
  pub sound : (x : Line) → Memᴰ x l → IsReported p B J x
  pub complete : (x : Line) → IsReported p B J x → Memᴰ x l

-- ## Packed numbers

-- Rule 6.3: 4 bits, then 12
abbrev pub packed : ℕ → ℕ → ℕ
packed high low = high * 2 ^ 12 + low

-- Rule 6.3: the numbers of a reading's bindings
abbrev pub pack_bindings : Reading → List ℕ
pack_bindings [] = []
pack_bindings (b ∷ bs) = pack_bindings bs ++ (packed b.variable b.at ∷ [])

-- Rule 6.3: the numbers of a report
abbrev pub pack : List Line → List ℕ
pack [] = []
pack (x ∷ l) = packed x.mark (length x.reading) ∷ (pack_bindings x.reading ++ pack l)
