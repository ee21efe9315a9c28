-- The readings of a block as lists that can be computed: the live readings after each record, what has closed, the
-- answer of the forward pass, and the listing start by start. No promise of a public call names this file.
use Rattle.std.specs.Prelude.{Bool, true, false, not, ◌&&◌, ◌||◌, List, [], ◌∷◌, ◌++◌, map, ℕ, zero, suc, ◌+◌, max, length, leb, ltb, eqb}
use Rattle.records.specs.Records.{event_kind}
use Rattle.patterns.specs.declared.Pattern.{Pattern}
use Rattle.automaton.specs.Filtering.{filter, collect}
use Rattle.automaton.specs.Automaton.{variables_of}
use Rattle.rule.specs.Rule.{Block, Reading, Line, record_in, time_at, start_of, last_of, fires, is_full, past_mark}
use Rattle.rule.specs.Rule.{end_mark, gap_mark, pack}
use Rattle.rule.specs.Promises.{Outcome, most_bindings, refusal, success}

unfoldable pub is_event : Block → ℕ → Bool
is_event B i = eqb (record_in B i).kind event_kind

unfoldable pub in_window : Pattern → Block → Reading → ℕ → Bool
in_window p B r i = leb (time_at B i) (time_at B (start_of r) + p.duration)

module _ {A : Type 0} where
  -- the list, where the flag says so
  unfoldable pub only : Bool → List A → List A
  only true l = l
  only false l = []

  -- the list, or a alone where it is empty
  unfoldable pub or_else : A → List A → List A
  or_else a [] = a ∷ []
  or_else a (b ∷ l) = b ∷ l

  -- some entry passes the test
  unfoldable pub any : (A → Bool) → List A → Bool
  any test [] = false
  any test (a ∷ l) = test a || any test l

-- ## Record by record

-- what a reading becomes by the steps that fire at record j
unfoldable pub fired : Pattern → Block → ℕ → Reading → List Reading
fired p B j r = map (λ v. record { variable = v; at = j } ∷ r) (filter (λ v. fires p B r v j) (variables_of p))

-- what a live reading becomes at event j
unfoldable pub extend : Pattern → Block → ℕ → Reading → List Reading
extend p B j r = only (in_window p B r j) (or_else r (fired p B j r))

-- what the live readings become at record j
unfoldable pub step : Pattern → Block → ℕ → List Reading → List Reading
step p B j l = only (is_event B j) (collect (extend p B j) l ++ fired p B j [])

-- the readings that are live once k records are read
unfoldable pub live : Pattern → Block → ℕ → List Reading
live p B zero = []
live p B (suc k) = step p B k (live p B k)

abbrev pub line : ℕ → Reading → Line
line m r = record { mark = m; reading = r }

unfoldable pub lines : Pattern → ℕ → List Reading → List Line
lines p m l = map (line m) (filter (is_full p) l)

-- what closes at record k, of the readings l that are live before it
unfoldable pub closing : Pattern → Block → ℕ → List Reading → List Line
closing p B k l =
    elim (is_event B k) [
      | true ↦ lines p past_mark (filter (λ r. not (in_window p B r k)) l)
      | false ↦ elim (ltb k (length B)) [ true ↦ lines p (gap_mark p) l | false ↦ lines p end_mark l ]
    ]

-- what closes at the first k records
unfoldable pub closed : Pattern → Block → ℕ → List Line
closed p B zero = []
closed p B (suc k) = closed p B k ++ closing p B k (live p B k)

-- the end counts as a record
unfoldable pub report : Pattern → Block → List Line
report p B = closed p B (suc (length B))

-- ## The answer of the forward pass

-- cause t of a refusal of the forward pass at record j, in the order of rule 8.15
unfoldable pub is_met : Pattern → Block → ℕ → ℕ → ℕ → ℕ → Bool
is_met p B L room j zero = ltb room (length (pack (closed p B (suc j))))
is_met p B L room j (suc zero) =
    any (λ (r : Reading). eqb (last_of r) j && eqb (length r) (suc most_bindings)) (live p B (suc j))
is_met p B L room j (suc (suc zero)) = false
is_met p B L room j (suc (suc (suc zero))) = ltb L (length (live p B (suc j)))
is_met p B L room j (suc (suc (suc (suc n)))) = false

-- the most readings live after any of the first k records
unfoldable pub peak : Pattern → Block → ℕ → ℕ
peak p B zero = 0
peak p B (suc k) = max (length (live p B (suc k))) (peak p B k)

-- the answer, where nothing is met before record j, with n records left
unfoldable pub scan : Pattern → Block → ℕ → ℕ → ℕ → ℕ → Outcome
scan p B L room j zero = success room (report p B) (peak p B (length B))
scan p B L room j (suc n) =
    elim (is_met p B L room j 0) [
      | true ↦ refusal room j 0
      | false ↦ elim (is_met p B L room j 1) [
        | true ↦ refusal room j 1
        | false ↦ elim (is_met p B L room j 3) [
          | true ↦ refusal room j 3
          | false ↦ scan p B L room (suc j) n
        ]
      ]
    ]

unfoldable pub forward : Pattern → Block → ℕ → ℕ → Outcome
forward p B L room = scan p B L room 0 (suc (length B))

-- ## Start by start

-- what is reported of the readings that go on from r, at record k, with n records left
unfoldable pub grow : Pattern → Block → ℕ → ℕ → Reading → List Line
grow p B zero k r = []
grow p B (suc n) k r = closing p B k (r ∷ []) ++ collect (grow p B n (suc k)) (only (is_event B k) (extend p B k r))

-- what is reported of the readings that begin at record k or after, with n records left
unfoldable pub begin : Pattern → Block → ℕ → ℕ → List Line
begin p B zero k = []
begin p B (suc n) k = collect (grow p B n (suc k)) (only (is_event B k) (fired p B k [])) ++ begin p B n (suc k)

unfoldable pub start_by_start : Pattern → Block → List Line
start_by_start p B = begin p B (suc (length B)) 0
