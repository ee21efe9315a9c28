-- What the live readings become at one record, on readings held beside their states. The plan, the block's bytes and
-- the mask of the variables whose own conditions hold stand for the pattern and the block.
use Rattle.std.specs.Prelude.{Bool, true, false, ◌&&◌, List, [], ◌++◌, map, ℕ, eqb, ltb, length}
use Rattle.numbers.specs.Numbers.{upto}
use Rattle.numbers.specs.Bits.{bit}
use Rattle.records.specs.Records.{event_kind, record_at}
use Rattle.patterns.specs.Patterns.{most_variables}
use Rattle.automaton.specs.Filtering.{keep, filter, collect}
use Rattle.rule.specs.Promises.{most_bindings}
use Rattle.rule.specs.Computed.{or_else, any}
use Rattle.slots.specs.Slots.{Held, grow}
use Rattle.firing.specs.Firing.{can_by, leaves_by, agrees_by, fires_by}

-- the reading with v bound to record i, where v leaves its state and the reading agrees
unfoldable pub one_by : List ℕ → List ℕ → ℕ → ℕ → Held → List Held
one_by plan bytes i v h = keep (leaves_by plan h.state v && agrees_by plan bytes i v h) (grow i v h) []

-- what a reading becomes by the steps on the variables of `can` that fire at record i
unfoldable pub fired_by : List ℕ → List ℕ → ℕ → ℕ → Held → List Held
fired_by plan bytes i can h =
    map (λ v. grow i v h) (filter (λ v. fires_by plan bytes i can v h) (upto 0 most_variables))

-- its extensions, or itself where there are none
unfoldable pub extend_by : List ℕ → List ℕ → ℕ → ℕ → Held → List Held
extend_by plan bytes i can h = or_else h (fired_by plan bytes i can h)

-- no bindings
unfoldable pub unbound : Held
unbound = record { state = 0; bindings = [] }

-- what live readings become, then those that begin
unfoldable pub step_by : List ℕ → List ℕ → ℕ → ℕ → List Held → List Held
step_by plan bytes i can l = collect (extend_by plan bytes i can) l ++ fired_by plan bytes i can unbound

-- v bound to record i alone, where v leaves the state in which nothing is bound
unfoldable pub first_by : List ℕ → ℕ → ℕ → List Held
first_by plan i v = keep (leaves_by plan 0 v) (grow i v unbound) []

-- the readings that begin at record i with the variables of `can`: a reading without bindings agrees
unfoldable pub begun_by : List ℕ → ℕ → ℕ → List Held
begun_by plan i can =
    map (λ v. grow i v unbound) (filter (λ v. bit can v && leaves_by plan 0 v) (upto 0 most_variables))

-- a binding too many
unfoldable pub is_long : Held → Bool
is_long h = ltb most_bindings (length h.bindings)

unfoldable pub long : List Held → Bool
long l = any is_long l

unfoldable pub is_event_by : List ℕ → ℕ → Bool
is_event_by bytes i = eqb (record_at bytes i).kind event_kind

-- the variables whose own conditions hold of record i, if it is an event
unfoldable pub can_at : List ℕ → ℕ → ℕ → List ℕ → ℕ → ℕ
can_at plan n c bytes i = elim (is_event_by bytes i) [ true ↦ can_by plan n c bytes i | false ↦ 0 ]
