-- The states that readings can be in, listed, each with the variables that leave it and the states that they lead to.
-- No promise of a public call names this file.
use Rattle.std.specs.Prelude.{◌≡◌, Bool, true, false, not, ◌&&◌, List, ℕ, suc, ◌+◌, ◌-◌, ◌*◌, ◌^◌, ◌≤◌, ◌<◌, eqb, ltb, length, get_or, Option, None, IfSome}
use Rattle.std.specs.Int.Bits.{bit_or}
use Rattle.numbers.specs.Bits.{bit, mask, disjoint}
use Rattle.patterns.specs.Patterns.{most_variables}
use Rattle.plans.specs.Plan.{marks_in}
use Rattle.firing.specs.Firing.{leaves_by}
use Rattle.reach.specs.Readings.{leaving_by}

-- how many states a list has room for
abbrev pub most_states : ℕ
most_states = 128

-- where the link of a state by a variable stands, by the state's place in the list
abbrev pub link_at : ℕ → ℕ → ℕ
link_at at v = at * most_variables + v

abbrev pub most_links : ℕ
most_links = link_at most_states 0

-- ## Fresh states

-- v leaves a state without the order mark
unfoldable pub is_calm : List ℕ → ℕ → ℕ → Bool
is_calm plan state v = leaves_by plan state v && not (disjoint state (marks_in plan v))

-- the variables that do
unfoldable pub calm_by : List ℕ → ℕ → ℕ → ℕ
calm_by plan n state = mask (is_calm plan state) n

-- what is added to a state whose latest binding is of the cycle at hand
abbrev pub fresh_mark : ℕ
fresh_mark = 2 ^ most_variables

-- the number that stands for such a state: where no variable leaves by the order mark it makes no difference
unfoldable pub fresh_of : List ℕ → ℕ → ℕ → ℕ
fresh_of plan n state =
    elim (eqb (calm_by plan n state) (leaving_by plan n state)) [ true ↦ state | false ↦ fresh_mark + state ]

-- the number that stands for a state, fresh or not
unfoldable pub shown : List ℕ → ℕ → Bool → ℕ → ℕ
shown plan n fresh state = elim fresh [ true ↦ fresh_of plan n state | false ↦ state ]

-- the state that a number stands for
unfoldable pub state_of : ℕ → ℕ
state_of x = elim (ltb x fresh_mark) [ true ↦ x | false ↦ x - fresh_mark ]

-- the variables that leave it
unfoldable pub leaves_from : List ℕ → ℕ → ℕ → ℕ
leaves_from plan n x = elim (ltb x fresh_mark) [ true ↦ leaving_by plan n x | false ↦ calm_by plan n (x - fresh_mark) ]

-- the number at a place is a state, or a fresh one that stands right behind its state
pub data Stands (states : List ℕ) (i : ℕ) : Type 0 where
  plain : get_or states i 0 < fresh_mark → Stands states i
  twin :
      (b : ℕ) → i ≡ suc b → get_or states b 0 < fresh_mark → get_or states i 0 ≡ fresh_mark + get_or states b 0
      → Stands states i

-- ## The list

-- a state has a place in a list of so many states, and the list has it now; none where there is no room
pub record Put (old : List ℕ) (count state : ℕ) (new : List ℕ) (place : Option ℕ) : Type 0 where
  pub size : length new ≡ most_states
  pub kept : (i : ℕ) → i < count → get_or new i 0 ≡ get_or old i 0
  pub full : place ≡ None → most_states ≤ count
  pub here : IfSome place (λ at. (at < most_states) × (at ≤ count) × (get_or new at 0 ≡ state))

-- the same of a state that is fresh, with its state right before it
pub record PutFresh (plan : List ℕ) (n : ℕ) (old : List ℕ) (count state : ℕ) (new : List ℕ) (place : Option ℕ) : Type 0
  where
    pub size : length new ≡ most_states
    pub kept : (i : ℕ) → i < count → get_or new i 0 ≡ get_or old i 0
    pub here : IfSome place (λ at. (at < most_states) × (get_or new at 0 ≡ fresh_of plan n state))
    pub stands :
        IfSome place (λ at. ((i : ℕ) → i < count → Stands old i) → (i : ℕ) → i ≤ at → Stands new i)

-- the link by v of the state at a place leads to the state with v, fresh, which stands no earlier
pub record Leads (plan : List ℕ) (n : ℕ) (states links : List ℕ) (count at v : ℕ) : Type 0 where
  pub known : get_or links (link_at at v) 0 < count
  pub onward : at ≤ get_or links (link_at at v) 0
  pub is : get_or states (get_or links (link_at at v) 0) 0 ≡ fresh_of plan n (bit_or (state_of (get_or states at 0)) (2 ^ v))

-- the state at a place, of so many, is linked by each variable of `leave`; the list has now so many more
pub record Linked (plan : List ℕ) (n : ℕ) (states links : List ℕ) (count at leave : ℕ) (states' links' : List ℕ)
    (more : ℕ) : Type 0 where
  pub size : length states' ≡ most_states
  pub room : length links' ≡ most_links
  pub from : count ≤ more
  pub kept : (i : ℕ) → i < count → get_or states' i 0 ≡ get_or states i 0
  pub others : (place : ℕ) → place < link_at at 0 → get_or links' place 0 ≡ get_or links place 0
  pub stands : (i : ℕ) → i < more → Stands states' i
  pub leads : (v : ℕ) → bit leave v ≡ true → Leads plan n states' links' more at v

-- the first is the state of no bindings, and those before place `at` have the variables that leave them, and are linked
-- by each
pub record Listed (plan : List ℕ) (n : ℕ) (states leaves links : List ℕ) (count at : ℕ) : Type 0 where
  pub size : length states ≡ most_states
  pub wide : length leaves ≡ most_states
  pub room : length links ≡ most_links
  pub some : 0 < count
  pub few : count ≤ most_states
  pub first : get_or states 0 0 ≡ 0
  pub stands : (i : ℕ) → i < count → Stands states i
  pub leaving : (i : ℕ) → i < at → get_or leaves i 0 ≡ leaves_from plan n (get_or states i 0)
  pub leads : (i v : ℕ) → i < at → bit (get_or leaves i 0) v ≡ true → Leads plan n states links count i v

-- what a state leads to is in the list, and no earlier
pub record Inside (leaves links : List ℕ) (count : ℕ) : Type 0 where
  pub wide : length leaves ≡ most_states
  pub room : length links ≡ most_links
  pub few : count ≤ most_states
  pub known : (i v : ℕ) → i < count → bit (get_or leaves i 0) v ≡ true → get_or links (link_at i v) 0 < most_states
  pub onward : (i v : ℕ) → i < count → bit (get_or leaves i 0) v ≡ true → i ≤ get_or links (link_at i v) 0
