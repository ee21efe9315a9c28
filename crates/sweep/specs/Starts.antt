-- For each listed state and each count of bindings one more than the latest start of a reading that could have them, 0
-- where there is none: a list, state by state. What one record does to it. No promise of a public call names this file.
use Rattle.std.specs.Prelude.{◌≡◌, Bool, true, false, List, ◌⊎◌, ℕ, suc, ◌+◌, ◌*◌, ◌≤◌, ◌<◌, length, get_or, set}
use Rattle.std.specs.Int.Bits.{bit_and}
use Rattle.numbers.specs.Bits.{bit}
use Rattle.rule.specs.Promises.{most_bindings}
use Rattle.states.specs.States.{most_states, link_at, fresh_mark}

-- the places of a state: from no binding to as many as a reading can have
abbrev pub row_places : ℕ
row_places = most_bindings + 1

-- the place of a count of bindings and a state
abbrev pub place_of : ℕ → ℕ → ℕ
place_of k at = at * row_places + k

abbrev pub most_places : ℕ
most_places = place_of 0 most_states

-- ## One state

-- the starts of a state, those up to `low` as 0
pub record LateOnes (starts : List ℕ) (low at : ℕ) (own : List ℕ) : Type 0 where
  pub size : length own ≡ row_places
  pub late :
      (k : ℕ) → k ≤ most_bindings → low < get_or starts (place_of k at) 0 → get_or own k 0 ≡ get_or starts (place_of k at) 0
  pub out : (k : ℕ) → k ≤ most_bindings → get_or starts (place_of k at) 0 ≤ low → get_or own k 0 ≡ 0

-- a place is what it was, or with `tight` a place of the state that is cleared
pub data Cleared (old : List ℕ) (tight : Bool) (at : ℕ) (new : List ℕ) (place : ℕ) : Type 0 where
  remains : get_or new place 0 ≡ get_or old place 0 → Cleared old tight at new place
  cleared :
      (k : ℕ) → k ≤ most_bindings → place ≡ place_of k at → tight ≡ true → get_or new place 0 ≡ 0
      → Cleared old tight at new place

-- with `tight` the places of a state are cleared, up to `done`
pub record RowCleared (old : List ℕ) (tight : Bool) (at : ℕ) (new : List ℕ) (done : ℕ) : Type 0 where
  pub size : length new ≡ length old
  pub only : (place : ℕ) → Cleared old tight at new place
  pub gone : tight ≡ true → (k : ℕ) → k < done → get_or new (place_of k at) 0 ≡ 0

-- a place is what it was, or it has one of the starts, for one binding more in state `to`
pub data Grown (old own : List ℕ) (to : ℕ) (new : List ℕ) (place : ℕ) : Type 0 where
  same : get_or new place 0 ≡ get_or old place 0 → Grown old own to new place
  grew :
      (k : ℕ) → k < most_bindings → place ≡ place_of (suc k) to → get_or new place 0 ≡ get_or own k 0
      → Grown old own to new place

-- state `to` has each of the starts, up to `done`, for one binding more, where it had less
pub record RowRaised (old own : List ℕ) (to : ℕ) (new : List ℕ) (done : ℕ) : Type 0 where
  pub size : length new ≡ length old
  pub above : (place : ℕ) → get_or old place 0 ≤ get_or new place 0
  pub here : (k : ℕ) → k < done → get_or own k 0 ≤ get_or new (place_of (suc k) to) 0
  pub only : (place : ℕ) → Grown old own to new place

-- the same of each state that a state leads to by a variable of a mask
pub data Led (old links own : List ℕ) (at firing : ℕ) (new : List ℕ) (place : ℕ) : Type 0 where
  unled : get_or new place 0 ≡ get_or old place 0 → Led old links own at firing new place
  led :
      (v k : ℕ) → bit firing v ≡ true → k < most_bindings → place ≡ place_of (suc k) (get_or links (link_at at v) 0)
      → get_or new place 0 ≡ get_or own k 0
      → Led old links own at firing new place

pub record Spread (old links own : List ℕ) (at firing : ℕ) (new : List ℕ) : Type 0 where
  pub size : length new ≡ length old
  pub above : (place : ℕ) → get_or old place 0 ≤ get_or new place 0
  pub here :
      (v k : ℕ) → bit firing v ≡ true → k < most_bindings
      → get_or own k 0 ≤ get_or new (place_of (suc k) (get_or links (link_at at v) 0)) 0
  pub only : (place : ℕ) → Led old links own at firing new place

-- where no variable can fire and leave a state nothing moves; else the state leads on, and with `tight` it is left
pub data StateMoved (old leaves links : List ℕ) (can low : ℕ) (tight : Bool) (at : ℕ) (new : List ℕ) : Type 0 where
  idle :
      bit_and can (get_or leaves at 0) ≡ 0 → new ≡ old → StateMoved old leaves links can low tight at new
  active :
      (own mid : List ℕ) → 0 < bit_and can (get_or leaves at 0) → LateOnes old low at own
      → RowCleared old tight at mid row_places
      → Spread mid links own at (bit_and can (get_or leaves at 0)) new
      → StateMoved old leaves links can low tight at new

-- a reading of a state, of so many, that has as many bindings as it can, and that a variable leaves
pub record SomeOver (starts leaves : List ℕ) (count can low : ℕ) : Type 0 where
  pub at : ℕ
  pub known : at < count
  pub late : low < get_or starts (place_of most_bindings at) 0
  pub fires : 0 < bit_and can (get_or leaves at 0)

-- whether there is one
pub record IsOver (starts leaves : List ℕ) (count can low : ℕ) (is : Bool) : Type 0 where
  pub some : is ≡ true → SomeOver starts leaves count can low
  pub none :
      is ≡ false → (at : ℕ) → at < count → low < get_or starts (place_of most_bindings at) 0
      → bit_and can (get_or leaves at 0) ≡ 0

-- ## All states

-- where the start of a place is from: it stays, with `tight` in a state that no variable leaves, or a state leads there
-- with one binding less; starts up to `low` are out
pub data Came (old leaves links : List ℕ) (count can low : ℕ) (tight : Bool) (k at start : ℕ) : Type 0 where
  stayed :
      get_or old (place_of k at) 0 ≡ start → (tight ≡ true → at < count → bit_and can (get_or leaves at 0) ≡ 0)
      → Came old leaves links count can low tight k at start
  moved :
      (l from v : ℕ) → k ≡ suc l → from < count → low < get_or old (place_of l from) 0
      → get_or old (place_of l from) 0 ≡ start
      → bit (bit_and can (get_or leaves from 0)) v ≡ true
      → get_or links (link_at from v) 0 ≡ at
      → Came old leaves links count can low tight k at start

-- the states from `done` on have led on
pub record Advanced (old leaves links : List ℕ) (count can low : ℕ) (tight : Bool) (new : List ℕ)
    (done : ℕ) : Type 0 where
  pub size : length new ≡ length old
  pub before : (k at : ℕ) → k ≤ most_bindings → at < done → get_or new (place_of k at) 0 ≡ get_or old (place_of k at) 0
  pub stays :
      (k at : ℕ) → k ≤ most_bindings → done ≤ at → (tight ≡ true → bit_and can (get_or leaves at 0) ≡ 0)
      → get_or old (place_of k at) 0 ≤ get_or new (place_of k at) 0
  pub here :
      (k at v : ℕ) → k < most_bindings → done ≤ at → at < count → low < get_or old (place_of k at) 0
      → bit (bit_and can (get_or leaves at 0)) v ≡ true
      → get_or old (place_of k at) 0 ≤ get_or new (place_of (suc k) (get_or links (link_at at v) 0)) 0
  pub came :
      (k at : ℕ) → k ≤ most_bindings → done ≤ at → low < get_or new (place_of k at) 0
      → Came old leaves links count can low tight k at (get_or new (place_of k at) 0)

-- record j begins readings, and unless one that has as many bindings as it can leads on, all states do
pub record Moved (old leaves links : List ℕ) (count can low : ℕ) (tight : Bool) (j : ℕ) (new : List ℕ)
    (is : Bool) : Type 0 where
  pub over : IsOver (set old 0 (j + 1)) leaves count can low is
  pub moved : is ≡ false → Advanced (set old 0 (j + 1)) leaves links count can low tight new 0

-- ## Settled states

-- the starts of the state at b + 1, up to `done`, are those of the state at b now, where it had less
pub record RowFolded (old : List ℕ) (b : ℕ) (new : List ℕ) (done : ℕ) : Type 0 where
  pub size : length new ≡ length old
  pub above : (k : ℕ) → k < done → get_or old (place_of k b) 0 ≤ get_or new (place_of k b) 0
  pub here : (k : ℕ) → k < done → get_or old (place_of k (suc b)) 0 ≤ get_or new (place_of k b) 0
  pub only :
      (k : ℕ) → k < done
      → (get_or new (place_of k b) 0 ≡ get_or old (place_of k b) 0)
      ⊎ (get_or new (place_of k b) 0 ≡ get_or old (place_of k (suc b)) 0)
  pub gone : (k : ℕ) → k < done → get_or new (place_of k (suc b)) 0 ≡ 0
  pub others :
      (place : ℕ) → ((k : ℕ) → k < done → place ≡ place_of k b → ⊥)
      → ((k : ℕ) → k < done → place ≡ place_of k (suc b) → ⊥)
      → get_or new place 0 ≡ get_or old place 0

-- where the state at b + 1 is fresh
pub data FreshFolded (old states : List ℕ) (b : ℕ) (new : List ℕ) : Type 0 where
  calm : get_or states (suc b) 0 < fresh_mark → new ≡ old → FreshFolded old states b new
  fresh : fresh_mark ≤ get_or states (suc b) 0 → RowFolded old b new row_places → FreshFolded old states b new

-- where the start of a place is from: it stays where the state is not fresh, or it was that of the fresh state behind
pub data Settles (old states : List ℕ) (done k at start : ℕ) : Type 0 where
  empty : start ≡ 0 → Settles old states done k at start
  stays :
      start ≡ get_or old (place_of k at) 0 → (0 < at → at < done → get_or states at 0 < fresh_mark)
      → Settles old states done k at start
  folds :
      suc at < done → fresh_mark ≤ get_or states (suc at) 0 → start ≡ get_or old (place_of k (suc at)) 0
      → Settles old states done k at start

-- none of the states before `done` is fresh now
pub record Settled (old states : List ℕ) (new : List ℕ) (done : ℕ) : Type 0 where
  pub size : length new ≡ length old
  pub ahead : (k at : ℕ) → k ≤ most_bindings → done ≤ at → get_or new (place_of k at) 0 ≡ get_or old (place_of k at) 0
  pub above :
      (k at : ℕ) → k ≤ most_bindings → get_or states at 0 < fresh_mark
      → get_or old (place_of k at) 0 ≤ get_or new (place_of k at) 0
  pub here :
      (k at : ℕ) → k ≤ most_bindings → suc at < done → fresh_mark ≤ get_or states (suc at) 0
      → get_or old (place_of k (suc at)) 0 ≤ get_or new (place_of k at) 0
  pub only : (k at : ℕ) → k ≤ most_bindings → Settles old states done k at (get_or new (place_of k at) 0)

-- where a new cycle begins
pub data SettledBefore (old states : List ℕ) (count cycle time : ℕ) (new : List ℕ) : Type 0 where
  goes_on : time ≡ cycle → new ≡ old → SettledBefore old states count cycle time new
  renewed : (time ≡ cycle → ⊥) → Settled old states new count → SettledBefore old states count cycle time new
