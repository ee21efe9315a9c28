-- Live readings put one after the other into working memory.
use Rattle.std.specs.Prelude.{◌≡◌, ◌⊎◌, Bool, false, List, ◌++◌, ℕ, ◌+◌, ◌*◌, ◌≤◌, ◌<◌, length, take, drop}
use Rattle.patterns.specs.Patterns.{most_variables}
use Rattle.rule.specs.Calls.{most_live}
use Rattle.slots.specs.Slots.{Held, slot_bytes, slot_at, slots_at}
use Rattle.firing.specs.Firing.{Fit}
use Rattle.live.specs.Live.{long}

-- a record leaves fewer readings: one for each variable at most from each live one, and as many that begin
abbrev pub step_bound : ℕ
step_bound = most_variables * most_live + most_variables + 1

-- the readings put out so far: counted, a binding too many noted, and, while they fit, standing from dst on
pub record Standing (work : List ℕ) (dst limit total : ℕ) (over : Bool) (out : List Held) : Type 0 where
  pub count : total ≡ length out
  pub noted : over ≡ long out
  pub held : over ≡ false → total ≤ limit → slots_at work dst total ≡ out

-- the memory is as it was but for the places from low up to high
pub record Outside (old new : List ℕ) (low high : ℕ) : Type 0 where
  pub before : take low new ≡ take low old
  pub after : drop high new ≡ drop high old

-- the places from low up to high stand before the room for `limit` readings from dst on, or behind it
pub record Apart (low high dst limit : ℕ) : Type 0 where
  pub sides : (high ≤ dst) ⊎ (dst + slot_bytes * limit ≤ low)

-- the readings `more` were put out behind any that stood there
pub record Added (old new : List ℕ) (dst limit t : ℕ) (o : Bool) (t' : ℕ) (o' : Bool) (more : List Held) : Type 0 where
  pub total : t' ≡ t + length more
  pub behind : (out : List Held) → Standing old dst limit t o out → Standing new dst limit t' o' (out ++ more)
  pub outside : Outside old new dst (dst + slot_bytes * limit)
  pub size : length new ≡ length old

-- each of the slots can be asked whether a step fires at record i
pub record Ready (work plan bytes : List ℕ) (i src count : ℕ) : Type 0 where
  pub fit : (k : ℕ) → k < count → Fit plan bytes i (slot_at work (src + slot_bytes * k))

-- the readings stand in one half of working memory
pub record Stands (lent limit half start count : ℕ) : Type 0 where
  pub room : slot_bytes * limit + slot_bytes * limit ≤ lent
  pub few : limit ≤ most_live
  pub side : (half ≡ 0) ⊎ (half ≡ slot_bytes * limit)
  pub from : half ≤ start
  pub to : start + slot_bytes * count ≤ half + slot_bytes * limit

-- the readings `out` stand in one half, if they are not too many and none is too long
pub record Moved (old new : List ℕ) (limit half start count : ℕ) (over : Bool) (out : List Held) : Type 0 where
  pub standing : Standing new start limit count over out
  pub stands : count ≤ limit → Stands (length new) limit half start count
  pub size : length new ≡ length old
