-- A text line by line: what its lines are made of, and which line may follow which. The proofs use it in place of
-- `Making`, of which it is another form.
use Rattle.std.specs.Prelude.{◌≡◌, ℕ, ◌≤◌}
use mathlib.Core.List.{List, [], ◌∷◌, ◌++◌, map, Memᴰ}
use Rattle.form.specs.Form.{Member, When, Making, set_line, when_line, within_line, names_of, IsLetter, Once}
use Rattle.form.specs.Form.{WhenInOrder}

pub data Item : Type 0 where
  set_item : List Member → Item
  when_item : When → Item
  within_item : ℕ → Item

unfoldable pub item_line : Item → List ℕ
item_line (set_item members) = set_line members
item_line (when_item w) = when_line w
item_line (within_item duration) = within_line duration

-- the lines of a text
unfoldable pub items_of : Making → List Item
items_of m = map set_item m.sets ++ (map when_item m.whens ++ (within_item m.duration ∷ []))

-- the set lines among them
unfoldable pub sets_in : List Item → List (List Member)
sets_in [] = []
sets_in (set_item members ∷ l) = members ∷ sets_in l
sets_in (when_item w ∷ l) = sets_in l
sets_in (within_item duration ∷ l) = sets_in l

-- the when lines among them
unfoldable pub whens_in : List Item → List When
whens_in [] = []
whens_in (set_item members ∷ l) = whens_in l
whens_in (when_item w ∷ l) = w ∷ whens_in l
whens_in (within_item duration ∷ l) = whens_in l

-- the duration of the within line, 0 where there is none
unfoldable pub duration_in : List Item → ℕ
duration_in [] = 0
duration_in (set_item members ∷ l) = duration_in l
duration_in (when_item w ∷ l) = duration_in l
duration_in (within_item duration ∷ l) = duration

-- how far a text is
abbrev pub nothing_yet : ℕ
nothing_yet = 0

abbrev pub in_sets : ℕ
in_sets = 1

abbrev pub in_whens : ℕ
in_whens = 2

abbrev pub finished : ℕ
finished = 3

pub record State : Type 0 where
  pub phase : ℕ
  pub known : List ℕ

abbrev pub start : State
start = record { phase = nothing_yet; known = [] }

-- set lines may follow
pub record SetNext (s : State) (members : List Member) : Type 0 where
  pub phase : s.phase ≤ in_sets
  pub some : ¬ (members ≡ [])
  pub small : (x : ℕ) → Memᴰ x (names_of members) → IsLetter x
  pub once : Once (s.known ++ names_of members)

-- when lines and the within line may follow
pub record Named (s : State) : Type 0 where
  pub from : in_sets ≤ s.phase
  pub upto : s.phase ≤ in_whens

-- the line may stand behind the lines that lead to the state
unfoldable pub Next : State → Item → Type 0
Next s (set_item members) = SetNext s members
Next s (when_item w) = Named s × WhenInOrder s.known w
Next s (within_item duration) = Named s

unfoldable pub after : State → Item → State
after s (set_item members) = record { phase = in_sets; known = s.known ++ names_of members }
after s (when_item w) = record { phase = in_whens; known = s.known }
after s (within_item duration) = record { phase = finished; known = s.known }

-- each line may stand behind those before it
unfoldable pub Valid : State → List Item → Type 0
Valid s [] = Unit {0}
Valid s (i ∷ l) = Next s i × Valid (after s i) l

-- the state that lines lead to
unfoldable pub end : State → List Item → State
end s [] = s
end s (i ∷ l) = end (after s i) l
