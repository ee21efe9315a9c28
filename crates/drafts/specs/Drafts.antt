-- What the lines of a text have told, and what one line more tells.
use Rattle.std.specs.Prelude.{◌≡◌, List, [], ◌∷◌, ◌++◌, map, ℕ, ◌+◌, ◌≤◌, min, length, get_or, take, Option, Some, None}
use Rattle.numbers.specs.Numbers.{upto}
use Rattle.patterns.specs.Patterns.{most_variables, most_conditions}
use Rattle.form.specs.Form.{Member, When, line_feed, first_letter, letters, names}
use Rattle.form.specs.Packed.{place_of, member_bytes, when_bits}
use Rattle.form.specs.Items.{Item, item_line, sets_in, whens_in, duration_in, start, nothing_yet, in_sets, in_whens, finished, Next, end}
use Rattle.words.specs.Words.{large}
use Rattle.drafts.specs.declared.Draft.{Draft}
use Rattle.drafts.specs.declared.Phase.{Phase}
use Rattle.drafts.specs.declared.Phase.TheVariants.{Empty, Sets, Whens, Finished}

-- counts stop one above what a pattern may have
abbrev pub many_variables : ℕ
many_variables = most_variables + 1

abbrev pub many_conditions : ℕ
many_conditions = most_conditions + 1

-- how far a text is, as the form's lines count it
abbrev pub phase_of : Phase → ℕ
phase_of Empty = nothing_yet
phase_of Sets = in_sets
phase_of Whens = in_whens
phase_of Finished = finished

-- the places of the names, by letters
unfoldable pub places_of : List ℕ → List ℕ
places_of known = map (λ k. min (place_of (first_letter + k) known) many_variables) (upto 0 letters)

-- every draft keeps to these bounds
pub record Small (d : Draft) : Type 0 where
  pub n : d.n ≤ many_variables
  pub set : d.set ≤ many_variables
  pub c : d.c ≤ many_conditions
  pub places : (k : ℕ) → get_or d.places k 0 ≤ many_variables
  pub letters : length d.places ≡ letters
  pub variables : length d.variables ≡ most_variables
  pub conditions : length d.conditions ≡ most_conditions

-- the draft tells of these set lines and when lines
pub record Holds (sets : List (List Member)) (whens : List When) (d : Draft) : Type 0 where
  pub n : d.n ≡ min (length (names sets)) many_variables
  pub set : d.set ≡ min (length sets) many_variables
  pub c : d.c ≡ min (length whens) many_conditions
  pub places : d.places ≡ places_of (names sets)
  pub variables :
      length (names sets) ≤ most_variables → take (length (names sets)) d.variables ≡ member_bytes 1 sets
  pub conditions :
      length (names sets) ≤ most_variables → length whens ≤ most_conditions
      → take (length whens) d.conditions ≡ map (when_bits (names sets)) whens

-- the draft tells of these lines
pub record DraftOf (l : List Item) (d : Draft) : Type 0 where
  pub holds : Holds (sets_in l) (whens_in l) d
  pub phase : phase_of d.phase ≡ (end start l).phase
  pub duration : d.duration ≡ min (duration_in l) large

-- the bytes of a line, its line feed not among them, are the next line behind the lines l, and the draft tells of it too
pub record ItemRead (l : List Item) (bytes : List ℕ) (d : Draft) : Type 0 where
  pub item : Item
  pub next : Next (end start l) item
  pub read : item_line item ≡ bytes ++ (line_feed ∷ [])
  pub told : DraftOf (l ++ (item ∷ [])) d

-- what comes of the bytes of a line behind the lines l: none where they are no line that may follow
abbrev pub LineRead : List Item → List ℕ → Option Draft → Type 0
LineRead l bytes (Some d) = ItemRead l bytes d
LineRead l bytes None = (i : Item) → Next (end start l) i → ¬ (item_line i ≡ bytes ++ (line_feed ∷ []))
