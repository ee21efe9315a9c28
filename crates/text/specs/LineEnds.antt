-- Where a line ends.
use Rattle.std.specs.Prelude.{◌≡◌, List, ℕ, ◌≤◌, ◌<◌, length, get_or, Option, Some, None}
use Rattle.form.specs.Form.{line_feed}

-- no line feed among the bytes between two places
abbrev pub Clear : List ℕ → ℕ → ℕ → Type 0
Clear text from at = (k : ℕ) → from ≤ k → k < at → get_or text k 0 ≡ line_feed → ⊥

-- the place of the first line feed from a place on
pub record FirstFeed (text : List ℕ) (from place : ℕ) : Type 0 where
  pub behind : from ≤ place
  pub inside : place < length text
  pub clear : Clear text from place
  pub here : get_or text place 0 ≡ line_feed

-- the place of the first line feed from a place on, if there is one
abbrev pub LineEnd : List ℕ → ℕ → Option ℕ → Type 0
LineEnd text from (Some place) = FirstFeed text from place
LineEnd text from None = Clear text from (length text)
