-- Text put into lent memory from a place on, behind what stands there already.
use Rattle.std.specs.Prelude.{◌≡◌, List, ◌++◌, ℕ, ◌+◌, length, take}

-- memory before, memory after, the place, the text, the place behind it
pub record Put (before after : List ℕ) (at : ℕ) (text : List ℕ) (end : ℕ) : Type 0 where
  pub wrote : take end after ≡ take at before ++ text
  pub ends : end ≡ at + length text
  pub kept : length after ≡ length before
