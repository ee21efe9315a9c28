-- Lines of a text, and the first line that is bad or missing.
use Rattle.std.specs.Prelude.{◌≡◌, ℕ, zero, suc, ◌≤◌}
use mathlib.Core.List.{List, [], ◌∷◌, ◌++◌, Memᴰ}
use Rattle.form.specs.Form.{line_feed, Making, text_of, InOrder, InForm}

-- Rule 11.4: k lines, each up to its line feed
pub data Lines : ℕ → List ℕ → Type 0 where
  none : Lines zero []
  more :
      {k : ℕ} {rest : List ℕ} (bytes : List ℕ) → ¬ Memᴰ line_feed bytes → Lines k rest
      → Lines (suc k) (bytes ++ (line_feed ∷ rest))

-- Rule 11.4: the text has k lines, and they begin a text of the form
pub record Begins (text : List ℕ) (k : ℕ) : Type 0 where
  pub begin : List ℕ
  pub lines : Lines k begin
  pub behind : List ℕ
  pub ours : text ≡ begin ++ behind
  pub making : Making
  pub order : InOrder making
  pub rest : List ℕ
  pub theirs : text_of making ≡ begin ++ rest

-- Rule 11.4: the text is no text of the form, and this is its first line that is bad or missing: the lines before it
-- begin a text of the form, and those up to it do not
pub record FirstBad (text : List ℕ) (place : ℕ) : Type 0 where
  pub outside : (m : Making) → ¬ InForm text m
  pub before : (k : ℕ) → k ≤ place → Begins text k
  pub bad : ¬ Begins text (suc place)
