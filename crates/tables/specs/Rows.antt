-- Where words and lines of a text end.
use Rattle.std.specs.Prelude.{◌≡◌, List, [], Result, Ok, Err, ℕ, ◌+◌, ◌≤◌, ◌<◌, length, get_or, take, drop}

abbrev pub line_feed : ℕ
line_feed = 10

abbrev pub space : ℕ
space = 32

-- more than any number of a table
abbrev pub large : ℕ
large = 100000

-- r is the first place from `at` on that has the byte, or the end
pub record FirstFrom (text : List ℕ) (byte at r : ℕ) : Type 0 where
  pub from : at ≤ r
  pub to : r ≤ length text
  pub none : (i : ℕ) → at ≤ i → i < r → ¬ (get_or text i 0 ≡ byte)
  pub here : r < length text → get_or text r 0 ≡ byte

-- r is the place behind the first of that byte from `at` on, or the end
pub record Behind (text : List ℕ) (byte at r : ℕ) : Type 0 where
  pub place : ℕ
  pub found : FirstFrom text byte at place
  pub behind : place < length text → r ≡ place + 1
  pub at_end : place ≡ length text → r ≡ place

-- calls at the rows of a text, in order, and what comes of them: the first failure, if there is one
pub data EachRow {F E : Type 0} (call : F → List ℕ → Result (Unit {0}) E → F → Type 0) : F → List ℕ → Result (Unit {0}) E → Type 0 where
  none : {f : F} → EachRow call f [] (Ok tt)
  one :
      {f g : F} {text : List ℕ} {r : Result (Unit {0}) E} (next : ℕ) → 0 < length text → (row : Behind text line_feed 0 next)
      → call f (take row.place text) (Ok tt) g
      → EachRow call g (drop next text) r
      → EachRow call f text r
  failed :
      {f g : F} {text : List ℕ} {e : E} (next : ℕ) → 0 < length text → (row : Behind text line_feed 0 next)
      → call f (take row.place text) (Err e) g
      → EachRow call f text (Err e)
