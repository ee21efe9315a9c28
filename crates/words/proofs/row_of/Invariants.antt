-- `words::row_of` meets its contract. The loop's invariant: none of the rows passed is the word. Assumes nothing.
use Rattle.std.proofs.Common.{◌≡◌, ℕ, ◌<◌, [], map, get_or}
use Rattle.words.proofs.row_of.Given as goal

abbrev pub invariant-loop-i : goal.invariant-loop-i
invariant-loop-i l = (k : ℕ) → k < l.i → get_or (map (λ row. row.now) l.rows) k [] ≡ l.word → ⊥
