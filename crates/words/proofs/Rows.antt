-- The row of a table that a word is. Assumes nothing.
use Rattle.std.proofs.Common.{◌≡◌, ℕ, Bool, List, [], map, get_or, sym, ◌∙◌, Bor}
use Rattle.std.proofs.Math.ListN.{get_or-map}
use Rattle.std.proofs.lemmas.Bool.Decides.{Decides-eqb}
use Rattle.std.proofs.lemmas.Slice.Eq.{slice_eq-Decides}
use Rattle.std.specs.Bool.{Decides}
use Rattle.std.specs.Cmp.Lexicographic.{pointwise}
use lib.Dec.{eqb}

-- what stands where a table has no row
abbrev pub no_row : Bor (List ℕ)
no_row = record { ref_ptr = (0, 0); now = [] }

-- the test whether row i of a table is the word
pub row-is :
    (rows : List (Bor (List ℕ))) (word : List ℕ) (i : ℕ) (same : Bool)
    → same ≡ pointwise eqb word (get_or rows i no_row).now
    → Decides same (get_or (map (λ (row : Bor (List ℕ)). row.now) rows) i [] ≡ word)
row-is rows word i same e =
    let s = slice_eq-Decides Decides-eqb word (get_or rows i no_row).now same e in
    let at = get_or-map (λ (row : Bor (List ℕ)). row.now) rows i no_row in
    (λ t. at ∙ sym (s.0 t), λ q. s.1 (sym q ∙ at))
