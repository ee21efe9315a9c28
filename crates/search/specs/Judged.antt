-- What a search answers, by what it judges before the pass.
use Rattle.std.specs.Prelude.{◌≡◌, Bool, true, false, List, Result, Ok, Err, ℕ}
use Rattle.records.specs.declared.Answer.{Answer}
use Rattle.records.specs.declared.refusals.Refusal.{Refusal}
use Rattle.records.specs.Blocks.{refused}
use Rattle.records.specs.Refusals.{code_of, place_of}
use Rattle.rule.specs.Calls.{zeros, ForwardCall}
use Rattle.index.specs.Promises.{nothing, SearchCall}

-- success with nothing reported where the block is passed over, what the forward pass answers where it is not, and the
-- refusal; lent memory is clear but for what the pass reports
abbrev pub Judged : List ℕ → List ℕ → List ℕ → ℕ → ℕ → Result Bool Refusal → Type 0
Judged pattern index block limit lent_work (Ok true) =
    (lent_result : ℕ) (work result : List ℕ) → work ≡ zeros lent_work → result ≡ zeros lent_result
    → SearchCall pattern index block limit lent_work lent_result nothing work result
Judged pattern index block limit lent_work (Ok false) =
    (lent_result : ℕ) (answer : Answer) (work result : List ℕ)
    → ForwardCall pattern block limit lent_work lent_result answer work result
    → SearchCall pattern index block limit lent_work lent_result answer work result
Judged pattern index block limit lent_work (Err r) =
    (lent_result : ℕ) (work result : List ℕ) → work ≡ zeros lent_work → result ≡ zeros lent_result
    → SearchCall pattern index block limit lent_work lent_result (refused (code_of r) (place_of r)) work result
