-- `drafts::read_line` meets its contract. Assumes nothing.
use Rattle.std.proofs.Common.{[], ◌∷◌, ◌++◌, Some, None}
use Rattle.std.proofs.lemmas.Bool.Decides.{Decides-eqb}
use Rattle.std.proofs.lemmas.Slice.Eq.{strip_prefix_is}
use Rattle.form.specs.Form.{space, set_word, when_word, within_word}
use Rattle.form.specs.Items.{start, end}
use Rattle.drafts.proofs.Read.{outside, line-behind}
use Rattle.drafts.proofs.read_line.Goals as goal

pub returns-in_err-rest-clause-line : goal.returns-in_err-rest-clause-line
returns-in_err-rest-clause-line c =
    let line = c.args.line.now in
    rw c.from_residual.ensures
    (λ l v h.
    outside (end start l) line (strip_prefix_is Decides-eqb line set_word None c.in_default.ensures.cases)
    (strip_prefix_is Decides-eqb line (when_word ++ (space ∷ [])) None c.in_default-strip_prefix.ensures.cases)
    (strip_prefix_is Decides-eqb line (within_word ++ (space ∷ [])) None c.in_err-rest.ensures.cases))

pub returns-clause-line : goal.returns-clause-line
returns-clause-line c =
    let line = c.args.line.now in
    let rest = c.in_ok-rest.rest in
    λ l v h.
    line-behind l (within_word ++ (space ∷ rest.now)) line _
    (strip_prefix_is Decides-eqb line (within_word ++ (space ∷ [])) (Some rest) c.in_ok-rest.ensures.cases)
    (c.read_within.ensures.line l v h)
