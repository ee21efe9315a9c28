-- `spaldep::spaldep_search` meets its contract. Assumes nothing.
use mathlib.Core.Path.{◌∙◌, ap}
use Rattle.spaldep.specs.Packed.{packed_answer}
use Rattle.spaldep.specs.Host.{SearchHost}
use Rattle.spaldep.proofs.Unfit.{unfit-search}
use Rattle.spaldep.proofs.spaldep_search.Goals as goal

pub returns-then-is_unfit : goal.returns-then-is_unfit
returns-then-is_unfit c =
    unfit-search _ _ _ _ _ _ _ _ _ (c.is_unfit.ensures.bad c.if-is_unfit.true) c.cleared.ensures.1 c.cleared.ensures.2
    (c.pack.ensures ∙ ap packed_answer (c.cleared.ensures.0 ∙ c.unfit_answer-answer.ensures ∙ c.judge_search.ensures))

pub returns : goal.returns
returns c =
    SearchHost.called (λ e f. c.is_unfit.ensures.good c.if-is_unfit.false) c.search.result c.search.ensures c.pack-2.ensures
