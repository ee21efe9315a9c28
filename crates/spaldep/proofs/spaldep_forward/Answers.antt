-- `spaldep::spaldep_forward` meets its contract. Assumes nothing.
use mathlib.Core.Path.{◌∙◌, ap}
use Rattle.spaldep.specs.Packed.{packed_answer}
use Rattle.spaldep.specs.Host.{ForwardHost}
use Rattle.spaldep.proofs.Unfit.{unfit-forward}
use Rattle.spaldep.proofs.spaldep_forward.Goals as goal

pub returns-then-is_unfit : goal.returns-then-is_unfit
returns-then-is_unfit c = unfit-forward _ _ _ _ _ _ _ _ (c.is_unfit.ensures.bad c.if-is_unfit.true)
    (c.pack.ensures ∙ ap packed_answer (c.unfit_answer.ensures ∙ c.judge_input.ensures))
    c.clear.ensures
    c.clear-then-is_unfit.ensures

pub returns : goal.returns
returns c = ForwardHost.called (λ e. c.is_unfit.ensures.good c.if-is_unfit.false)
    c.forward.result c.forward.ensures c.pack-2.ensures
