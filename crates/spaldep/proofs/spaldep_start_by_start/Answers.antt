-- `spaldep::spaldep_start_by_start` meets its contract. Assumes nothing.
use mathlib.Core.Path.{◌∙◌, ap}
use Rattle.spaldep.specs.Packed.{packed_answer}
use Rattle.spaldep.specs.Host.{StartByStartHost}
use Rattle.spaldep.proofs.Unfit.{unfit-start}
use Rattle.spaldep.proofs.spaldep_start_by_start.Goals as goal

pub returns-then-is_unfit : goal.returns-then-is_unfit
returns-then-is_unfit c = unfit-start _ _ _ _ _ (c.is_unfit.ensures.bad c.if-is_unfit.true)
    (c.pack.ensures ∙ ap packed_answer (c.unfit_answer.ensures ∙ c.judge_input.ensures))
    c.clear.ensures

pub returns : goal.returns
returns c = StartByStartHost.called (λ e. c.is_unfit.ensures.good c.if-is_unfit.false)
    c.start_by_start.result c.start_by_start.ensures c.pack-2.ensures
