-- `sweep::is_free`. Assumes nothing.
use Rattle.std.proofs.Common.{rules, sym, ◌∙◌, ℕ, eqb, eqb-true}
use Rattle.numbers.proofs.Every.{every_true}
use Rattle.plans.specs.Plan.{joins_in}
use Rattle.sweep.proofs.is_free.Goals as goal

pub returns : goal.returns
returns c = λ e v l.
    let p = λ (v : ℕ). eqb (joins_in c.args.plan.now v) 0 in
    eqb-true _ _ (every_true p _ (sym (c.all.ensures p (λ v r h k. search rules)) ∙ e) v l)
