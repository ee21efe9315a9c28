-- `plans::class_mask` meets its contract. The loop's invariant: the mask is settled by the conditions passed. Assumes
-- nothing.
use Rattle.std.proofs.Common.{◌∙◌, ℕ, ◌-◌, ap}
use Rattle.patterns.specs.Checked.{condition_at}
use Rattle.plans.proofs.Own.{class-none, class-more}
use Rattle.plans.proofs.class_mask.Goals as goal

pub loop-i-init : goal.loop-i-init
loop-i-init c = let p = c.args.p in
    ap (λ (x : ℕ). x - 1) c.weight-can.ensures ∙ class-none (condition_at p) p.n c.args.b

pub loop-i-preserved : goal.loop-i-preserved
loop-i-preserved c = let p = c.args.p in
    class-more (condition_at p) p.n c.args.b c.loop-i.can c.loop-i.i _ c.loop-i.invariant c.settle_on_class-can.ensures
