-- `plans::class_mask` meets its contract. The loop's invariant: the mask is settled by the conditions passed.
-- Assumes nothing.
use Rattle.std.proofs.Common.{◌≡◌}
use Rattle.patterns.specs.Checked.{condition_at}
use Rattle.plans.specs.Plan.{class_mask}
use Rattle.plans.proofs.class_mask.Given as goal

abbrev pub invariant-loop-i : goal.invariant-loop-i
invariant-loop-i l = l.can ≡ class_mask (condition_at l.p) l.p.n l.i l.b
