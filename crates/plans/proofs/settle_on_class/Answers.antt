-- `plans::settle_on_class` meets its contract: condition i is on class, and it holds or fails of the class.
-- Assumes nothing.
use Rattle.std.proofs.Common.{◌≡◌, ◌∙◌, sym, true}
use Rattle.patterns.specs.Checked.{condition_at}
use Rattle.plans.specs.Plan.{is_on_class, sample_of}
use Rattle.plans.proofs.Own.{class-kept, class-lost}
use Rattle.plans.proofs.settle_on_class.Goals as goal

pub returns-then-compare : goal.returns-then-compare
unfolding condition_at sample_of
returns-then-compare c = let a = c.args in
    let on : is_on_class (condition_at a.p a.i) ≡ true = sym c.is_on_class.ensures ∙ c.if-not-is_on_class.false in
    sym (class-kept (condition_at a.p a.i) on a.can _ _ (sample_of a.b) c.raised_class-x.ensures c.raised_constant-y.ensures
    (sym c.compare.ensures ∙ c.if-compare.true))

pub returns : goal.returns
unfolding condition_at sample_of
returns c = let a = c.args in
    let on : is_on_class (condition_at a.p a.i) ≡ true = sym c.is_on_class.ensures ∙ c.if-not-is_on_class.false in
    c.without_bit.ensures
    ∙ sym (class-lost (condition_at a.p a.i) on a.can _ _ (sample_of a.b) c.raised_class-x.ensures c.raised_constant-y.ensures
    (sym c.compare.ensures ∙ c.if-compare.false))
