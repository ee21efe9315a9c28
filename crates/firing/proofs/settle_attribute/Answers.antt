-- `firing::settle_attribute` meets its contract: the attribute's value and the constant, raised, say what each condition
-- says. Assumes nothing.
use Rattle.std.proofs.Common.{arith, rules, sym, ◌∙◌}
use Rattle.records.specs.Records.{record_at}
use Rattle.patterns.specs.Patterns.{condition_of}
use Rattle.plans.specs.Plan.{others_in}
use Rattle.firing.proofs.Settling.{left-first, left-all, value-settled, settling-next}
use Rattle.firing.proofs.settle_attribute.Goals as goal

pub returns : goal.returns
returns c = let a = c.args in
    let s = c.settle.ensures a.block.now a.i (λ word s kind post m.
    value-settled a.attribute (condition_of word) c.requires.1 kind.other m s.0 s.1 (record_at a.block.now a.i) (search rules) (search rules)) in
    (s.0, settling-next a.plan.now a.block.now a.i a.n a.c a.attribute a.can _ c.requires.0 s.1)

pub returns-then-others-eq0 : goal.returns-then-others-eq0
returns-then-others-eq0 c = let a = c.args in
    let p = c.requires.0 in (
      left-first a.plan.now a.block.now a.i a.n a.c a.attribute a.can p.classed (omega arith) p.inside
          ∙ left-all a.plan.now a.block.now a.i a.n a.c a.attribute a.can (others_in a.plan.now a.attribute)
          (sym c.others.ensures ∙ c.if-others-eq0.true),
      p,
    )
