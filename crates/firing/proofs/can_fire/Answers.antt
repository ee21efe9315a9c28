-- `firing::can_fire` meets its contract: the class, and then kind by kind. Assumes nothing.
use Rattle.std.proofs.Common.{arith, ◌≡◌, ◌∙◌, sym, ap, ℕ, ◌/◌}
use Rattle.plans.specs.Plan.{types_together, both_sides}
use Rattle.firing.specs.Firing.{can_by, settled_by}
use Rattle.firing.proofs.Classes.{class-inside, all_settled, none-settled}
use Rattle.firing.proofs.can_fire.Goals as goal

pub settle_attribute-by_type-requires : goal.settle_attribute-by_type-requires
settle_attribute-by_type-requires c = let a = c.args in
    let p = c.requires in
    let inside = class-inside a.plan.now a.block.now a.i a.n a.c p.1 (c.type_at.result / types_together) (omega arith) in
    (record { sound = p.0; classed = p.1; variables = p.2; conditions = p.3; inside = rw c.by_type-by_class.ensures inside; here = p.4 }, omega arith)

pub returns-then-by_type-eq0 : goal.returns-then-by_type-eq0
returns-then-by_type-eq0 c = let a = c.args in
    let p = c.requires in
    let typed = c.settle_attribute-by_type.ensures in
    let all = all_settled a.plan.now a.block.now a.i a.n a.c p.0 p.1 p.3 c.type_at.result _ (omega arith) c.type_at.ensures c.by_type-by_class.ensures in
    let none = none-settled a.plan.now a.block.now a.i a.n a.c _ (sym typed.0 ∙ c.if-by_type-eq0.true) in
    (sym none ∙ all, rw c.if-by_type-eq0.true at typed.1.inside)

pub returns : goal.returns
returns c = let a = c.args in
    let p = c.requires in
    let settled : ℕ → ℕ → ℕ = settled_by a.plan.now a.n a.c a.block.now a.i in
    let e : c.settle_both.result ≡ can_by a.plan.now a.n a.c a.block.now a.i =
    c.settle_both.ensures.0
    ∙ ap (λ (x : ℕ). settled both_sides x) c.settle_attribute-by_wave.ensures.0
    ∙ ap (λ (x : ℕ). settled both_sides (settled 5 x)) c.settle_attribute-by_amount.ensures.0
    ∙ ap (λ (x : ℕ). settled both_sides (settled 5 (settled 4 x))) c.settle_attribute-by_slot.ensures.0
    ∙ ap (λ (x : ℕ). settled both_sides (settled 5 (settled 4 (settled 3 x)))) c.settle_attribute-by_core.ensures.0
    ∙ ap (λ (x : ℕ). settled both_sides (settled 5 (settled 4 (settled 3 (settled 0 x))))) c.settle_attribute-by_type.ensures.0
    ∙ all_settled a.plan.now a.block.now a.i a.n a.c p.0 p.1 p.3 c.type_at.result _ (omega arith) c.type_at.ensures c.by_type-by_class.ensures in
    (e, c.settle_both.ensures.1)
