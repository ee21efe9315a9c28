-- `plans::place` meets its contract, by the part of the plan that the place stands in. Assumes nothing.
use Rattle.std.proofs.Common.{◌∙◌, sym, arith}
use Rattle.plans.proofs.Plans.{place-word, place_none, place-mask, place-joins, place-class, place-others}
use Rattle.plans.proofs.Plans.{none-tells, placed-behind}
use Rattle.plans.proofs.place.Goals as goal

pub returns-then-at-p : goal.returns-then-at-p
returns-then-at-p c = let a = c.args in
    let word = c.word_at.ensures in
    record { is = word.packed ∙ sym (place-word a.p a.at (omega arith) (omega arith)); back = λ h. word.back; tells = λ h. word.tells }

pub returns-else-at-p : goal.returns-else-at-p
returns-else-at-p c = let a = c.args in
    record { is = sym (place_none a.p a.at (omega arith) (omega arith)); back = λ h. absurd (omega arith); tells = λ h. none-tells }

pub returns-then-at-lt-FIRST_AFTER : goal.returns-then-at-lt-FIRST_AFTER
returns-then-at-lt-FIRST_AFTER c = let a = c.args in
    placed-behind a.p c.requires.0.few_conditions a.at _ (omega arith)
    (c.variable_mask.ensures ∙ sym (place-mask a.p 0 _ a.at (omega arith) (omega arith) (omega arith)))

pub returns-then-at-lt-FIRST_MARKS : goal.returns-then-at-lt-FIRST_MARKS
returns-then-at-lt-FIRST_MARKS c = let a = c.args in
    placed-behind a.p c.requires.0.few_conditions a.at _ (omega arith)
    (c.variable_mask-then-at-lt-FIRST_MARKS.ensures ∙ sym (place-mask a.p 1 _ a.at (omega arith) (omega arith) (omega arith)))

pub returns-then-at-lt-FIRST_JOINS : goal.returns-then-at-lt-FIRST_JOINS
returns-then-at-lt-FIRST_JOINS c = let a = c.args in
    placed-behind a.p c.requires.0.few_conditions a.at _ (omega arith)
    (c.variable_mask-then-at-lt-FIRST_JOINS.ensures ∙ sym (place-mask a.p 2 _ a.at (omega arith) (omega arith) (omega arith)))

pub returns-then-at-lt-FIRST_CLASS : goal.returns-then-at-lt-FIRST_CLASS
returns-then-at-lt-FIRST_CLASS c = let a = c.args in
    placed-behind a.p c.requires.0.few_conditions a.at _ (omega arith)
    (c.join_mask.ensures ∙ sym (place-joins a.p a.at (omega arith) (omega arith)))

pub returns-then-at-lt-OTHERS : goal.returns-then-at-lt-OTHERS
returns-then-at-lt-OTHERS c = let a = c.args in
    placed-behind a.p c.requires.0.few_conditions a.at _ (omega arith)
    (c.class_mask.ensures ∙ sym (place-class a.p a.at (omega arith) (omega arith)))

pub returns-else-at-lt-OTHERS : goal.returns-else-at-lt-OTHERS
returns-else-at-lt-OTHERS c = let a = c.args in
    placed-behind a.p c.requires.0.few_conditions a.at _ (omega arith)
    (c.other_mask.ensures ∙ sym (place-others a.p a.at (omega arith)))
