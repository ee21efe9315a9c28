-- `states::put_fresh`: where the place is given, the state stands there or right before it. Assumes nothing.
use Rattle.std.proofs.Common.{arith, sym, ◌∙◌, eqb-true}
use Rattle.std.proofs.lemmas.Bool.{not-false}
use Rattle.states.proofs.States.{fresh-alone, fresh-behind}
use Rattle.states.proofs.put_fresh.Goals as goal
use Rattle.states.proofs.put_fresh.Goals.{then-behind-count, else-behind-count}

pub returns-then-fresh-state : goal.returns-then-fresh-state
returns-then-fresh-state c =
    fresh-alone _ _ _ _ _ _ _ c.in_ok-at.ensures c.requires.2 (sym c.fresh_of-fresh.ensures ∙ c.if-fresh-state.true)

pub returns : goal.returns
returns c =
    let here = c.in_ok-at.ensures.here.0 in
    rw c.fresh_of-fresh.ensures
    (fresh-behind _ _ _ _ _ _ _ c.in_ok-at.ensures c.requires.2
    (λ e. c.if-fresh-state.false (c.fresh_of-fresh.ensures ∙ e))
    (omega arith)
    (elim c.if-behind-count.branch [
      | then-behind-count w ↦ λ l. eqb-true _ _ (not-false _ (sym w.value-is ∙ c.if-states-behind.false)) ∙ c.fresh_of-fresh.ensures
      | else-behind-count w ↦ λ l. let m = w.if-behind-count.false in omega arith
    ]))
