-- `index::count_type` meets its contract. Assumes nothing.
use Rattle.std.proofs.Common.{◌∙◌, sym, ap, subst, List, ℕ, ◌+◌, ◌/◌, ◌≤◌, get_or, arith}
use lib.ListN.{set}
use Rattle.index.proofs.Types.{types-bound, types-gap, types-event}
use Rattle.index.proofs.count_type.Goals as goal

pub overflow_add-counts : goal.overflow_add-counts
overflow_add-counts c = let i = c.args.i in
    let k = c.type_at.result / 16 in
    let bounded : get_or c.args.counts.now k 0 ≤ i =
    subst (λ (l : List ℕ). get_or l k 0 ≤ i) (sym c.requires.2) (types-bound c.args.block.now i k)
    in
    omega (arith, c.requires.1)

pub returns-then-kind-eq-EVENT : goal.returns-then-kind-eq-EVENT
returns-then-kind-eq-EVENT c = let k = c.type_at.result / 16 in (
  ap (λ (l : List ℕ). set l k (get_or l k 0 + 1)) c.requires.2
      ∙ types-event c.args.block.now c.args.i
      (sym c.kind_at-kind.ensures ∙ c.if-kind-eq-EVENT.true)
      k
      (ap (λ (t : ℕ). t / 16) c.type_at.ensures)
      (omega arith),
  omega (arith, c.type_at.ensures),
)

pub returns-else-kind-eq-EVENT : goal.returns-else-kind-eq-EVENT
returns-else-kind-eq-EVENT c = (
  c.requires.2 ∙ types-gap c.args.block.now c.args.i (λ z. c.if-kind-eq-EVENT.false (c.kind_at-kind.ensures ∙ z)),
  omega (arith, c.type_at.ensures),
)
