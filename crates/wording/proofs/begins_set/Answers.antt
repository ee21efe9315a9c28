-- `wording::begins_set` meets its contract. Assumes nothing.
use borrow.Author.Tests.{eq-eqb, ne_eqb}
use Rattle.wording.specs.Wording.{begins_set}
use Rattle.wording.proofs.begins_set.Goals as goal

pub returns-then-v-eq0 : goal.returns-then-v-eq0
unfolding begins_set
returns-then-v-eq0 c = rw (eq-eqb _ _ c.if-v-eq0.true, begins_set)

pub returns-else-v-eq0 : goal.returns-else-v-eq0
unfolding begins_set
returns-else-v-eq0 c = rw (ne_eqb _ _ c.if-v-eq0.false, begins_set)
