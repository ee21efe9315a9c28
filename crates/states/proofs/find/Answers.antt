-- `states::find`: the first place with the state. Assumes nothing.
use Rattle.std.proofs.Common.{rules, ℕ, Bool, eqb, eqb-true, get_or}
use Rattle.numbers.proofs.First.{first-bound, first_passes}
use Rattle.states.proofs.find.Goals as goal

pub returns : goal.returns
returns c = let a = c.args in
    let here : ℕ → Bool = λ at. eqb (get_or a.states.now at 0) a.state in
    rw (c.first_that.ensures here (λ v r h k. search rules))
    (first-bound here a.count, λ l. eqb-true _ _ (first_passes here a.count l))
