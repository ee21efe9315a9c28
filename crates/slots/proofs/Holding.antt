-- A reading beside the number of its state: bits, bound, and growing by one binding. Assumes nothing.
use Rattle.std.proofs.Common.{◌≡◌, ap, ◌∙◌, ◌&&◌, ◌∷◌, ℕ, ◌<◌}
use borrow.Author.Tests.{lt-ltb}
use Rattle.numbers.specs.Bits.{bit}
use Rattle.numbers.proofs.Bits.{mask-bit, mask-or-weight}
use Rattle.patterns.specs.Patterns.{most_variables}
use Rattle.rule.specs.Rule.{Reading, binds}
use Rattle.slots.specs.Slots.{holding, grow}

pub holding-grow :
    (r : Reading) (i v : ℕ) → v < most_variables
    → grow i v (holding r) ≡ holding (record { variable = v; at = i } ∷ r)
unfolding grow holding binds
holding-grow r i v h =
    λ j. record { state = mask-or-weight (binds r) most_variables v h j; bindings = record { variable = v; at = i } ∷ r }

-- bit v of the state says whether v is bound
pub holding-bit : (r : Reading) (v : ℕ) → v < most_variables → bit (holding r).state v ≡ binds r v
unfolding holding
holding-bit r v h = mask-bit (binds r) most_variables v ∙ ap (λ t. t && binds r v) (lt-ltb v most_variables h)
