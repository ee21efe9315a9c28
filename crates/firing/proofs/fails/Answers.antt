-- `firing::fails` meets its contract: the word tells of each order. Assumes nothing.
use Rattle.std.proofs.Common.{arith, Bool, true, false, ◌≡◌, ◌∙◌, refl, ap, ℕ, ◌+◌, ◌<◌, eqb, pos}
use Rattle.numbers.specs.Numbers.{one_if}
use Rattle.numbers.specs.Bits.{bit}
use Rattle.patterns.specs.Comparison.{orders, order_of}
use Rattle.patterns.proofs.Comparison.{order-bound}
use Rattle.plans.specs.Plan.{first_order}
use Rattle.firing.proofs.fails.Goals as goal

pub overflow_add-order : goal.overflow_add-order
overflow_add-order c = let few : c.order.result < orders = rw c.order.ensures (order-bound _ _) in omega arith

pub bit_of-requires : goal.bit_of-requires
bit_of-requires c = let few : c.order.result < orders = rw c.order.ensures (order-bound _ _) in omega arith

digit : (t : Bool) → eqb (one_if t) 1 ≡ t
digit true = refl
digit false = refl

pub returns : goal.returns
returns c = let o = order_of (pos c.args.x) (pos c.args.y) in
    c.bit_of.ensures
    ∙ ap (λ (q : ℕ). bit c.args.word (first_order + q)) c.order.ensures
    ∙ ap (λ (d : ℕ). eqb d 1) (c.requires.order o (order-bound (pos c.args.x) (pos c.args.y)))
    ∙ digit _
