-- `reach::firing_of` meets its contract. Assumes nothing.
use Rattle.std.proofs.Common.{Bool, true, false, ◌&&◌, List, ℕ, ◌+◌, ◌-◌, ◌*◌, ◌^◌, ◌<◌, ◌≤◌, ◌≡◌, ◌∙◌, sym, ap, arith}
use mathlib.Core.Bool.{and-true, and-false}
use lib.Pow.{pow_mono}
use Rattle.numbers.specs.Numbers.{one_if}
use Rattle.numbers.proofs.Count.{one_if-bound}
use Rattle.numbers.specs.Bits.{bit, IsLowestBit}
use Rattle.patterns.specs.Patterns.{most_variables}
use Rattle.slots.specs.Slots.{Held, held_in}
use Rattle.firing.specs.Firing.{agrees_by}
use Rattle.reach.specs.Readings.{agreeing_by}
use Rattle.reach.proofs.MaskInTurn.{low_bits}
use Rattle.reach.proofs.Masks.{agreeing-none, agreeing-bound, agreeing-lowest}
use Rattle.reach.proofs.firing_of.Goals as goal
use Rattle.reach.proofs.firing_of.Goals.{then-joins_hold, else-joins_hold}

-- the lowest variable is counted, and the others are left
turn :
    (plan bytes : List ℕ) (i : ℕ) (h : Held) (rest v firing whole : ℕ) (agrees : Bool) (weight left : ℕ)
    → rest < 2 ^ most_variables → IsLowestBit 64 rest v
    → firing + agreeing_by plan bytes i rest h ≡ agreeing_by plan bytes i whole h
    → agrees ≡ agrees_by plan bytes i v h → weight ≡ one_if agrees * 2 ^ v
    → left ≡ rest - one_if (bit rest v) * 2 ^ v
    → (left < 2 ^ most_variables)
    × ((firing + weight) + agreeing_by plan bytes i left h ≡ agreeing_by plan bytes i whole h)
turn plan bytes i h rest v firing whole agrees weight left small low known e w l =
    let parts = agreeing-lowest plan bytes i h rest v small low in
    let is = w ∙ ap (λ (t : Bool). one_if t * 2 ^ v) e in
    let rest-is = ap (λ (x : ℕ). agreeing_by plan bytes i x h) l in
    (omega arith, omega arith)

-- one test after another
both-hold : (l j l' j' : Bool) → j ≡ j' → j ≡ true → l ≡ l' → l ≡ l' && j'
both-hold l j l' j' e t f = f ∙ sym (and-true l') ∙ ap (λ (x : Bool). l' && x) (sym t ∙ e)

one_fails : (j l' j' : Bool) → j ≡ j' → j ≡ false → j ≡ l' && j'
one_fails j l' j' e t = t ∙ sym (and-false l') ∙ ap (λ (x : Bool). l' && x) (sym t ∙ e)

pub joins_hold-requires : goal.joins_hold-requires
joins_hold-requires c =
    let low = c.lowest_bit-v in
    (c.requires.1, low_bits c.loop-rest.rest most_variables low.result c.loop-rest.invariant.0 low.ensures.here)

pub is_later-agrees-requires : goal.is_later-agrees-requires
is_later-agrees-requires c =
    let low = c.lowest_bit-v in
    (c.requires.1, low_bits c.loop-rest.rest most_variables low.result c.loop-rest.invariant.0 low.ensures.here)

pub overflow_add-firing : goal.overflow_add-firing
overflow_add-firing c =
    let a = c.args in
    let low = c.lowest_bit-v in
    let bound = agreeing-bound a.plan.now a.block.now a.i (held_in a.slot.now) a.asked in
    let most = pow_mono {i = low.result} {j = 63} (omega arith) in
    let weight : one_if c.if-joins_hold.agrees * 2 ^ low.result ≤ 2 ^ low.result = grind (arith, one_if-bound) in
    omega arith

pub loop-rest-preserved : goal.loop-rest-preserved
unfolding held_in
loop-rest-preserved c =
    let a = c.args in
    let agrees : c.if-joins_hold.agrees ≡ agrees_by a.plan.now a.block.now a.i c.lowest_bit-v.result (held_in a.slot.now) =
    elim c.if-joins_hold.branch [
      | then-joins_hold w ↦ w.agrees-is ∙ both-hold _ _ _ _ c.joins_hold.ensures w.if-joins_hold.true w.is_later-agrees.ensures
      | else-joins_hold w ↦ w.agrees-is ∙ one_fails _ _ _ c.joins_hold.ensures w.if-joins_hold.false
    ] in
    turn _ _ _ _ _ _ _ _ _ _ _ c.loop-rest.invariant.0 c.lowest_bit-v.ensures c.loop-rest.invariant.1 agrees c.weight_if-firing.ensures c.without_bit-rest.ensures

pub returns : goal.returns
returns c =
    let a = c.args in
    let h = held_in a.slot.now in
    let none = ap (λ (x : ℕ). agreeing_by a.plan.now a.block.now a.i x h) c.loop-rest-test.false ∙ agreeing-none a.plan.now a.block.now a.i h in
    omega arith
