-- `firing::is_later` meets its contract: there is no order mark, nothing is bound, or the latest binding decides.
-- Assumes nothing.
use Rattle.std.proofs.Common.{arith, ◌≡◌, ◌∙◌, true, false, sym, ap, ap₂, ℕ, ◌-◌, ◌≤◌, ◌<◌, ltb}
use Rattle.numbers.specs.Bits.{disjoint}
use Rattle.records.specs.Records.{record_at}
use Rattle.slots.specs.Slots.{count_in, state_in}
use Rattle.plans.specs.Plan.{marks_in}
use Rattle.firing.proofs.Slots.{binding_at, binding-among, later-unmarked, later-empty, later-latest}
use Rattle.firing.proofs.is_later.Goals as goal

pub returns-then-not-is_disjoint : goal.returns-then-not-is_disjoint
returns-then-not-is_disjoint c = let a = c.args in
    let e : disjoint (state_in a.slot.now) (marks_in a.plan.now a.v) ≡ false = cc (c.if-not-is_disjoint.true) in
    sym (later-unmarked a.plan.now a.block.now a.slot.now a.i a.v e)

pub returns-then-count-eq0 : goal.returns-then-count-eq0
returns-then-count-eq0 c = let a = c.args in
    rw c.if-count-eq0.true (sym (later-empty a.plan.now a.block.now a.slot.now a.i a.v (sym c.count_of-count.ensures ∙ c.if-count-eq0.true)))

pub time_at-requires : goal.time_at-requires
time_at-requires c = let slot = c.args.slot.now in
    let latest = count_in slot - 1 in
    let some : latest < count_in slot = omega arith in
    let at : c.binding_record.result ≡ (binding_at slot latest).at = cc in
    omega (arith, c.requires.0.seated.in_block (binding_at slot latest) (binding-among slot (count_in slot) latest some))

pub returns-else-count-eq0 : goal.returns-else-count-eq0
returns-else-count-eq0 c = let a = c.args in
    let e : disjoint (state_in a.slot.now) (marks_in a.plan.now a.v) ≡ true = cc (c.if-not-is_disjoint.false) in
    let some : 1 ≤ count_in a.slot.now = omega arith in
    let at : c.binding_record.result ≡ (binding_at a.slot.now (count_in a.slot.now - 1)).at = cc in
    ap₂ ltb (c.time_at.ensures ∙ ap (λ (j : ℕ). (record_at a.block.now j).time) at) c.time_at-else-count-eq0.ensures
    ∙ sym (later-latest a.plan.now a.block.now a.slot.now a.i a.v e some)
