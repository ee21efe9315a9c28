-- `fills::last_of` meets its contract: nothing is bound, or the latest binding tells. Assumes nothing.
use Rattle.std.proofs.Common.{◌≡◌, sym, ap, ◌∙◌, ◌+◌, ◌-◌, ◌≤◌, ℕ, arith}
use Rattle.slots.specs.Slots.{count_in}
use Rattle.firing.proofs.Slots.{binding_at}
use Rattle.fills.proofs.OrderMark.{up-to-none, up-to-latest}
use Rattle.fills.proofs.last_of.Goals as goal

pub returns-in-0 : goal.returns-in-0
returns-in-0 c = sym (up-to-none c.args.slot.now (sym c.count_of.ensures ∙ c.in-0.is))

pub returns-in_default : goal.returns-in_default
returns-in_default c =
    let some : 1 ≤ count_in c.args.slot.now = omega arith in
    let at : c.binding_record.result ≡ (binding_at c.args.slot.now (count_in c.args.slot.now - 1)).at = cc in
    ap (λ (x : ℕ). x + 1) at ∙ sym (up-to-latest c.args.slot.now some)
