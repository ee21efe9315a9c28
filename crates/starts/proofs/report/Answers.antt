-- `starts::report`: a reading is written where there is room, and counted. Assumes nothing.
use Rattle.std.proofs.Common.{arith, ℕ, ◌≡◌, ◌+◌, ap, ◌∙◌}
use Rattle.slots.specs.Slots.{count_in}
use Rattle.starts.specs.Sinks.{sum}
use Rattle.starts.proofs.Sinks.{reported, unreported}
use Rattle.starts.proofs.report.Goals as goal
use Rattle.starts.proofs.report.Goals.{then-bindings-saturating_sub, else-bindings-saturating_sub}

pub returns : goal.returns
unfolding sum
returns c = let a = c.args in
    let n = c.count_of-bindings.ensures in
    let used : c.saturating_add.result ≡ sum a.counts.used (count_in a.slot.now + 1) =
    c.saturating_add.ensures ∙ ap (λ (k : ℕ). sum a.counts.used (k + 1)) n in
    elim c.if-bindings-saturating_sub.branch [
      | then-bindings-saturating_sub w ↦
          reported _ _ _ _ _ _ _ (omega arith) (w.res-is ∙ w.put_line.ensures) used c.saturating_add-2.ensures
      | else-bindings-saturating_sub w ↦ rw w.res-is (unreported _ _ _ _ _ _ (omega arith) used c.saturating_add-2.ensures)
    ]
