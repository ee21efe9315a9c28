-- `forward::forward` meets its contract: what the call answers, and lent memory cleared behind it. Assumes nothing.
use Rattle.std.proofs.Common.{rules, ℕ, ap, ◌∙◌, replicate}
use Rattle.std.proofs.lemmas.Result.{MatchResult-weaker}
use Rattle.forward.proofs.Calls.{answer-of, called-room, call-made}
use Rattle.forward.proofs.forward.Goals as goal

pub finish-requires : goal.finish-requires
finish-requires c = let e = answer-of c.call-outcome.result _ (MatchResult-weaker c.call-outcome.result c.unwrap_or_else-answer.ensures (λ x h. h) (λ r h. search rules)) in
    rw e (called-room c.call-outcome.ensures)

pub returns : goal.returns
returns c = let f = c.finish.ensures in
    let e = answer-of c.call-outcome.result _ (MatchResult-weaker c.call-outcome.result c.unwrap_or_else-answer.ensures (λ x h. h) (λ r h. search rules)) in
    rw (f.0, e)
    (call-made (f.1 ∙ ap (λ (n : ℕ). replicate n 0) c.call-outcome.auto.work) c.call-outcome.ensures (rw e at f.2))
