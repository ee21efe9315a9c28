-- `firing::settle` meets its contract. The loop's invariant: the mask is settled by the conditions of the kind whose bits
-- are no longer left. Assumes nothing.
use Rattle.std.proofs.Common.{ℕ, List, ◌≡◌, ◌^◌, ◌<◌}
use Rattle.records.specs.Records.{record_at}
use Rattle.patterns.specs.Patterns.{condition_of}
use Rattle.plans.specs.Plan.{settled}
use Rattle.firing.specs.Firing.{Compares, settled_order}
use Rattle.firing.proofs.Settling.{OfKind, left_by}
use Rattle.firing.proofs.settle.Given as goal

abbrev pub invariant-loop-rest : goal.invariant-loop-rest
invariant-loop-rest g l = (l.rest < 2 ^ l.c) × OfKind l.plan l.kind l.rest
    × ((bytes : List ℕ) (i : ℕ)
    → ((word : ℕ) (s : ℕ × ℕ) → Compares l.kind (condition_of word) → g.F.Fn.post l.sides (condition_of word, tt) s
    → (m : ℕ) → settled_order m (condition_of word) s.0 s.1 ≡ settled m (condition_of word) (record_at bytes i))
    → l.left ≡ left_by l.plan bytes i l.n l.c l.kind l.can l.rest)

abbrev pub decreases-loop-rest : goal.decreases-loop-rest
decreases-loop-rest g l = l.rest
