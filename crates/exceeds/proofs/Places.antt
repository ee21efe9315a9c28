-- By places alone: a reading takes one binding a record at most. Assumes nothing.
use mathlib.Core.Path.{ap}
use mathlib.Core.List.{List}
use Prim.Native.Nat.{ℕ, ◌+◌, ◌≤◌}
use native.Mathlib.Omega.{arith}
use lib.ListN.{length}
use Rattle.records.specs.Records.{records_of}
use Rattle.patterns.specs.declared.Pattern.{Pattern}
use Rattle.rule.specs.Rule.{Block, Reading}
use Rattle.rule.specs.Promises.{most_bindings}
use Rattle.slots.specs.Slots.{count_in, held_in}
use Rattle.slots.proofs.Slots.{length-held_in}
use Rattle.reach.specs.declared.Start.{Start}
use Rattle.reach.specs.Growing.{Grows, NoneOver}
use Rattle.reach.specs.Growing.Grows.{here, waits, takes}

-- what has grown since record j has at most a binding more for each record
pub grows-length :
    (p : Pattern) (B : Block) (r : Reading) (j : ℕ) (q : Reading) (i : ℕ) → Grows p B r j q i
    → length q + j ≤ length r + i
grows-length p B r j q i (here a b) = omega (arith, ap length a)
grows-length p B r j q i (waits k e g idle) = let l = grows-length p B r j q k g in omega arith
grows-length p B r j q i (takes k v o e a g f) =
    let l = grows-length p B r j o k g in omega (arith, ap length a)

-- too few records are left
pub none_over :
    (s : Start) (slot : List ℕ) (j end : ℕ) → count_in slot + end ≤ most_bindings + j
    → (plan bytes : List ℕ)
    → NoneOver plan bytes s slot j end
none_over s slot j end few plan bytes =
    record {
      few = λ p o q i v g l f.
          omega (arith, grows-length p (records_of bytes) (held_in slot).bindings j q i g, length-held_in slot);
    }
