-- What a reading can still come to, and what it can no longer come to. No promise of a public call names this file.
use Rattle.std.specs.Prelude.{◌≡◌, true, false, List, ℕ, suc, ◌<◌, length}
use Rattle.records.specs.Records.{records_of}
use Rattle.patterns.specs.declared.Pattern.{Pattern}
use Rattle.rule.specs.Rule.{Block, Reading, fires, is_full}
use Rattle.rule.specs.Promises.{most_bindings}
use Rattle.rule.specs.Starts.{with_binding}
use Rattle.slots.specs.Slots.{held_in}
use Rattle.reach.specs.declared.Start.{Start}
use Rattle.reach.specs.Readings.{Of}

-- reading r, held before record j, has become q before record i: at each record between, a step that fires was taken,
-- or none where none fires. So it is by the rule, but for its bound on bindings; what is proved of all these readings
-- holds of the rule's.
pub data Grows (p : Pattern) (B : Block) (r : Reading) (j : ℕ) : Reading → ℕ → Type 0 where
  here : {q : Reading} {i : ℕ} → q ≡ r → i ≡ j → Grows p B r j q i
  waits :
      {q : Reading} {i : ℕ} (k : ℕ) → i ≡ suc k → Grows p B r j q k
      → ((v : ℕ) → fires p B q v k ≡ false)
      → Grows p B r j q i
  takes :
      {q : Reading} {i : ℕ} (k v : ℕ) (o : Reading) → i ≡ suc k → q ≡ with_binding o v k → Grows p B r j o k
      → fires p B o v k ≡ true
      → Grows p B r j q i

-- the slot's reading, held before record j, is not full where it closes
pub record NeverFull (plan bytes : List ℕ) (s : Start) (slot : List ℕ) (j : ℕ) : Type 0 where
  pub part :
      (p : Pattern) → Of p plan bytes s.n s.c → (q : Reading)
      → Grows p (records_of bytes) (held_in slot).bindings j q s.until
      → is_full p q ≡ false

-- the slot's reading, held before record j, takes no binding too many before record `end`
pub record NoneOver (plan bytes : List ℕ) (s : Start) (slot : List ℕ) (j end : ℕ) : Type 0 where
  pub few :
      (p : Pattern) → Of p plan bytes s.n s.c → (q : Reading) (i v : ℕ)
      → Grows p (records_of bytes) (held_in slot).bindings j q i
      → i < end → fires p (records_of bytes) q v i ≡ true
      → length q < most_bindings
