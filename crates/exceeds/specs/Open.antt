-- What a reading can still bind, by its state, and how a record is counted. No promise of a public call names this
-- file.
use Rattle.std.specs.Prelude.{◌≡◌, Bool, not, ◌&&◌, ◌||◌, List, ℕ, ◌+◌, ◌^◌, ◌≤◌}
use Rattle.std.specs.Int.Bits.{bit_and}
use Rattle.numbers.specs.Numbers.{count}
use Rattle.numbers.specs.Bits.{bit, mask}
use Rattle.rule.specs.Rule.{Reading}
use Rattle.firing.specs.Firing.{leaves_by}
use Rattle.reach.specs.Readings.{NoneJoins}
use Rattle.exceeds.specs.declared.Open.{Open}
use Rattle.exceeds.specs.declared.Tally.{Tally}

-- v may be bound more than once: it does not stand in its own way
unfoldable pub loops_by : List ℕ → ℕ → Bool
loops_by plan v = leaves_by plan (2 ^ v) v

-- from a state on, v can be bound, and more than once
unfoldable pub again_by : List ℕ → ℕ → ℕ → Bool
again_by plan state v = loops_by plan v && (not (bit state v) || leaves_by plan state v)

-- from a state on, v can be bound, and once only
unfoldable pub once_by : List ℕ → ℕ → ℕ → Bool
once_by plan state v = not (loops_by plan v) && not (bit state v)

-- the variables of either kind, and how many there are of the second
pub record IsOpen (plan : List ℕ) (n state : ℕ) (o : Open) : Type 0 where
  pub again : o.again ≡ mask (again_by plan state) n
  pub once : o.once ≡ mask (once_by plan state) n
  pub singles : o.singles ≡ count (once_by plan state) n

-- how record i is counted: where a variable that can be bound again joins; else where one that can be bound once does,
-- as long as there are more of these than records counted for them; else not
pub data Counted (plan bytes : List ℕ) (i can : ℕ) (o : Open) (r : Reading) (t u : Tally) : Type 0 where
  again : u.many ≡ t.many + 1 → u.single ≡ t.single → Counted plan bytes i can o r t u
  once :
      NoneJoins plan bytes i (bit_and can o.again) r → u.many ≡ t.many → u.single ≡ t.single + 1
      → Counted plan bytes i can o r t u
  full :
      NoneJoins plan bytes i (bit_and can o.again) r → o.singles ≤ t.single → u.many ≡ t.many
      → u.single ≡ t.single
      → Counted plan bytes i can o r t u
  none :
      NoneJoins plan bytes i (bit_and can o.again) r → NoneJoins plan bytes i (bit_and can o.once) r
      → u.many ≡ t.many
      → u.single ≡ t.single
      → Counted plan bytes i can o r t u
