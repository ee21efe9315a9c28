-- Readings whose latest binding is of the cycle at hand, and the steps that are theirs. Assumes nothing.
use Rattle.std.proofs.Common.{◌≡◌, ap₂, Bool, true, false, ◌&&◌, List, ℕ, ◌^◌, ◌≤◌, ◌<◌, lt_of_lt_of_le, arith, bit_or}
use Rattle.std.proofs.Common.{eqb, ltb, pow_mono, lt-ltb, ltb-true, eq-eqb, eqb-true}
use Rattle.numbers.specs.Bits.{bit, disjoint}
use Rattle.numbers.proofs.Cases.{by-test, by_order, both}
use Rattle.numbers.proofs.Bits.{or-weight-bound}
use Rattle.records.specs.Records.{record_at}
use Rattle.patterns.specs.Patterns.{most_variables}
use Rattle.automaton.proofs.Membership.{clash}
use Rattle.plans.specs.Plan.{marks_in}
use Rattle.firing.specs.Firing.{can_by}
use Rattle.reach.specs.Readings.{leaving_by}
use Rattle.reach.proofs.MaskInTurn.{low_bits}
use Rattle.states.specs.States.{fresh_mark, shown, leaves_from}
use Rattle.states.proofs.Fresh.{leaving-small, shown-leaves, leaves-shown}
use Rattle.sweep.specs.Floors.{Steps}

-- there are bindings, and the latest is of the cycle
unfoldable pub is_fresh : List ℕ → ℕ → ℕ → ℕ → Bool
is_fresh bytes k last cycle = ltb 0 k && eqb (record_at bytes last).time cycle

module _ (bytes : List ℕ) (k last cycle : ℕ) where
  pub fresh-of : 0 < k → (record_at bytes last).time ≡ cycle → is_fresh bytes k last cycle ≡ true
  unfolding is_fresh
  fresh-of some e = ap₂ ◌&&◌ (lt-ltb 0 k some) (eq-eqb (record_at bytes last).time cycle e)

  pub fresh-parts : is_fresh bytes k last cycle ≡ true → (0 < k) × ((record_at bytes last).time ≡ cycle)
  unfolding is_fresh
  fresh-parts t =
      let parts = both (ltb 0 k) (eqb (record_at bytes last).time cycle) t in
      (ltb-true 0 k parts.0, eqb-true (record_at bytes last).time cycle parts.1)

  pub not-fresh : ((0 < k) → (record_at bytes last).time ≡ cycle → ⊥) → is_fresh bytes k last cycle ≡ false
  not-fresh none =
      by-test (is_fresh bytes k last cycle)
      (λ t. let parts = fresh-parts t in absurd (none parts.0 parts.1))
      (λ t. t)

-- with one variable more a state is one yet
pub taken-small :
    (plan : List ℕ) (n state v : ℕ) → n ≤ most_variables → state < fresh_mark → bit (leaving_by plan n state) v ≡ true
    → bit_or state (2 ^ v) < fresh_mark
taken-small plan n state v few small t =
    or-weight-bound state most_variables v small
    (low_bits (leaving_by plan n state) most_variables v (lt_of_lt_of_le (leaving-small plan n state) (pow_mono few)) t)

module _ (plan bytes : List ℕ) (n c j k state last : ℕ) (small : state < fresh_mark) where
  -- a step is by a variable that leaves what is shown in the cycle of record j
  pub steps-leave :
      (v : ℕ) → Steps plan bytes n c j k state last v
      → bit (leaves_from plan n (shown plan n (is_fresh bytes k last (record_at bytes j).time) state)) v ≡ true
  steps-leave v steps =
      leaves-shown plan n state small (is_fresh bytes k last (record_at bytes j).time) v steps.leaves
      (λ t.
      let parts = fresh-parts bytes k last (record_at bytes j).time t in
      by-test (disjoint state (marks_in plan v))
      (λ d. let later = steps.later parts.0 d in let same = parts.1 in absurd (omega arith))
      (λ d. d))

  pub leave-steps :
      (v : ℕ) → (0 < k → (record_at bytes last).time ≤ (record_at bytes j).time) → bit (can_by plan n c bytes j) v ≡ true
      → bit (leaves_from plan n (shown plan n (is_fresh bytes k last (record_at bytes j).time) state)) v ≡ true
      → Steps plan bytes n c j k state last v
  leave-steps v recent can t =
      let parts = shown-leaves plan n state small (is_fresh bytes k last (record_at bytes j).time) v t in
      record {
        can = can;
        leaves = parts.0;
        later = λ some d.
            let up_to = recent some in
            by_order (record_at bytes last).time (record_at bytes j).time
            (λ l. l)
            (λ l. clash d (parts.1 (fresh-of bytes k last (record_at bytes j).time some (omega arith))));
      }
