-- The step on held readings: what one reading becomes, variable by variable, and what all become. Assumes nothing.
use mathlib.Core.Path.{◌≡◌, refl, sym, ap, ◌∙◌}
use mathlib.Core.Bool.{Bool, true, false, ◌&&◌, and-true}
use mathlib.Core.List.{List, [], ◌∷◌, ◌++◌, map, append-nil}
use Prim.Native.Nat.{ℕ, ◌-◌, ◌^◌, ◌≤◌, ◌<◌}
use native.Mathlib.Omega.{arith}
use lib.ListN.{length}
use Rattle.numbers.specs.Numbers.{upto}
use Rattle.numbers.specs.Bits.{bit, disjoint, IsLowestBit}
use Rattle.numbers.proofs.Every.{every_of}
use Rattle.patterns.specs.Patterns.{most_variables, most_conditions}
use Rattle.automaton.specs.Filtering.{all, keep, collect}
use Rattle.automaton.proofs.All.{implies-of}
use Rattle.rule.specs.Computed.{or_else}
use Rattle.slots.specs.Slots.{Held, grow}
use Rattle.plans.specs.Plan.{marks_in, joins_in}
use Rattle.firing.specs.Firing.{leaves_by, later_than, later_by, join_holds, joins_by, agrees_by, fires_by}
use Rattle.live.specs.Live.{one_by, fired_by, extend_by, unbound, step_by, first_by, begun_by}
use Rattle.live.proofs.MapFilter.{filter_same}
use Rattle.live.proofs.MaskInTurn.{made_none, length-made, made-lowest}

module _ (plan bytes : List ℕ) (i : ℕ) where
  -- ## Variable by variable

  module _ (h : Held) where
    -- what a reading is asked beside the new event's own conditions
    abbrev asked : ℕ → Bool
    asked v = leaves_by plan h.state v && agrees_by plan bytes i v h

    pub fired-none : fired_by plan bytes i 0 h ≡ []
    unfolding fired_by fires_by
    fired-none = made_none asked (λ v. grow i v h) most_variables

    -- the lowest variable, then those that are left
    pub fired-lowest :
        (rest v bits : ℕ) → rest < 2 ^ most_variables → IsLowestBit bits rest v
        → fired_by plan bytes i rest h ≡ one_by plan bytes i v h ++ fired_by plan bytes i (rest - 2 ^ v) h
    unfolding fired_by fires_by one_by
    fired-lowest rest v bits small low = made-lowest asked (λ u. grow i u h) most_variables rest v bits small low

    pub length-fired : (can : ℕ) → length (fired_by plan bytes i can h) ≤ most_variables
    unfolding fired_by fires_by
    length-fired can = length-made asked (λ v. grow i v h) most_variables can

    module _ (v : ℕ) where
      pub one-fires :
          leaves_by plan h.state v ≡ true → agrees_by plan bytes i v h ≡ true
          → one_by plan bytes i v h ≡ grow i v h ∷ []
      unfolding one_by keep
      one-fires e f = ap (λ (t : Bool). keep t (grow i v h) []) (λ j. e j && f j)

      pub one-stays : leaves_by plan h.state v ≡ false → one_by plan bytes i v h ≡ []
      unfolding one_by keep
      one-stays e = ap (λ (t : Bool). keep (t && agrees_by plan bytes i v h) (grow i v h) []) e

      pub one-fails :
          leaves_by plan h.state v ≡ true → agrees_by plan bytes i v h ≡ false → one_by plan bytes i v h ≡ []
      unfolding one_by keep
      one-fails e f = ap (λ (t : Bool). keep t (grow i v h) []) (λ j. e j && f j)

    -- ## Extensions, or the reading itself

    module _ (can : ℕ) where
      pub extend-fired :
          0 < length (fired_by plan bytes i can h) → extend_by plan bytes i can h ≡ fired_by plan bytes i can h
      unfolding extend_by or_else
      extend-fired l = go (fired_by plan bytes i can h) l
        where
          go : (m : List Held) → 0 < length m → or_else h m ≡ m
          go [] e = absurd (omega arith)
          go (y ∷ m) e = refl

      pub extend-kept : fired_by plan bytes i can h ≡ [] → extend_by plan bytes i can h ≡ h ∷ []
      unfolding extend_by or_else
      extend-kept e = ap (or_else h) e

      pub length-extend : length (extend_by plan bytes i can h) ≤ most_variables
      unfolding extend_by or_else
      length-extend = go (fired_by plan bytes i can h) (length-fired can)
        where
          go : (m : List Held) → length m ≤ most_variables → length (or_else h m) ≤ most_variables
          go [] k = omega arith
          go (y ∷ m) k = omega arith

  -- ## Where no variable can fire

  pub step-idle : (l : List Held) → step_by plan bytes i 0 l ≡ l
  unfolding step_by collect
  step-idle l = (λ j. same l j ++ fired-none unbound j) ∙ append-nil l
    where
      same : (m : List Held) → collect (extend_by plan bytes i 0) m ≡ m
      same [] = refl
      same (h ∷ m) = λ j. extend-kept h 0 (fired-none h) j ++ same m j

-- ## Readings that begin

module _ (plan : List ℕ) (i : ℕ) where
  pub begun-none : begun_by plan i 0 ≡ []
  unfolding begun_by
  begun-none = made_none (leaves_by plan 0) (λ v. grow i v unbound) most_variables

  pub begun-lowest :
      (rest v bits : ℕ) → rest < 2 ^ most_variables → IsLowestBit bits rest v
      → begun_by plan i rest ≡ first_by plan i v ++ begun_by plan i (rest - 2 ^ v)
  unfolding begun_by first_by
  begun-lowest rest v bits small low = made-lowest (leaves_by plan 0) (λ u. grow i u unbound) most_variables rest v bits small low

  pub length-begun : (can : ℕ) → length (begun_by plan i can) ≤ most_variables
  unfolding begun_by
  length-begun can = length-made (leaves_by plan 0) (λ v. grow i v unbound) most_variables can

  pub first-fires : (v : ℕ) → leaves_by plan 0 v ≡ true → first_by plan i v ≡ grow i v unbound ∷ []
  unfolding first_by keep
  first-fires v e = ap (λ (t : Bool). keep t (grow i v unbound) []) e

  pub first-stays : (v : ℕ) → leaves_by plan 0 v ≡ false → first_by plan i v ≡ []
  unfolding first_by keep
  first-stays v e = ap (λ (t : Bool). keep t (grow i v unbound) []) e

  -- nothing is bound that the new event could disagree with
  module _ (bytes : List ℕ) where
    agrees-unbound : (v : ℕ) → agrees_by plan bytes i v unbound ≡ true
    unfolding unbound later_by later_than joins_by join_holds all
    agrees-unbound v =
        λ j. implies-of (disjoint 0 (marks_in plan v)) true (λ e. refl) j
        && every_of (join_holds plan bytes i v []) most_conditions (λ k l. implies-of (bit (joins_in plan v) k) true (λ e. refl)) j

    pub begun-fired : (can : ℕ) → begun_by plan i can ≡ fired_by plan bytes i can unbound
    unfolding begun_by fired_by fires_by unbound
    begun-fired can =
        ap (map (λ v. grow i v unbound))
        (filter_same (λ v. bit can v && leaves_by plan 0 v) (λ v. fires_by plan bytes i can v unbound) (upto 0 most_variables)
        (λ v m.
        ap (λ (t : Bool). bit can v && t)
        (sym (and-true (leaves_by plan 0 v)) ∙ ap (λ (t : Bool). leaves_by plan 0 v && t) (sym (agrees-unbound v)))))
