-- Each firing variable in turn, by the bits of a mask: none left, the lowest first, and the variables that fire by the
-- rule. Assumes nothing.
use mathlib.Core.Path.{◌≡◌, refl, sym, ap, ap₂, ◌∙◌}
use mathlib.Core.Bool.{Bool, true, false, not, ◌&&◌, and-false}
use mathlib.Core.List.{List, [], ◌++◌}
use Prim.Native.Nat.{ℕ, zero, suc, ◌+◌, ◌-◌, ◌*◌, ◌^◌, ◌≤◌, ◌<◌}
use native.Mathlib.Omega.{arith}
use lib.Dec.{eqb}
use lib.Pow.{pow_pos}
use borrow.Author.Tests.{eq-eqb, ne_eqb}
use Rattle.numbers.specs.Numbers.{upto, one_if}
use Rattle.numbers.specs.Bits.{bit, mask, IsLowestBit}
use Rattle.numbers.proofs.Cases.{by-test, by_order}
use Rattle.numbers.proofs.Bits.{bit-zero, bit_high, mask-inside, mask-of-bits, mask-without}
use Rattle.patterns.specs.Patterns.{most_variables}
use Rattle.automaton.specs.Filtering.{keep, filter, collect}
use Rattle.automaton.proofs.Membership.{clash}
use Rattle.rule.specs.Starts.{Found, in_turn}
use Rattle.rule.proofs.SkipBranch.{turn_end, turn-to, turn-takes}

filter_same :
    (f g : ℕ → Bool) (n v : ℕ) → ((u : ℕ) → v ≤ u → u < v + n → f u ≡ g u) → filter f (upto v n) ≡ filter g (upto v n)
unfolding upto filter
filter_same f g zero v h = refl
filter_same f g (suc n) v h =
    ap₂ (λ (t : Bool) (l : List ℕ). keep t v l) (h v (omega arith) (omega arith)) (filter_same f g n (suc v) (λ u a b. h u (omega arith) (omega arith)))

pub turn-same :
    (f g : ℕ → Bool) (next : ℕ → List Found) (v n : ℕ) → ((u : ℕ) → v ≤ u → u < v + n → f u ≡ g u)
    → in_turn f next v n ≡ in_turn g next v n
unfolding in_turn
turn-same f g next v n h = ap (collect next) (filter_same f g n v h)

-- the number without bit v
rest-bit :
    (firing v u : ℕ) → firing < 2 ^ most_variables → v < most_variables → u < most_variables
    → bit (firing - one_if (bit firing v) * 2 ^ v) u ≡ not (eqb v u) && bit firing u
rest-bit firing v u h l m =
    ap (λ (x : ℕ). bit (x - one_if (bit x v) * 2 ^ v) u) (sym (mask-of-bits firing most_variables h))
    ∙ ap (λ (x : ℕ). bit x u) (mask-without (bit firing) most_variables v)
    ∙ mask-inside (λ w. not (eqb v w) && bit firing w) most_variables u m

module _ (next : ℕ → List Found) (n : ℕ) where
  all-of-them : (f : ℕ → Bool) → in_turn f next 0 (n - 0) ≡ in_turn f next 0 n
  all-of-them f = let z : n - 0 ≡ n = omega arith in rw z

  pub turn-none : (firing : ℕ) → firing ≡ 0 → in_turn (bit firing) next 0 n ≡ []
  turn-none firing e =
      sym (all-of-them (bit firing))
      ∙ turn-to (bit firing) next n 0 n (omega arith) (omega arith) (λ u a b. ap (λ (x : ℕ). bit x u) e ∙ bit-zero u)
      ∙ turn_end (bit firing) next n n (omega arith)

  pub turn-lowest :
      (firing v bits : ℕ) → n ≤ most_variables → firing < 2 ^ most_variables → IsLowestBit bits firing v → v < n
      → in_turn (bit firing) next 0 n ≡ next v ++ in_turn (bit (firing - one_if (bit firing v) * 2 ^ v)) next 0 n
  turn-lowest firing v bits few small low l =
      sym (all-of-them (bit firing))
      ∙ turn-to (bit firing) next n 0 v (omega arith) (omega arith) (λ u a b. low.none u b)
      ∙ turn-takes (bit firing) next n v l low.here
      ∙ ap (λ (x : List Found). next v ++ x)
      (turn-same (bit firing) (bit rest) next (suc v) (n - suc v) (λ u a b. sym (kept u (omega arith) (omega arith)))
      ∙ sym (turn-to (bit rest) next n 0 (suc v) (omega arith) (omega arith) (λ u a b. gone u (omega arith)))
      ∙ all-of-them (bit rest))
    where
      rest : ℕ
      rest = firing - one_if (bit firing v) * 2 ^ v

      kept : (u : ℕ) → v < u → u < most_variables → bit rest u ≡ bit firing u
      kept u a b =
          rest-bit firing v u small (omega arith) b ∙ ap (λ (t : Bool). not t && bit firing u) (ne_eqb v u (λ e. omega arith))

      gone : (u : ℕ) → u ≤ v → bit rest u ≡ false
      gone u a =
          rest-bit firing v u small (omega arith) (omega arith)
          ∙ by_order u v
          (λ b. ap (λ (t : Bool). not (eqb v u) && t) (low.none u b) ∙ and-false (not (eqb v u)))
          (λ b. let e : v ≡ u = omega arith in ap (λ (t : Bool). not t && bit firing u) (eq-eqb v u e))

-- the variables of a mask
pub mask-turn :
    (test : ℕ → Bool) (next : ℕ → List Found) (n firing : ℕ) → firing ≡ mask test n
    → in_turn test next 0 (n - 0) ≡ in_turn (bit firing) next 0 n
mask-turn test next n firing e =
    all-of-them next n test
    ∙ turn-same test (bit firing) next 0 n (λ u a b. sym (ap (λ (x : ℕ). bit x u) e ∙ mask-inside test n u (omega arith)))

-- a mask of n bits
pub low_bits : (firing n v : ℕ) → firing < 2 ^ n → bit firing v ≡ true → v < n
low_bits firing n v h e = by_order v n (λ l. l) (λ l. clash e (bit_high firing n v h l))

-- what is left is less, and has no bit that was not there
pub rest-known :
    (firing v u : ℕ) → firing < 2 ^ most_variables → v < most_variables
    → bit (firing - one_if (bit firing v) * 2 ^ v) u ≡ true
    → bit firing u ≡ true
rest-known firing v u h l e =
    by-test (bit firing u) (λ t. t)
    (λ t.
    by_order u most_variables
    (λ m. clash e (rest-bit firing v u h l m ∙ ap (λ (x : Bool). not (eqb v u) && x) t ∙ and-false (not (eqb v u))))
    (λ m. clash e (bit_high (firing - one_if (bit firing v) * 2 ^ v) most_variables u (omega arith) m)))

pub rest-less :
    (firing v bits : ℕ) → 0 < firing → IsLowestBit bits firing v → firing - one_if (bit firing v) * 2 ^ v < firing
rest-less firing v bits h low =
    let e : one_if (bit firing v) * 2 ^ v ≡ 1 * 2 ^ v = ap (λ (t : Bool). one_if t * 2 ^ v) low.here in
    let w : 0 < 2 ^ v = pow_pos v in
    omega arith
