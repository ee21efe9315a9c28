-- What pattern and index are refused by, the pattern first. Assumes nothing.
use mathlib.Core.Path.{◌≡◌}
use mathlib.Core.Bool.{Bool, true, false}
use Prim.Native.Nat.{ℕ}
use borrow.Author.Tests.{eq-eqb, ne_eqb}
use Rattle.records.specs.Blocks.{refused}
use Rattle.index.specs.Upto.{first_refusal}

module _ (code place : ℕ) where
  pub first-pattern : (broken : Bool) → ¬ (code ≡ 0) → first_refusal code place broken ≡ refused code place
  unfolding first_refusal
  first-pattern broken n = rw (ne_eqb code 0 n, first_refusal)

  pub first-index : code ≡ 0 → first_refusal code place true ≡ refused 15 0
  unfolding first_refusal
  first-index e = rw (eq-eqb code 0 e, first_refusal)

  pub first-none : code ≡ 0 → first_refusal code place false ≡ refused 0 0
  unfolding first_refusal
  first-none e = rw (eq-eqb code 0 e, first_refusal)
