-- What a step that a grown reading takes says of the reading that was at hand: its variable joins what was bound then,
-- and could be bound, again or once. Assumes nothing.
use mathlib.Core.Path.{◌≡◌, refl, sym, ap, ap₂, subst, ◌∙◌}
use mathlib.Core.Bool.{Bool, true, false, not, ◌&&◌, ◌||◌}
use mathlib.Core.List.{List}
use Prim.Native.Nat.{ℕ, ◌^◌, ◌≤◌, ◌<◌}
use native.Mathlib.Omega.{arith}
use borrow.Author.Tests.{eqb-true, eq-eqb}
use lib.Dec.{eqb}
use lib.Pow.{pow-lt}
use Rattle.numbers.specs.Bits.{bit}
use Rattle.numbers.proofs.Cases.{by-test}
use Rattle.numbers.proofs.Bits.{bit-weight, disjoint-of, disjoint-true, mask_bound}
use Rattle.records.specs.Records.{record_count, records_of}
use Rattle.patterns.specs.declared.Pattern.{Pattern}
use Rattle.patterns.specs.Patterns.{most_variables}
use Rattle.automaton.proofs.Membership.{clash}
use Rattle.rule.specs.Rule.{Block, Reading, binds, fires}
use Rattle.rule.proofs.LiveReadings.{fires-variable}
use Rattle.slots.specs.Slots.{holding}
use Rattle.slots.proofs.Holding.{holding-bit}
use Rattle.plans.specs.Plan.{after_in}
use Rattle.firing.proofs.Slots.{leaves_loop}
use Rattle.firing.specs.Firing.{can_by, leaves_by, joins_by, ReadBelow}
use Rattle.reach.specs.Readings.{Of}
use Rattle.reach.specs.Growing.{Grows}
use Rattle.reach.specs.Growing.Grows.{here, waits, takes}
use Rattle.reach.proofs.Growing.{fires-in}
use Rattle.exceeds.specs.Open.{loops_by, again_by, once_by}

pub or-true : (a b : Bool) → b ≡ true → a || b ≡ true
or-true true b e = refl
or-true false b e = e

-- what was bound stays bound
pub grows-binds :
    (p : Pattern) (B : Block) (r : Reading) (j : ℕ) (q : Reading) (i : ℕ) → Grows p B r j q i → (v : ℕ)
    → binds r v ≡ true
    → binds q v ≡ true
unfolding binds
grows-binds p B r j q i (here a e) v b = subst (λ (x : Reading). binds x v ≡ true) (sym a) b
grows-binds p B r j q i (waits k e g idle) v b = grows-binds p B r j q k g v b
grows-binds p B r j q i (takes k w o e a g f) v b =
    subst (λ (x : Reading). binds x v ≡ true) (sym a) (or-true (eqb w v) (binds o v) (grows-binds p B r j o k g v b))

-- ## Leaving a state

module _ (plan : List ℕ) where
  -- one that is bound and leaves may be bound more than once
  pub bound-loops :
      (state v : ℕ) → v < most_variables → bit state v ≡ true → leaves_by plan state v ≡ true → loops_by plan v ≡ true
  unfolding loops_by
  bound-loops state v l e h =
      let free : bit (after_in plan v) v ≡ false =
      disjoint-true state (after_in plan v) (sym (leaves_loop plan state v e) ∙ h) v e in
      leaves_loop plan (2 ^ v) v (bit-weight v v ∙ eq-eqb v v refl)
      ∙ disjoint-of (2 ^ v) (after_in plan v) most_variables (pow-lt l)
      (λ u m t.
      let z : v ≡ u = eqb-true v u (sym (bit-weight v u) ∙ t) in
      subst (λ (x : ℕ). bit (after_in plan v) x ≡ false) z free)

  -- a bound variable that leaves a state leaves one with less of it bound
  pub leaves-fewer :
      (less more v : ℕ) → less < 2 ^ most_variables
      → ((u : ℕ) → u < most_variables → bit less u ≡ true → bit more u ≡ true)
      → v < most_variables
      → bit less v ≡ true
      → leaves_by plan more v ≡ true
      → leaves_by plan less v ≡ true
  leaves-fewer less more v small kept l e h =
      leaves_loop plan less v e
      ∙ disjoint-of less (after_in plan v) most_variables small
      (λ u m t. disjoint-true more (after_in plan v) (sym (leaves_loop plan more v (kept v l e)) ∙ h) u (kept u m t))

-- ## A step that is taken

-- v was open in reading r, and is bound to record i in the reading o that r has become
pub record Taken (plan bytes : List ℕ) (n c : ℕ) (r o : Reading) (i v : ℕ) : Type 0 where
  pub inside : v < n
  pub can : bit (can_by plan n c bytes i) v ≡ true
  pub joins : joins_by plan bytes i v r ≡ true
  pub again : loops_by plan v ≡ true → again_by plan (holding r).state v ≡ true
  pub once : loops_by plan v ≡ false → once_by plan (holding r).state v ≡ true
  pub new : loops_by plan v ≡ false → binds o v ≡ false

module _ (p : Pattern) (plan bytes : List ℕ) (n c : ℕ) (of : Of p plan bytes n c) (few : n ≤ most_variables)
    (r : Reading) (j : ℕ) (known : ReadBelow p j r) (o : Reading) (i v : ℕ) (l : i < record_count bytes)
    (g : Grows p (records_of bytes) r j o i) (f : fires p (records_of bytes) o v i ≡ true) where
  abbrev inside : v < n
  inside = omega (arith, fires-variable p (records_of bytes) o v i f, of.variables)

  leaves : leaves_by plan (holding o).state v ≡ true
  leaves = (fires-in p plan bytes n c of r j known o i v l g f).leaves

  kept : (u : ℕ) → u < most_variables → bit (holding r).state u ≡ true → bit (holding o).state u ≡ true
  kept u m e =
      holding-bit o u m ∙ grows-binds p (records_of bytes) r j o i g u (sym (holding-bit r u m) ∙ e)

  small : (holding r).state < 2 ^ most_variables
  unfolding holding
  small = mask_bound (binds r) most_variables

  still : not (bit (holding r).state v) || leaves_by plan (holding r).state v ≡ true
  still =
      by-test (bit (holding r).state v)
      (λ e.
      or-true (not (bit (holding r).state v)) (leaves_by plan (holding r).state v)
      (leaves-fewer plan (holding r).state (holding o).state v small kept (omega (arith, inside)) e leaves))
      (λ e. ap (λ (t : Bool). not t || leaves_by plan (holding r).state v) e)

  unbound : loops_by plan v ≡ false → bit (holding o).state v ≡ false
  unbound e =
      by-test (bit (holding o).state v)
      (λ t. clash (bound-loops plan (holding o).state v (omega (arith, inside)) t leaves) e)
      (λ t. t)

  unbound-first : loops_by plan v ≡ false → bit (holding r).state v ≡ false
  unbound-first e =
      by-test (bit (holding r).state v)
      (λ t. clash (kept v (omega (arith, inside)) t) (unbound e))
      (λ t. t)

  again : loops_by plan v ≡ true → again_by plan (holding r).state v ≡ true
  unfolding again_by
  again e = ap₂ (λ (a b : Bool). a && b) e still

  once : loops_by plan v ≡ false → once_by plan (holding r).state v ≡ true
  unfolding once_by
  once e = ap₂ (λ (a b : Bool). not a && not b) e (unbound-first e)

  pub taken : Taken plan bytes n c r o i v
  taken =
      record {
        inside = inside;
        can = (fires-in p plan bytes n c of r j known o i v l g f).can;
        joins = (fires-in p plan bytes n c of r j known o i v l g f).joins;
        again = again;
        once = once;
        new = λ e. sym (holding-bit o v (omega (arith, inside))) ∙ unbound e;
      }
