-- The listing of a pattern that is read meets its promise. Assumes nothing.
use Rattle.std.proofs.Common.{arith, ◌≡◌, ◌∙◌, refl, ap, subst, ℕ, ◌≤◌, ◌<◌, List, length, Ok}
use Rattle.records.specs.Blocks.{refused}
use Rattle.patterns.specs.declared.Pattern.{Pattern}
use Rattle.patterns.specs.Checked.{checked_of, pattern_answer, pattern_of}
use Rattle.patterns.proofs.InOrder.{read-accepted, read-pattern, read-in-order}
use Rattle.automaton.specs.Automaton.{IsListing}
use Rattle.automaton.specs.Listing.{ListingPromise, no_room, listed, step_room, all_zero, steps_listed}
use Rattle.automaton.specs.Steps.{steps, Sink, sink_of, puts}
use Rattle.automaton.proofs.Listing.{steps-is}
use Rattle.automaton.proofs.Sinks.{count-after, puts-listing}

-- the steps of the pattern that is read, put into a cleared slice
module _ (bytes : List ℕ) (p : Pattern) (is : checked_of (Ok p) ≡ pattern_answer bytes)
    (lent count : ℕ) (cleared memory : List ℕ) (zero : cleared ≡ all_zero lent)
    (put : sink_of memory count ≡ puts (sink_of cleared 0) (steps p)) where
  is-listing : IsListing (pattern_of bytes) (steps p)
  is-listing =
      let ok = read-in-order bytes p is in
      subst (λ q. IsListing q (steps p)) (read-pattern bytes p is) (steps-is p ok.few ok.few_conditions)

  counted : count ≡ length (steps p)
  counted = omega (arith, count-after memory cleared 0 count (steps p) put)

  pub meets-short :
      (after : List ℕ) → step_room lent < count → after ≡ all_zero lent → ListingPromise bytes lent (refused 12 0) after
  meets-short after short z = no_room (read-accepted bytes p is) (steps p) is-listing (omega (arith, counted)) refl z

  pub meets-listed : count ≤ step_room lent → ListingPromise bytes lent (steps_listed count) memory
  meets-listed room =
      let all : sink_of memory count ≡ _ = put ∙ ap (λ (m : List ℕ). puts (sink_of m 0) (steps p)) zero ∙ puts-listing (steps p) lent (omega (arith, counted)) in
      listed (read-accepted bytes p is) (steps p) is-listing (omega (arith, counted)) (ap steps_listed counted) (ap (λ (sink : Sink). sink.memory) all)
