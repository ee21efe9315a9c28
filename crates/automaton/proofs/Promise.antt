-- The promise of listing fixes the answer and every byte of the slice. Assumes nothing.
use Rattle.std.proofs.Common.{◌≡◌, ◌∙◌, sym, ap, List, ◌++◌, ℕ, ◌-◌, ◌*◌, arith, length}
use Rattle.records.specs.declared.Answer.{Answer}
use Rattle.patterns.specs.Checked.{pattern_of}
use Rattle.automaton.specs.Automaton.{IsListing}
use Rattle.automaton.specs.Listing.{ListingPromise, bad_pattern, no_room, listed, step_bytes, listing_bytes, all_zero}
use Rattle.automaton.specs.Listing.{steps_listed}
use Rattle.automaton.proofs.Listing.{one-listing}

same_length :
    (pattern l m : List ℕ) → IsListing (pattern_of pattern) l → IsListing (pattern_of pattern) m → length l ≡ length m
same_length pattern l m h g = ap length (one-listing (pattern_of pattern) l m h g)

-- any two answers and slices that meet the promise of `list_automaton` are equal
pub listing-promise-unique :
    (pattern : List ℕ) (lent : ℕ) (a b : Answer) (x y : List ℕ)
    → ListingPromise pattern lent a x → ListingPromise pattern lent b y
    → (a ≡ b) × (x ≡ y)
listing-promise-unique pattern lent a b x y (bad_pattern h e f) (bad_pattern k d g) = (e ∙ sym d, f ∙ sym g)
listing-promise-unique pattern lent a b x y (bad_pattern h e f) (no_room k m i r d g) = absurd (h k)
listing-promise-unique pattern lent a b x y (bad_pattern h e f) (listed k m i r d g) = absurd (h k)
listing-promise-unique pattern lent a b x y (no_room h l j q e f) (bad_pattern k d g) = absurd (k h)
listing-promise-unique pattern lent a b x y (no_room h l j q e f) (no_room k m i r d g) = (e ∙ sym d, f ∙ sym g)
listing-promise-unique pattern lent a b x y (no_room h l j q e f) (listed k m i r d g) =
    absurd (omega (arith, same_length pattern l m j i))
listing-promise-unique pattern lent a b x y (listed h l j q e f) (bad_pattern k d g) = absurd (k h)
listing-promise-unique pattern lent a b x y (listed h l j q e f) (no_room k m i r d g) =
    absurd (omega (arith, same_length pattern l m j i))
listing-promise-unique pattern lent a b x y (listed h l j q e f) (listed k m i r d g) =
    let s = one-listing (pattern_of pattern) l m j i in (
      e ∙ ap (λ (n : List ℕ). steps_listed (length n)) s ∙ sym d,
      f ∙ ap (λ (n : List ℕ). listing_bytes n ++ all_zero (lent - step_bytes * length n)) s ∙ sym g,
    )
