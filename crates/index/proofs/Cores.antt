-- The cores that the maker marks, record by record, and the bits that it makes of them. Assumes nothing.
use Rattle.std.proofs.Common.{◌≡◌, ◌∙◌, refl, sym, ap, ap₂, Bool, true, false, List, ◌∷◌, map, ℕ, ◌+◌, ◌-◌, ◌<◌, arith, get_or, replicate}
use Prim.Native.Nat.{zero, suc}
use lib.ListN.{set}
use Rattle.numbers.specs.Numbers.{upto, count}
use Rattle.numbers.proofs.Bits.{mask-same}
use Rattle.records.specs.Records.{record_at, event_kind}
use Rattle.index.specs.Index.{cores, has_up_to, cores_up_to}
use Rattle.index.specs.Upto.{seen_up_to, marked_bits}
use Rattle.index.proofs.Counted.{core-bound, core-gap, core-here, core-other}
use Rattle.index.proofs.Types.{map-upto-same}

-- ## Lists of the values of a function

module _ {A : Type 0} where
  map-upto-at : (f : ℕ → A) (k m i : ℕ) (d : A) → i < m → get_or (map f (upto k m)) i d ≡ f (k + i)
  unfolding upto
  map-upto-at f k zero i d l = absurd (omega arith)
  map-upto-at f k (suc m) zero d l = let e : k ≡ k + 0 = omega arith in ap f e
  map-upto-at f k (suc m) (suc i) d l =
      let e : suc k + i ≡ k + suc i = omega arith in map-upto-at f (suc k) m i d (omega arith) ∙ ap f e

  module _ (f g : ℕ → A) (at : ℕ) (others : (j : ℕ) → ¬ (at ≡ j) → f j ≡ g j) where
    -- another value at one place
    map-upto-set :
        (k m i : ℕ) → at ≡ k + i → i < m → set (map f (upto k m)) i (g at) ≡ map g (upto k m)
    unfolding upto
    map-upto-set k zero i q l = absurd (omega arith)
    map-upto-set k (suc m) zero q l =
        let here : at ≡ k = omega arith in
        ap₂ (λ (x : A) (r : List A). x ∷ r) (ap g here)
        (map-upto-same f g (suc k) m (λ j h. others j (λ d. omega arith)))
    map-upto-set k (suc m) (suc i) q l =
        ap₂ (λ (x : A) (r : List A). x ∷ r) (others k (λ d. omega arith)) (map-upto-set (suc k) m i (omega arith) (omega arith))

-- ## Marks

pub seen_start : (block : List ℕ) → replicate cores false ≡ seen_up_to block 0
unfolding seen_up_to has_up_to upto count
seen_start block = refl

module _ (block : List ℕ) (i : ℕ) where
  pub seen-gap : ¬ ((record_at block i).kind ≡ event_kind) → seen_up_to block i ≡ seen_up_to block (i + 1)
  unfolding seen_up_to
  seen-gap other =
      map-upto-same (has_up_to block i) (has_up_to block (i + 1)) 0 cores (λ c l. sym (core-gap block i other c))

  pub seen-event :
      (record_at block i).kind ≡ event_kind → (core : ℕ) → core ≡ (record_at block i).core
      → set (seen_up_to block i) core true ≡ seen_up_to block (i + 1)
  unfolding seen_up_to
  seen-event event core e =
      let own = (record_at block i).core in
      let low = core-bound block i in
      ap (λ (x : Bool). set (seen_up_to block i) core x) (sym (core-here block i event))
      ∙ map-upto-set (has_up_to block i) (has_up_to block (i + 1)) own (core-other block i event) 0 cores core (omega arith) (omega arith)

-- ## Bits

-- the bits of all that is marked are those of the cores that have events
pub bits-all : (block : List ℕ) (n : ℕ) → marked_bits (seen_up_to block n) ≡ cores_up_to block n
unfolding marked_bits cores_up_to seen_up_to
bits-all block n =
    mask-same (λ j. get_or (seen_up_to block n) (cores - 1 - j) false) (λ j. has_up_to block n (cores - 1 - j)) cores
    (λ j h.
    let c = cores - 1 - j in
    let zero-on : 0 + c ≡ c = omega arith in
    map-upto-at (has_up_to block n) 0 cores c false (omega arith) ∙ ap (has_up_to block n) zero-on)
