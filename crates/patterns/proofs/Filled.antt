-- Places filled one after the other. Assumes nothing.
use Rattle.std.proofs.Common.{◌≡◌, ◌∙◌, refl, sym, ap, ap₂, List, [], ◌∷◌, ◌++◌, map, append_assoc, ℕ, zero, suc, ◌+◌}
use Rattle.std.proofs.Common.{◌-◌, ◌≤◌, ◌<◌, zero-add, not-suc-le-zero, le_of_suc-le-suc, add-one, arith, length}
use Rattle.std.proofs.Common.{get_or, set, replicate, length-append}
use lib.ListN.{length-map, length-replicate, get_or-append}
use lib.Seq.{set_at}
use Rattle.std.proofs.lemmas.List.{map-append}
use Rattle.numbers.specs.Numbers.{upto}
use Rattle.numbers.proofs.Upto.{length-upto, upto_snoc, get_or-upto}
use Rattle.patterns.specs.Checked.{filled}

module _ {A : Type 0} (room : ℕ) (empty : A) (f : ℕ → A) where
  map-upto : (i : ℕ) → map f (upto 0 (suc i)) ≡ map f (upto 0 i) ++ (f i ∷ [])
  map-upto i = ap (map f) (upto_snoc 0 i) ∙ map-append f (upto 0 i) ((0 + i) ∷ []) ∙ ap (λ (k : ℕ). map f (upto 0 i) ++ (f k ∷ [])) (zero-add i)

  size : (i : ℕ) → length (map f (upto 0 i)) ≡ i
  size i = length-map (upto 0 i) f ∙ length-upto 0 i

  pub filled_more : (i : ℕ) → i < room → set (filled room empty f i) i (f i) ≡ filled room empty f (i + 1)
  unfolding filled
  filled_more i h =
      let e : room - i ≡ suc (room - (i + 1)) = omega arith in
      ap (λ (k : ℕ). set (map f (upto 0 i) ++ replicate k empty) i (f i)) e
      ∙ set_at (map f (upto 0 i)) empty (replicate (room - (i + 1)) empty) (f i) i (size i)
      ∙ sym (append_assoc (map f (upto 0 i)) (f i ∷ []) (replicate (room - (i + 1)) empty))
      ∙ ap (λ (l : List A). l ++ replicate (room - (i + 1)) empty) (sym (map-upto i) ∙ ap (λ (k : ℕ). map f (upto 0 k)) (sym (add-one i)))

  pub filled-length : (i : ℕ) → i ≤ room → length (filled room empty f i) ≡ room
  unfolding filled
  filled-length i h =
      let e : i + (room - i) ≡ room = omega arith in
      length-append (map f (upto 0 i)) (replicate (room - i) empty) ∙ ap₂ ◌+◌ (size i) (length-replicate (room - i) empty) ∙ e

  pub filled_at : (i k : ℕ) (d : A) → k < i → get_or (filled room empty f i) k d ≡ f k
  unfolding filled
  filled_at i k d h =
      let l : k < length (map f (upto 0 i)) = omega (arith, size i) in
      get_or-append (map f (upto 0 i)) (replicate (room - i) empty) d k l ∙ at_map (upto 0 i) k (omega (arith, length-upto 0 i)) ∙ ap f (get_or-upto 0 i k 0 h ∙ zero-add k)
    where
      at_map : (l : List ℕ) (n : ℕ) → n < length l → get_or (map f l) n d ≡ f (get_or l n 0)
      at_map [] n q = absurd (not-suc-le-zero q)
      at_map (x ∷ l) zero q = refl
      at_map (x ∷ l) (suc n) q = at_map l n (le_of_suc-le-suc q)
