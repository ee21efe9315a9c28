-- The bytes of the variables of the sets that are written: those of the pattern's variables, in order. Assumes nothing.
use mathlib.Core.Path.{◌≡◌, refl, sym, ap, ap₂, ◌∙◌}
use mathlib.Core.Bool.{true, false}
use mathlib.Core.List.{List, [], ◌∷◌, ◌++◌, map, append_assoc, append-nil, cons-ne-nil}
use Prim.Native.Nat.{ℕ, zero, suc, ◌+◌, ◌≤◌, ◌<◌}
use native.Mathlib.Nat.{add-zero, zero-add}
use native.Mathlib.Omega.{arith}
use borrow.Author.Tests.{eqb-true, eqb-false, not-true, not-false}
use lib.ListN.{length, length-append}
use Rattle.numbers.specs.Numbers.{upto}
use Rattle.numbers.proofs.Cases.{by-test}
use Rattle.numbers.proofs.Upto.{upto_snoc}
use Rattle.patterns.specs.declared.Pattern.{Pattern}
use Rattle.patterns.specs.Checked.{set_of, InOrder}
use Rattle.form.specs.Form.{Member}
use Rattle.form.specs.Packed.{member_byte, member_bytes}
use Rattle.wording.specs.Wording.{member_of, begins_set, in_last, sets_up_to}
use Rattle.wording.proofs.Whens.{map_snoc}
use Rattle.wording.proofs.Sets.{begins-first, begins-later, sets-begin, sets-join, sets-some}

bytes-more :
    (k : ℕ) (sets : List (List Member)) (m : Member)
    → member_bytes k (sets ++ ((m ∷ []) ∷ [])) ≡ member_bytes k sets ++ (member_byte (k + length sets) m ∷ [])
unfolding member_bytes
bytes-more k [] m = ap (λ (j : ℕ). member_byte j m ∷ []) (sym (add-zero k))
bytes-more k (s ∷ sets) m =
    let e : suc k + length sets ≡ k + suc (length sets) = omega arith in
    ap (λ (l : List ℕ). map (member_byte k) s ++ l)
    (bytes-more (suc k) sets m ∙ ap (λ (j : ℕ). member_bytes (suc k) sets ++ (member_byte j m ∷ [])) e)
    ∙ sym (append_assoc (map (member_byte k) s) (member_bytes (suc k) sets) (member_byte (k + suc (length sets)) m ∷ []))

bytes-last :
    (k : ℕ) (sets : List (List Member)) (m : Member) (j : ℕ) → ¬ (sets ≡ []) → suc j ≡ k + length sets
    → member_bytes k (in_last sets m) ≡ member_bytes k sets ++ (member_byte j m ∷ [])
unfolding member_bytes in_last
bytes-last k [] m j h e = absurd (h refl)
bytes-last k (s ∷ []) m j h e =
    let z : k ≡ j = omega arith in
    append-nil (map (member_byte k) (s ++ (m ∷ [])))
    ∙ map_snoc (member_byte k) s m
    ∙ ap₂ (λ (l : List ℕ) (i : ℕ). l ++ (member_byte i m ∷ [])) (sym (append-nil (map (member_byte k) s))) z
bytes-last k (s ∷ t ∷ sets) m j h e =
    ap (λ (l : List ℕ). map (member_byte k) s ++ l) (bytes-last (suc k) (t ∷ sets) m j (cons-ne-nil t sets) (omega arith))
    ∙ sym (append_assoc (map (member_byte k) s) (member_bytes (suc k) (t ∷ sets)) (member_byte j m ∷ []))

length_last : (sets : List (List Member)) (m : Member) → ¬ (sets ≡ []) → length (in_last sets m) ≡ length sets
unfolding in_last
length_last [] m h = absurd (h refl)
length_last (s ∷ []) m h = refl
length_last (s ∷ t ∷ sets) m h = ap suc (length_last (t ∷ sets) m (cons-ne-nil t sets))

module _ (p : Pattern) (o : InOrder p) where
  -- a variable that begins a set is in the next one, and any other in that of the one before it
  next-set :
      (v : ℕ) → suc v < p.n → begins_set p (suc v) ≡ true → set_of p (suc v) ≡ suc (set_of p v)
  next-set v h b =
      let d = eqb-false (set_of p (suc v)) (set_of p v) (not-true _ (sym (begins-later p v) ∙ b)) in
      omega (arith, (o.climbs v h).0, (o.climbs v h).1)

  same_set : (v : ℕ) → begins_set p (suc v) ≡ false → set_of p (suc v) ≡ set_of p v
  same_set v b = eqb-true _ _ (not-false _ (sym (begins-later p v) ∙ b))

  -- as many sets as the last variable's number
  sets-count : (v : ℕ) → suc v ≤ p.n → length (sets_up_to p (suc v)) ≡ set_of p v
  unfolding sets_up_to
  sets-count zero h = ap length (sets-begin p 0 (begins-first p)) ∙ sym o.begins
  sets-count (suc v) h =
      let before = sets-count v (omega arith) in
      by-test (begins_set p (suc v))
      (λ b. let l = ap length (sets-begin p (suc v) b) ∙ length-append (sets_up_to p (suc v)) ((member_of p (suc v) ∷ []) ∷ []) in
      omega (arith, next-set v h b))
      (λ b. ap length (sets-join p (suc v) b)
      ∙ length_last (sets_up_to p (suc v)) (member_of p (suc v)) (sets-some p v)
      ∙ before
      ∙ sym (same_set v b))

  bytes_next :
      (v : ℕ) → suc v ≤ p.n
      → member_bytes 1 (sets_up_to p (suc v))
      ≡ member_bytes 1 (sets_up_to p v) ++ (member_byte (set_of p v) (member_of p v) ∷ [])
  unfolding sets_up_to member_bytes
  bytes_next zero h =
      ap (member_bytes 1) (sets-begin p 0 (begins-first p))
      ∙ ap (λ (j : ℕ). member_byte j (member_of p 0) ∷ []) (sym o.begins)
  bytes_next (suc v) h =
      let count = sets-count v (omega arith) in
      by-test (begins_set p (suc v))
      (λ b. let e : 1 + length (sets_up_to p (suc v)) ≡ set_of p (suc v) = omega (arith, next-set v h b) in
      ap (member_bytes 1) (sets-begin p (suc v) b)
      ∙ bytes-more 1 (sets_up_to p (suc v)) (member_of p (suc v))
      ∙ ap (λ (j : ℕ). member_bytes 1 (sets_up_to p (suc v)) ++ (member_byte j (member_of p (suc v)) ∷ [])) e)
      (λ b. ap (member_bytes 1) (sets-join p (suc v) b)
      ∙ bytes-last 1 (sets_up_to p (suc v)) (member_of p (suc v)) (set_of p (suc v)) (sets-some p v) (omega (arith, same_set v b)))

  pub member-bytes :
      (v : ℕ) → v ≤ p.n
      → member_bytes 1 (sets_up_to p v) ≡ map (λ u. member_byte (set_of p u) (member_of p u)) (upto 0 v)
  unfolding sets_up_to member_bytes upto
  member-bytes zero h = refl
  member-bytes (suc v) h =
      let f : ℕ → ℕ = λ u. member_byte (set_of p u) (member_of p u) in
      bytes_next v h
      ∙ ap (λ (l : List ℕ). l ++ (f v ∷ [])) (member-bytes v (omega arith))
      ∙ sym (map_snoc f (upto 0 v) v)
      ∙ ap (λ (j : ℕ). map f (upto 0 v ++ (j ∷ []))) (sym (zero-add v))
      ∙ ap (map f) (sym (upto_snoc 0 v))
