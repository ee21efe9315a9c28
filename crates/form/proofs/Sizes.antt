-- How many bytes a pattern has. Assumes nothing.
use mathlib.Core.Path.{◌≡◌, ◌∙◌, refl, sym, ap₂}
use mathlib.Core.List.{List, [], ◌∷◌, map, flat_map}
use Prim.Native.Nat.{ℕ, suc, ◌+◌, ◌*◌, ◌≤◌}
use native.Mathlib.Omega.{arith}
use lib.ListN.{length, length-append, length-map}
use Rattle.numbers.specs.Bytes.{word_bytes}
use Rattle.form.specs.Form.{Member, When, Making, names, names_of}
use Rattle.form.specs.Packed.{member_byte, member_bytes, header_bits, when_bits, pattern_bytes, Fits, most_bytes}
use Rattle.numbers.proofs.WordBytes.{word-length}

pub member-length : (k : ℕ) (sets : List (List Member)) → length (member_bytes k sets) ≡ length (names sets)
unfolding member_bytes names flat_map
member-length k [] = refl
member-length k (s ∷ sets) =
    length-append (map (member_byte k) s) (member_bytes (suc k) sets)
    ∙ ap₂ ◌+◌ (length-map s (member_byte k) ∙ sym (length-map s (λ (m : Member). m.name))) (member-length (suc k) sets)
    ∙ sym (length-append (names_of s) (flat_map names_of sets))

pub words-length :
    {A : Type 0} (f : A → ℕ) (l : List A) → length (flat_map (λ (x : A). word_bytes (f x)) l) ≡ 8 * length l
unfolding flat_map
words-length f [] = refl
words-length {A} f (x ∷ l) =
    let rest = words-length f l in
    length-append (word_bytes (f x)) (flat_map (λ (x : A). word_bytes (f x)) l)
    ∙ ap₂ ◌+◌ (word-length (f x)) rest
    ∙ more (length l)
  where
    more : (n : ℕ) → 8 + 8 * n ≡ 8 * suc n
    more n = omega arith

pub pattern-length : (m : Making) → length (pattern_bytes m) ≡ 8 + length (names m.sets) + 8 * length m.whens
unfolding pattern_bytes
pattern-length m =
    let bits : When → ℕ = when_bits (names m.sets) in
    let head = header_bits (length (names m.sets)) (length m.whens) m.duration in
    let a = word-length head in
    let b = member-length 1 m.sets in
    let c = words-length bits m.whens in
    simp length-append (omega (arith, a, b, c))

pub most_bytes_lem : (m : Making) → Fits m → length (pattern_bytes m) ≤ most_bytes
most_bytes_lem m f = omega (arith, pattern-length m, f.few, f.few_conditions)
