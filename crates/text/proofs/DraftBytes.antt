-- The bytes of a draft's pattern: put piece by piece, and those of the text that the draft tells of. Assumes nothing.
use mathlib.Core.Path.{◌≡◌, ◌∙◌, sym, ap, ap₂, subst}
use mathlib.Core.List.{List, ◌++◌, map, flat_map}
use Prim.Native.Nat.{ℕ, ◌+◌, ◌*◌, ◌≤◌, min}
use native.Mathlib.Omega.{arith}
use lib.ListN.{length, take}
use lib.Seq.{length-take-le}
use Rattle.numbers.specs.Numbers.{written}
use Rattle.numbers.specs.Bytes.{word_bytes}
use Rattle.numbers.specs.Put.{Put}
use Rattle.numbers.proofs.Put.{put_then}
use Rattle.form.specs.Form.{Member, When, Making, names}
use Rattle.form.specs.Packed.{header_bits, when_bits, member_bytes, pattern_bytes, Fits, most_bytes}
use Rattle.form.specs.Items.{items_of, sets_in}
use Rattle.form.proofs.Making.{flat-map, sets-items, whens-items, duration-items}
use Rattle.numbers.proofs.WordBytes.{word-length}
use Rattle.form.proofs.Sizes.{words-length}
use Rattle.drafts.specs.declared.Draft.{Draft}
use Rattle.drafts.specs.Drafts.{Small, Holds, DraftOf}
use Rattle.words.specs.Words.{large}
use Rattle.text.specs.Texts.{draft_bytes}
use Rattle.text.specs.Fitting.{DraftFits}
use Rattle.text.proofs.Words.{put_written}

module _ (d : Draft) (s : Small d) (f : DraftFits d) where
  pub variables-length : length (take d.n d.variables) ≡ d.n
  variables-length = length-take-le d.n d.variables (omega (arith, s.variables, f.few))

  pub conditions-length : length (flat_map word_bytes (take d.c d.conditions)) ≡ 8 * d.c
  conditions-length =
      words-length (λ (w : ℕ). w) (take d.c d.conditions)
      ∙ ap (λ (n : ℕ). 8 * n) (length-take-le d.c d.conditions (omega (arith, s.conditions, f.few_conditions)))

  module _ (start stored : List ℕ) (word : ℕ) (room : most_bytes ≤ length start)
      (e : stored ≡ written start 0 (word_bytes word)) where
    header-put : Put start stored 0 (word_bytes word) 8
    header-put =
        let size = word-length word in
        let p = put_written start 0 (word_bytes word) (omega arith) in
        let end : 0 + length (word_bytes word) ≡ 8 = omega arith in
        subst (λ (t : List ℕ). Put start t 0 (word_bytes word) 8) (sym e)
        (subst (λ (n : ℕ). Put start (written start 0 (word_bytes word)) 0 (word_bytes word) n) end p)

    pub header-kept : length stored ≡ length start
    header-kept = header-put.kept

    module _ (memory : List ℕ) (v : ℕ) (q : Put stored memory 8 (take d.n d.variables) v) where
      pub room-left : v + 256 ≤ length memory
      room-left = omega (arith, q.ends, q.kept, header-kept, variables-length, f.few)

      pub draft-put :
          (after : List ℕ) (r : ℕ) → word ≡ header_bits d.n d.c d.duration
          → Put memory after v (flat_map word_bytes (take d.c d.conditions)) r
          → Put start after 0 (draft_bytes d) r × (r ≤ most_bytes)
      unfolding draft_bytes
      draft-put after r h p =
          let whole = put_then header-put (put_then q p) in (
            subst (λ (w : ℕ). Put start after 0 (word_bytes w ++ (take d.n d.variables ++ flat_map word_bytes (take d.c d.conditions))) r) h whole,
            omega (arith, q.ends, p.ends, variables-length, conditions-length, f.few, f.few_conditions),
          )

-- ## The text that a draft tells of

module _ (m : Making) (d : Draft) (o : DraftOf (items_of m) d) where
  told : Holds m.sets m.whens d
  told =
      subst (λ (s : List (List Member)). Holds s m.whens d) (sets-items m)
      (subst (λ (w : List When). Holds (sets_in (items_of m)) w d) (whens-items m) o.holds)

  lasts : d.duration ≡ min m.duration large
  lasts = o.duration ∙ ap (λ (n : ℕ). min n large) (duration-items m)

  pub text-fits : DraftFits d → Fits m
  text-fits f =
      let h = told in
      record {
        few = omega (arith, h.n, f.few);
        few_conditions = omega (arith, h.c, f.few_conditions);
        short = omega (arith, lasts, f.short);
      }

  pub draft-fits : Fits m → DraftFits d
  draft-fits f =
      let h = told in
      record {
        few = omega (arith, h.n, f.few);
        few_conditions = omega (arith, h.c, f.few_conditions);
        short = omega (arith, lasts, f.short);
      }

  pub draft-bytes : Fits m → draft_bytes d ≡ pattern_bytes m
  unfolding draft_bytes pattern_bytes
  draft-bytes f =
      let h = told in
      let n : d.n ≡ length (names m.sets) = omega (arith, h.n, f.few) in
      let c : d.c ≡ length m.whens = omega (arith, h.c, f.few_conditions) in
      let t : d.duration ≡ m.duration = omega (arith, lasts, f.short) in
      let v : take d.n d.variables ≡ member_bytes 1 m.sets =
      ap (λ (k : ℕ). take k d.variables) n ∙ h.variables f.few
      in
      let w : take d.c d.conditions ≡ map (when_bits (names m.sets)) m.whens =
      ap (λ (k : ℕ). take k d.conditions) c ∙ h.conditions f.few f.few_conditions
      in
      ap₂ ◌++◌ (λ i. word_bytes (header_bits (n i) (c i) (t i)))
      (ap₂ ◌++◌ v (ap (flat_map word_bytes) w ∙ flat-map word_bytes (when_bits (names m.sets)) m.whens))
