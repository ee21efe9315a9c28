-- There and back: what the writer wrote is read as the same bytes, and a text whose names are a, b, c already is written
-- as it was read. Assumes nothing.
use mathlib.Core.Path.{◌≡◌, ◌∙◌, refl, sym, ap, ap₂}
use mathlib.Core.List.{List, ◌++◌}
use Prim.Native.Nat.{ℕ, ◌-◌, ◌≤◌}
use native.Mathlib.Omega.{arith}
use lib.ListN.{length, take, replicate}
use lib.Seq.{take_at}
use Rattle.numbers.specs.Numbers.{upto}
use Rattle.records.specs.declared.Answer.{Answer}
use Rattle.patterns.specs.Checked.{pattern_answer}
use Rattle.patterns.specs.Patterns.{variable_count}
use Rattle.form.specs.Form.{Making, InForm, names, text_of, first_letter}
use Rattle.form.specs.Packed.{pattern_bytes}
use Rattle.form.specs.Promises.{bytes_written, Names, ReadPromise, WritePromise}
use Rattle.form.proofs.Judged.{variables-of}
use Rattle.form.proofs.OneRead.{form-one, read-promise-one}
use Rattle.form.proofs.OneWritten.{write-promise-one}

-- bytes at the beginning of a slice, and zeros behind them
padded : List ℕ → ℕ → List ℕ
padded bytes lent = bytes ++ replicate (lent - length bytes) 0

-- of the slice as many bytes as the answer says
front :
    (bytes slice : List ℕ) (lent used : ℕ) → slice ≡ padded bytes lent → used ≡ length bytes
    → take used slice ≡ bytes
unfolding padded
front bytes slice lent used e u = ap₂ take u e ∙ take_at bytes _ (length bytes) refl

module _ (pattern : List ℕ) (lent room : ℕ) (a b : Answer) (x y : List ℕ) where
  pub reads-back :
      WritePromise pattern lent a x → a.code ≡ 0
      → ReadPromise (take a.used x) room b y → length pattern ≤ room
      → (b ≡ bytes_written (length pattern)) × (y ≡ pattern ++ replicate (room - length pattern) 0)
  unfolding padded
  reads-back (WritePromise.bad_pattern n e z) h r l = absurd (n (sym (ap (λ (c : Answer). c.code) e) ∙ h))
  reads-back (WritePromise.no_room k m q s e z) h r l = absurd (omega (arith, ap (λ (c : Answer). c.code) e))
  reads-back (WritePromise.wrote k m q s e z) h r l =
      let text : take a.used x ≡ text_of m = front (text_of m) x lent a.used z (ap (λ (c : Answer). c.used) e) in
      let accepted : (pattern_answer (pattern_bytes m)).code ≡ 0 = rw q.same k in
      let fits : length (pattern_bytes m) ≤ room = rw q.same l in
      let right =
      ReadPromise.read m (record { bytes = text; order = q.order }) q.fits accepted fits refl refl
      in
      let one = read-promise-one (take a.used x) room b _ y _ r right in
      rw q.same at one

module _ (text : List ℕ) (lent room : ℕ) (a b : Answer) (x y : List ℕ) (m : Making) (f : InForm text m) where
  pub writes-back :
      names m.sets ≡ upto first_letter (length (names m.sets))
      → ReadPromise text lent a x → a.code ≡ 0
      → WritePromise (take a.used x) room b y → length text ≤ room
      → (b ≡ bytes_written (length text)) × (y ≡ text ++ replicate (room - length text) 0)
  unfolding padded
  writes-back n (ReadPromise.outside place g e z) h w l = absurd (g.outside m f)
  writes-back n (ReadPromise.too_large k g t e z) h w l = absurd (omega (arith, ap (λ (c : Answer). c.code) e))
  writes-back n (ReadPromise.bad_set k g t s e z) h w l = absurd (omega (arith, ap (λ (c : Answer). c.code) e))
  writes-back n (ReadPromise.no_room k g t s r e z) h w l = absurd (omega (arith, ap (λ (c : Answer). c.code) e))
  writes-back n (ReadPromise.read k g t s r e z) h w l =
      let bytes : take a.used x ≡ pattern_bytes k =
      front (pattern_bytes k) x lent a.used z (ap (λ (c : Answer). c.used) e)
      in
      let alphabet : names k.sets ≡ upto first_letter (length (names k.sets)) = rw (form-one text m k f g) at n in
      let count : variable_count (take a.used x) ≡ length (names k.sets) =
      ap variable_count bytes ∙ variables-of k g.order t
      in
      let same : Names (take a.used x) k =
      record { order = g.order; fits = t; alphabet = alphabet ∙ ap (upto first_letter) (sym count); same = sym bytes }
      in
      let fits : length (text_of k) ≤ room = rw g.bytes at l in
      let accepted : (pattern_answer (take a.used x)).code ≡ 0 = rw bytes s in
      let right = WritePromise.wrote accepted k same fits refl refl in
      let one = write-promise-one (take a.used x) room b _ y _ w right in
      rw (← g.bytes) at one
