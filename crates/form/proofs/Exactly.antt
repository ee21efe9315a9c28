-- The reader accepts the language and nothing more: a text is refused with 14 exactly where it is not of the form, and
-- what is read passes the check of patterns. Assumes nothing.
use mathlib.Core.Path.{◌≡◌, ◌∙◌, refl, sym, ap}
use mathlib.Core.List.{List, ◌++◌}
use Prim.Native.Nat.{ℕ, ◌-◌}
use native.Mathlib.Omega.{arith}
use lib.ListN.{length, replicate}
use Rattle.records.specs.declared.Answer.{Answer}
use Rattle.patterns.specs.Checked.{pattern_answer}
use Rattle.form.specs.Form.{Making, InForm, text_of}
use Rattle.form.specs.Packed.{pattern_bytes}
use Rattle.form.specs.Promises.{ReadPromise, WritePromise}

module _ (text : List ℕ) (lent : ℕ) (answer : Answer) (after : List ℕ) where
  -- a text of the form is not refused with 14
  pub accepts : ReadPromise text lent answer after → (m : Making) → InForm text m → ¬ (answer.code ≡ 14)
  accepts (ReadPromise.outside place b e z) m f h = b.outside m f
  accepts (ReadPromise.too_large k g l e z) m f h = omega (arith, ap (λ (a : Answer). a.code) e)
  accepts (ReadPromise.bad_set k g i s e z) m f h = omega (arith, ap (λ (a : Answer). a.code) e)
  accepts (ReadPromise.no_room k g i s r e z) m f h = omega (arith, ap (λ (a : Answer). a.code) e)
  accepts (ReadPromise.read k g i s r e z) m f h = omega (arith, ap (λ (a : Answer). a.code) e)

  -- every other text is
  pub refuses-others : ReadPromise text lent answer after → ((m : Making) → ¬ InForm text m) → answer.code ≡ 14
  refuses-others (ReadPromise.outside place b e z) n = ap (λ (a : Answer). a.code) e
  refuses-others (ReadPromise.too_large k g l e z) n = absurd (n k g)
  refuses-others (ReadPromise.bad_set k g i s e z) n = absurd (n k g)
  refuses-others (ReadPromise.no_room k g i s r e z) n = absurd (n k g)
  refuses-others (ReadPromise.read k g i s r e z) n = absurd (n k g)

  -- what is read is the pattern of the text, and the check of patterns accepts it
  pub read-passes :
      ReadPromise text lent answer after → answer.code ≡ 0
      → (m : Making) × InForm text m × (answer.used ≡ length (pattern_bytes m))
      × (after ≡ pattern_bytes m ++ replicate (lent - length (pattern_bytes m)) 0)
      × ((pattern_answer (pattern_bytes m)).code ≡ 0)
  read-passes (ReadPromise.outside place b e z) h = absurd (omega (arith, ap (λ (a : Answer). a.code) e))
  read-passes (ReadPromise.too_large k g l e z) h = absurd (omega (arith, ap (λ (a : Answer). a.code) e))
  read-passes (ReadPromise.bad_set k g i s e z) h = absurd (omega (arith, ap (λ (a : Answer). a.code) e))
  read-passes (ReadPromise.no_room k g i s r e z) h = absurd (omega (arith, ap (λ (a : Answer). a.code) e))
  read-passes (ReadPromise.read k g i s r e z) h = (k, g, ap (λ (a : Answer). a.used) e, z, s)

module _ (pattern : List ℕ) (lent : ℕ) (answer : Answer) (after : List ℕ) where
  -- what is written is a text of the form, and its pattern the one given
  pub written-form :
      WritePromise pattern lent answer after → answer.code ≡ 0
      → (m : Making) × InForm (text_of m) m × (pattern_bytes m ≡ pattern) × (answer.used ≡ length (text_of m))
      × (after ≡ text_of m ++ replicate (lent - length (text_of m)) 0)
  written-form (WritePromise.bad_pattern n e z) h =
      absurd (n (sym (ap (λ (a : Answer). a.code) e) ∙ h))
  written-form (WritePromise.no_room k m q r e z) h = absurd (omega (arith, ap (λ (a : Answer). a.code) e))
  written-form (WritePromise.wrote k m q r e z) h =
      (m, record { bytes = refl; order = q.order }, q.same, ap (λ (a : Answer). a.used) e, z)
