-- The promise of the reader fixes its answer and every byte that it leaves. Assumes nothing.
use mathlib.Core.Path.{◌≡◌, sym, ap, ◌∙◌, subst}
use mathlib.Core.List.{List, ◌++◌}
use Prim.Native.Nat.{ℕ, ◌-◌, ◌≤◌, ◌<◌, min}
use native.Mathlib.Omega.{arith}
use lib.ListN.{length, replicate}
use Rattle.records.specs.declared.Answer.{Answer}
use Rattle.records.specs.Blocks.{refused}
use Rattle.patterns.specs.Checked.{pattern_answer}
use Rattle.form.specs.Form.{Making, InForm}
use Rattle.form.specs.Lines.{FirstBad}
use Rattle.form.specs.Packed.{pattern_bytes, Fits}
use Rattle.form.specs.Promises.{bytes_written, most_place, ReadPromise}
use Rattle.form.proofs.OneMeaning.{one-making}
use Rattle.form.proofs.FirstBad.{first-bad-one}

pub form-one : (text : List ℕ) (m k : Making) → InForm text m → InForm text k → m ≡ k
form-one text m k f g = one-making m k f.order g.order (sym f.bytes ∙ g.bytes)

-- the answer and the slice of a refusal
abbrev pub Refused : ℕ → ℕ → ℕ → Answer → List ℕ → Type 0
Refused lent code place answer after = (answer ≡ refused code place) × (after ≡ replicate lent 0)

-- what is promised for a text of the form
pub record Formed (m : Making) (lent : ℕ) (answer : Answer) (after : List ℕ) : Type 0 where
  pub large : ¬ Fits m → Refused lent 2 0 answer after
  pub set :
      Fits m → (pattern_answer (pattern_bytes m)).code ≡ 3
      → Refused lent 3 (pattern_answer (pattern_bytes m)).place answer after
  pub short :
      Fits m → (pattern_answer (pattern_bytes m)).code ≡ 0 → lent < length (pattern_bytes m)
      → Refused lent 12 0 answer after
  pub good :
      Fits m → (pattern_answer (pattern_bytes m)).code ≡ 0 → length (pattern_bytes m) ≤ lent
      → (answer ≡ bytes_written (length (pattern_bytes m)))
      × (after ≡ pattern_bytes m ++ replicate (lent - length (pattern_bytes m)) 0)

module _ (text : List ℕ) (lent : ℕ) (answer : Answer) (after : List ℕ) where
  pub formed : ReadPromise text lent answer after → (m : Making) → InForm text m → Formed m lent answer after
  formed (ReadPromise.outside place b e z) m f = absurd (b.outside m f)
  formed (ReadPromise.too_large k g n e z) m f =
      subst (λ (m : Making). Formed m lent answer after) (form-one text k m g f)
      (record {
        large = λ h. (e, z);
        set = λ h c. absurd (n h);
        short = λ h c r. absurd (n h);
        good = λ h c r. absurd (n h);
      })
  formed (ReadPromise.bad_set k g i s e z) m f =
      subst (λ (m : Making). Formed m lent answer after) (form-one text k m g f)
      (record {
        large = λ h. absurd (h i);
        set = λ h c. (e, z);
        short = λ h c r. absurd (omega arith);
        good = λ h c r. absurd (omega arith);
      })
  formed (ReadPromise.no_room k g i s r e z) m f =
      subst (λ (m : Making). Formed m lent answer after) (form-one text k m g f)
      (record {
        large = λ h. absurd (h i);
        set = λ h c. absurd (omega arith);
        short = λ h c l. (e, z);
        good = λ h c l. absurd (omega arith);
      })
  formed (ReadPromise.read k g i s r e z) m f =
      subst (λ (m : Making). Formed m lent answer after) (form-one text k m g f)
      (record {
        large = λ h. absurd (h i);
        set = λ h c. absurd (omega arith);
        short = λ h c l. absurd (omega arith);
        good = λ h c l. (e, z);
      })

  -- what is promised for any other text
  pub refuses :
      ReadPromise text lent answer after → (place : ℕ) → FirstBad text place
      → Refused lent 14 (min place most_place) answer after
  refuses (ReadPromise.outside p b e z) place f =
      (e ∙ ap (λ (n : ℕ). refused 14 (min n most_place)) (first-bad-one text p place b f), z)
  refuses (ReadPromise.too_large k g n e z) place f = absurd (f.outside k g)
  refuses (ReadPromise.bad_set k g i s e z) place f = absurd (f.outside k g)
  refuses (ReadPromise.no_room k g i s r e z) place f = absurd (f.outside k g)
  refuses (ReadPromise.read k g i s r e z) place f = absurd (f.outside k g)

meet : {a b c : Answer} {x y z : List ℕ} → a ≡ c → x ≡ z → (b ≡ c) × (y ≡ z) → (a ≡ b) × (x ≡ y)
meet e f r = (e ∙ sym r.0, f ∙ sym r.1)

pub read-promise-one :
    (text : List ℕ) (lent : ℕ) (a b : Answer) (x y : List ℕ) → ReadPromise text lent a x → ReadPromise text lent b y
    → (a ≡ b) × (x ≡ y)
read-promise-one text lent a b x y (ReadPromise.outside place f e z) q = meet e z (refuses text lent b y q place f)
read-promise-one text lent a b x y (ReadPromise.too_large m f n e z) q = meet e z ((formed text lent b y q m f).large n)
read-promise-one text lent a b x y (ReadPromise.bad_set m f i s e z) q = meet e z ((formed text lent b y q m f).set i s)
read-promise-one text lent a b x y (ReadPromise.no_room m f i s r e z) q =
    meet e z ((formed text lent b y q m f).short i s r)
read-promise-one text lent a b x y (ReadPromise.read m f i s r e z) q =
    meet e z ((formed text lent b y q m f).good i s r)
