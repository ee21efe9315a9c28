-- What the reader answers, from what its steps tell. Assumes nothing.
use mathlib.Core.Path.{◌∙◌, ap, subst}
use mathlib.Core.List.{List}
use mathlib.Core.Logic.{⊎_elim}
use Prim.Native.Nat.{ℕ}
use Rattle.records.specs.declared.Answer.{Answer}
use Rattle.records.specs.Blocks.{refused}
use Rattle.patterns.specs.Checked.{pattern_answer}
use Rattle.form.specs.Form.{Making, InForm}
use Rattle.form.specs.Packed.{pattern_bytes, Fits}
use Rattle.form.specs.Promises.{ReadPromise}
use Rattle.form.proofs.Judged.{judged}
use Rattle.drafts.specs.declared.Draft.{Draft}
use Rattle.text.specs.Texts.{Good, draft_bytes}
use Rattle.text.specs.Fitting.{DraftFits}
use Rattle.text.specs.Given.{Given, Judged}
use Rattle.text.proofs.DraftBytes.{text-fits, draft-bytes}

module _ (text : List ℕ) (lent : ℕ) (answer : Answer) (after : List ℕ) where
  -- the bytes of the text's pattern, judged
  of-making :
      (m : Making) → InForm text m → Fits m → Judged (pattern_bytes m) lent answer after
      → ReadPromise text lent answer after
  of-making m f fit (Judged.not_accepted n r) =
      ⊎_elim
      (λ z. absurd (n z))
      (λ e. ReadPromise.bad_set m f fit e
      (r.told ∙ ap (λ (code : ℕ). refused code (pattern_answer (pattern_bytes m)).place) e) r.cleared)
      (judged m f.order fit)
  of-making m f fit (Judged.accepted k (Given.short l r)) = ReadPromise.no_room m f fit k l r.told r.cleared
  of-making m f fit (Judged.accepted k (Given.whole l e z)) = ReadPromise.read m f fit k l e z

  pub answer-judged :
      (d : Draft) → Good text d → DraftFits d → Judged (draft_bytes d) lent answer after
      → ReadPromise text lent answer after
  answer-judged d g f j =
      let fit = text-fits g.making d g.draft f in
      of-making g.making g.form fit
      (subst (λ (bytes : List ℕ). Judged bytes lent answer after) (draft-bytes g.making d g.draft fit) j)
