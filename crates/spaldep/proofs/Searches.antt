-- With the index that the maker writes, the C search answers as the C forward call does wherever that accepts: what
-- Rattle.index.proofs.Search says of the Rattle calls, read off the packed answers. And with the bench it reports three
-- readings. Assumes nothing.
use mathlib.Core.Path.{◌≡◌, ◌∙◌, sym, ap}
use mathlib.Core.Logic.{◌⊎◌, inl, inr, ⊎_elim}
use mathlib.Core.List.{List}
use Prim.Native.Nat.{ℕ}
use native.Mathlib.Omega.{arith}
use Rattle.records.specs.declared.Answer.{Answer}
use Rattle.rule.specs.Calls.{pattern_in}
use Rattle.index.specs.Index.{index_of, CannotMatch}
use Rattle.index.proofs.Search.{own-index}
use Rattle.spaldep.specs.Packed.{capped, packed_answer, code_in, peak_in}
use Rattle.spaldep.specs.Host.{ForwardHost, SearchHost}
use Rattle.spaldep.proofs.Fields.{packed-peak}
use Rattle.spaldep.proofs.Demand3.{SameWords, same-words, code-back, code-on, not_eight}

module _ (a : Answer) (word : ℕ) (w : word ≡ packed_answer a) where
  word-peak : peak_in word ≡ capped 16 a.peak
  word-peak = ap peak_in w ∙ packed-peak a

module _ (pattern block : List ℕ) (limit lent_work lent_result word other : ℕ) (work other_work result after : List ℕ) where
  pub host-own-index :
      SearchHost pattern (index_of block) block limit lent_work lent_result word work result
      → ForwardHost pattern block limit lent_work lent_result other other_work after
      → code_in other ≡ 0
      → (code_in word ≡ 0) × SameWords word other result after × (work ≡ other_work)
      × ((peak_in word ≡ peak_in other) ⊎ (CannotMatch (pattern_in pattern) (index_of block) × (peak_in word ≡ 0)))
  host-own-index s (ForwardHost.refused_result i n w y r) z = absurd (let e = not_eight other 0 w z in omega arith)
  host-own-index (SearchHost.refused_result i f n w y r) (ForwardHost.called d b h v) z = absurd (n (d i))
  host-own-index (SearchHost.called e a s v) (ForwardHost.called d b h w) z =
      let accepted = code-back b other w 0 (omega arith) z in
      let q = own-index pattern block limit lent_work lent_result a b work other_work result after s h accepted in
      let same = q.0 in
      let done : a.code ≡ 0 = same.code ∙ accepted in (
        code-on a word v 0 (omega arith) done,
        same-words a b word other v w result after done accepted (record { bytes = q.2; used = same.used; readings = same.readings }),
        q.1,
        ⊎_elim
            (λ p. inl (word-peak a word v ∙ ap (capped 16) p ∙ sym (word-peak b other w)))
            (λ p. inr (p.0, word-peak a word v ∙ ap (capped 16) p.1))
            q.3,
      )
