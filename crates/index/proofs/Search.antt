-- The search beside the forward pass: with the index that the maker writes, it answers as the pass does wherever that
-- accepts, but for the peak where the pattern cannot match; and what it refuses, the pass refuses. And what the search
-- leaves in lent memory. Assumes nothing.
use mathlib.Core.Path.{◌≡◌, refl, sym, ap, subst, ◌∙◌}
use mathlib.Core.Logic.{◌⊎◌, inl, inr}
use mathlib.Core.List.{List}
use Prim.Native.Nat.{ℕ, zero, suc}
use native.Mathlib.Nat.{sub-zero}
use native.Mathlib.Omega.{arith}
use lib.ListN.{length, length-replicate}
use Rattle.records.specs.declared.Answer.{Answer}
use Rattle.automaton.proofs.Membership.{clash}
use Rattle.rule.specs.Rule.{Line}
use Rattle.rule.specs.Promises.{Outcome, Forward, refusal, success}
use Rattle.rule.specs.Calls.{input_answer, pattern_in, block_in, zeros, room_in, result_of, LimitInOrder, ForwardCall}
use Rattle.rule.proofs.Calls.{forward-one}
use Rattle.rule.proofs.Inputs.{RefusedFrom}
use Rattle.rule.proofs.Lent.{forward-work, forward-lengths, forward-refused, result-zeros}
use Rattle.index.specs.Index.{index_of, CannotMatch}
use Rattle.index.specs.Promises.{nothing, SearchCall}
use Rattle.index.proofs.Own.{own-in-order}
use Rattle.index.proofs.Cannot.{cannot-match-empty}

refusal-coded : (room j t : ℕ) → ¬ ((refusal room j t).answer.code ≡ 0)
refusal-coded room j zero e = omega arith
refusal-coded room j (suc zero) e = omega arith
refusal-coded room j (suc (suc zero)) e = omega arith
refusal-coded room j (suc (suc (suc t))) e = omega arith

-- two answers that are the same but for the peak
pub record SameReport (a b : Answer) : Type 0 where
  pub code : a.code ≡ b.code
  pub place : a.place ≡ b.place
  pub used : a.used ≡ b.used
  pub readings : a.readings ≡ b.readings

module _ (pattern block : List ℕ) (limit lent_work lent_result : ℕ) where
  abbrev Searched : Answer → List ℕ → List ℕ → Type 0
  Searched answer work result = SearchCall pattern (index_of block) block limit lent_work lent_result answer work result

  abbrev Forwarded : Answer → List ℕ → List ℕ → Type 0
  Forwarded answer work result = ForwardCall pattern block limit lent_work lent_result answer work result

  -- where the pattern cannot match, a pass that accepts has nothing to report
  module _ (cannot : CannotMatch (pattern_in pattern) (index_of block)) where
    empty-pass :
        (input_answer pattern block).code ≡ 0 → (o : Outcome)
        → Forward (pattern_in pattern) (block_in block) limit (room_in lent_result) o → o.answer.code ≡ 0
        → SameReport nothing o.answer × (result_of lent_result o.numbers ≡ zeros lent_result)
    empty-pass z o (Forward.refuses j t i h f e) c =
        absurd (refusal-coded (room_in lent_result) j t (sym (ap (λ (x : Outcome). x.answer.code) e) ∙ c))
    empty-pass z o (Forward.succeeds l peak n report most e) c =
        let none = cannot-match-empty pattern block z cannot (length (block_in block)) l report in
        let is = e ∙ ap (λ (m : List Line). success (room_in lent_result) m peak) none in (
          record {
            code = sym (ap (λ (x : Outcome). x.answer.code) is);
            place = sym (ap (λ (x : Outcome). x.answer.place) is);
            used = sym (ap (λ (x : Outcome). x.answer.used) is);
            readings = sym (ap (λ (x : Outcome). x.answer.readings) is);
          },
          ap (λ (x : Outcome). result_of lent_result x.numbers) is
              ∙ ap (λ (k : ℕ). result_of lent_result (zeros k)) (sub-zero (room_in lent_result))
              ∙ result-zeros lent_result,
        )

    empty-call :
        (input_answer pattern block).code ≡ 0 → LimitInOrder limit lent_work → (b : Answer) (work result : List ℕ)
        → Forwarded b work result → b.code ≡ 0
        → SameReport nothing b × (zeros lent_work ≡ work) × (zeros lent_result ≡ result)
    empty-call z l b work result (ForwardCall.refused_input n e w r) c = absurd (n z)
    empty-call z l b work result (ForwardCall.refused_limit y n e w r) c = absurd (n l)
    empty-call z l b work result (ForwardCall.answered y k numbers h w r) c =
        let q = empty-pass z (record { answer = b; numbers = numbers }) h c in (q.0, sym w, sym (r ∙ q.1))

  -- with the block's own index the search answers as the forward pass does, wherever that one accepts: the same bytes
  -- in lent memory, and the same answer, but that the peak is 0 where the pattern cannot match
  pub own-index :
      (a b : Answer) (work other_work result other : List ℕ)
      → Searched a work result → Forwarded b other_work other → b.code ≡ 0
      → SameReport a b × (work ≡ other_work) × (result ≡ other)
      × ((a.peak ≡ b.peak) ⊎ (CannotMatch (pattern_in pattern) (index_of block) × (a.peak ≡ 0)))
  own-index a b work other_work result other (SearchCall.refused_index p t e w r) met c = clash t (own-in-order block)
  own-index a b work other_work result other (SearchCall.cannot_match z f l cannot e w r) met c =
      let q = empty-call cannot z l b other_work other met c in
      (subst (λ (x : Answer). SameReport x b) (sym e) q.0, w ∙ q.1, r ∙ q.2, inr (cannot, ap (λ (x : Answer). x.peak) e))
  own-index a b work other_work result other (SearchCall.forwarded f g h) met c =
      let q = forward-one pattern block limit lent_work lent_result a b work other_work result other h met in (
        record {
          code = ap (λ (x : Answer). x.code) q.0;
          place = ap (λ (x : Answer). x.place) q.0;
          used = ap (λ (x : Answer). x.used) q.0;
          readings = ap (λ (x : Answer). x.readings) q.0;
        },
        q.1,
        q.2,
        inl (ap (λ (x : Answer). x.peak) q.0),
      )

  -- and what the search refuses, the forward pass refuses likewise
  pub own-refused :
      (a b : Answer) (work other_work result other : List ℕ)
      → Searched a work result → ¬ (a.code ≡ 0) → Forwarded b other_work other
      → (a ≡ b) × (work ≡ other_work) × (result ≡ other)
  own-refused a b work other_work result other (SearchCall.refused_index p t e w r) n met = clash t (own-in-order block)
  own-refused a b work other_work result other (SearchCall.cannot_match z f l cannot e w r) n met =
      absurd (n (ap (λ (x : Answer). x.code) e))
  own-refused a b work other_work result other (SearchCall.forwarded f g h) n met =
      forward-one pattern block limit lent_work lent_result a b work other_work result other h met

-- ## What the search leaves, with any index

module _ (pattern index block : List ℕ) (limit lent_work lent_result : ℕ) (answer : Answer) (work result : List ℕ) where
  pub search-work :
      SearchCall pattern index block limit lent_work lent_result answer work result → work ≡ zeros lent_work
  search-work (SearchCall.refused_index p t e w r) = w
  search-work (SearchCall.cannot_match z f l c e w r) = w
  search-work (SearchCall.forwarded f g h) = forward-work pattern block limit lent_work lent_result answer work result h

  pub search-lengths :
      SearchCall pattern index block limit lent_work lent_result answer work result
      → (length work ≡ lent_work) × (length result ≡ lent_result)
  search-lengths (SearchCall.refused_index p t e w r) =
      (ap length w ∙ length-replicate lent_work 0, ap length r ∙ length-replicate lent_result 0)
  search-lengths (SearchCall.cannot_match z f l c e w r) =
      (ap length w ∙ length-replicate lent_work 0, ap length r ∙ length-replicate lent_result 0)
  search-lengths (SearchCall.forwarded f g h) =
      forward-lengths pattern block limit lent_work lent_result answer work result h

  pub search-refused :
      SearchCall pattern index block limit lent_work lent_result answer work result → ¬ (answer.code ≡ 0)
      → RefusedFrom 1 15 answer × (result ≡ zeros lent_result)
  search-refused (SearchCall.refused_index p t e w r) n =
      (subst (RefusedFrom 1 15) (sym e) (record { from = omega arith; up_to = omega arith; used = refl; readings = refl; peak = refl }), r)
  search-refused (SearchCall.cannot_match z f l c e w r) n = absurd (n (ap (λ (x : Answer). x.code) e))
  search-refused (SearchCall.forwarded f g h) n =
      let q = forward-refused pattern block limit lent_work lent_result answer work result h n in
      let s = q.0 in
      (record { from = s.from; up_to = omega (arith, s.up_to); used = s.used; readings = s.readings; peak = s.peak }, q.1)
