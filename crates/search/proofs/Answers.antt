-- The promise of the search in each of its cases. Assumes nothing.
use Rattle.std.proofs.Common.{◌≡◌, refl, ap, subst, ◌∙◌, true, false, List, ℕ}
use Rattle.std.specs.Prelude.{Ok, Err}
use Rattle.records.specs.declared.Answer.{Answer}
use Rattle.records.specs.declared.refusals.Refusal.{Refusal}
use Rattle.records.specs.declared.refusals.Refusal.TheVariants.{Limit, Index}
use Rattle.records.specs.Blocks.{refused, block_answer}
use Rattle.records.specs.Refusals.{code_of, place_of, judged_as}
use Rattle.patterns.specs.declared.Pattern.{Pattern}
use Rattle.patterns.specs.declared.Checked.{Checked}
use Rattle.patterns.specs.Checked.{pattern_answer, checked_of}
use Rattle.patterns.proofs.InOrder.{read-accepted}
use Rattle.rule.proofs.Inputs.{input-block, input-accepts}
use Rattle.forward.specs.Passes.{limit_broken}
use Rattle.forward.proofs.Calls.{code-some, limit-bad, limit-good, call-pattern, call-block, call-limit}
use Rattle.index.specs.Index.{index_broken, CannotMatch}
use Rattle.index.specs.Upto.{Decided}
use Rattle.index.specs.Promises.{SearchCall}
use Rattle.search.specs.Judged.{Judged}

module _ (pattern index block : List ℕ) (limit lent_work : ℕ) where
  pub bad-pattern :
      (e : Refusal) → checked_of (Err e) ≡ pattern_answer pattern → Judged pattern index block limit lent_work (Err e)
  bad-pattern e told lent_result work result w r =
      let m : ¬ ((pattern_answer pattern).code ≡ 0) = λ z. code-some e (ap (λ (k : Checked). k.code) told ∙ z) in
      SearchCall.forwarded (λ z. absurd (m z)) (λ z. absurd (m (input-accepts pattern block z).0))
      (call-pattern pattern block limit lent_work lent_result (refused (code_of e) (place_of e)) work result w m
      (ap (λ (k : Checked). refused k.code k.place) told) r)

  module _ (p : Pattern) (is : checked_of (Ok p) ≡ pattern_answer pattern) where
    good : (pattern_answer pattern).code ≡ 0
    good = read-accepted pattern p is

    pub bad-index : index_broken index ≡ true → Judged pattern index block limit lent_work (Err Index)
    bad-index b lent_result work result w r = SearchCall.refused_index good b refl w r

    module _ (i : index_broken index ≡ false) where
      -- the pattern can match: the forward pass answers
      pub can-match : Decided p index false → Judged pattern index block limit lent_work (Ok false)
      can-match d lent_result answer work result h =
          SearchCall.forwarded (λ q. i) (λ y l. subst (λ (k : Checked). ¬ CannotMatch k.pattern index) is (d.no refl)) h

      pub bad-block :
          (e : Refusal) → judged_as (Err e) ≡ block_answer block → Judged pattern index block limit lent_work (Err e)
      bad-block e told lent_result work result w r =
          let n : ¬ ((block_answer block).code ≡ 0) = λ z. code-some e (ap (λ (a : Answer). a.code) told ∙ z) in
          SearchCall.forwarded (λ q. i) (λ y. absurd (n (input-accepts pattern block y).1))
          (call-block pattern block limit lent_work lent_result (refused (code_of e) (place_of e)) work result w good n told r)

      module _ (b : (block_answer block).code ≡ 0) where
        pub bad-limit : limit_broken limit lent_work ≡ true → Judged pattern index block limit lent_work (Err Limit)
        bad-limit l lent_result work result w r =
            SearchCall.forwarded (λ q. i) (λ y o. absurd (limit-bad limit lent_work l o))
            (call-limit pattern block limit lent_work lent_result (refused 8 0) work result w good b l refl r)

        -- the pattern cannot match: nothing is reported
        pub no-match :
            limit_broken limit lent_work ≡ false → Decided p index true → Judged pattern index block limit lent_work (Ok true)
        no-match l d lent_result work result w r =
            SearchCall.cannot_match (ap (λ (a : Answer). a.code) (input-block pattern block good) ∙ b) i (limit-good limit lent_work l)
            (subst (λ (k : Checked). CannotMatch k.pattern index) is (d.yes refl)) refl w r
