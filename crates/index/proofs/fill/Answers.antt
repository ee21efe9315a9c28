-- `index::fill` meets its contract: records are judged and counted in one way through the block. Assumes nothing.
use Rattle.std.proofs.Common.{◌≡◌, ◌∙◌, refl, sym, ap, subst, List, ℕ, ◌≤◌, get_or, arith}
use Rattle.std.proofs.lemmas.Result.{err_from_is_err_and}
use Rattle.records.specs.declared.Answer.{Answer}
use Rattle.records.specs.Records.{record_count}
use Rattle.records.specs.Blocks.{refused}
use Rattle.records.proofs.Blocks.{few-of, answer-misfit, answer-bad, answer-good}
use Rattle.index.proofs.Counted.{counts-bound, whole-index}
use Rattle.index.proofs.Runs.{nothing-counted, counted-bound, counted-classes, marked-cores}
use Rattle.index.proofs.fill.Goals as goal

pub returns-then-is_misfit : goal.returns-then-is_misfit
returns-then-is_misfit c = (answer-misfit _ (sym c.if-is_misfit.ensures), λ z. omega arith, refl)

pub loop-i-init : goal.loop-i-init
loop-i-init c = nothing-counted c.args.block.now

pub judge_record-requires : goal.judge_record-requires
judge_record-requires c = let few = few-of _ (sym c.is_misfit.ensures ∙ c.if-is_misfit.false) in (omega arith, omega arith)

pub returns-in_err-judge_record : goal.returns-in_err-judge_record
returns-in_err-judge_record c = let told = c.in_err-judge_record.ensures in
    let same = err_from_is_err_and c.from_residual.result c.from_residual.ensures.1 in
    let m = sym c.is_misfit.ensures ∙ c.if-is_misfit.false in
    rw (same.1, same.2)
    (answer-bad _ c.loop-i.i m c.loop-i-test.true c.loop-i.invariant.good (λ z. omega arith) ∙ (λ j. refused (sym told.1 j) (sym told.2 j)), λ z. omega arith, refl)

pub take-i-requires : goal.take-i-requires
take-i-requires c = let few = few-of _ (sym c.is_misfit.ensures ∙ c.if-is_misfit.false) in
    (c.loop-i-test.true, refl, few, c.in_ok-judge_record.ensures, c.loop-i.invariant)

pub loop-i-smaller : goal.loop-i-smaller
loop-i-smaller c = let inside = c.take-i.ensures.1.inside in omega arith

pub class_counts-counts-requires : goal.class_counts-counts-requires
class_counts-counts-requires c =
    counted-bound c.args.block.now _ _ _ c.loop-i.invariant (few-of c.args.block.now (sym c.is_misfit.ensures ∙ c.if-is_misfit.false))

pub put_index-requires : goal.put_index-requires
put_index-requires c = let block = c.args.block.now in
    let known = c.loop-i.invariant in
    let few = few-of block (sym c.is_misfit.ensures ∙ c.if-is_misfit.false) in
    let e = c.class_counts-counts.ensures ∙ counted-classes block _ _ _ known in
    let bounded : (k : ℕ) → get_or c.class_counts-counts.result k 0 ≤ c.loop-i.i =
    λ k. subst (λ (l : List ℕ). get_or l k 0 ≤ c.loop-i.i) (sym e) (counts-bound block c.loop-i.i k)
    in
    (c.requires, λ k. omega (arith, bounded k, known.inside))

pub returns : goal.returns
returns c = let block = c.args.block.now in
    let known = c.loop-i.invariant in
    let done : c.loop-i.i ≡ record_count block = omega (arith, known.inside) in
    let m = sym c.is_misfit.ensures ∙ c.if-is_misfit.false in (
      refl,
      ap (λ (x : Answer). x.code) (answer-good block m (λ j h. known.good j (omega arith))),
      c.put_index.ensures
          ∙ whole-index block _ _ c.core_bits-bits.result done (c.class_counts-counts.ensures ∙ counted-classes block _ _ _ known)
          (c.core_bits-bits.ensures ∙ marked-cores block _ _ _ known),
    )
