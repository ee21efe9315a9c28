-- `plans::word_of` meets its contract: each field has its bits. Assumes nothing.
use Rattle.std.proofs.Common.{arith, rules}
use Rattle.plans.specs.Plan.{word_of}
use Rattle.plans.proofs.Plans.{Packs, failing-bound, word-is}
use Rattle.plans.proofs.word_of.Goals as goal

pub overflow_add-result : goal.overflow_add-result
overflow_add-result c = omega (arith, failing-bound)

pub overflow_mul-result-2 : goal.overflow_mul-result-2
overflow_mul-result-2 c = omega (arith, failing-bound)

pub overflow_add-result-2 : goal.overflow_add-result-2
overflow_add-result-2 c = omega (arith, failing-bound)

pub returns : goal.returns
unfolding word_of
returns c = let k = c.args.k in
    let packs : Packs k =
    record {
      variable = search rules;
      attribute = search rules;
      operator = omega arith;
      form = search rules;
      variable2 = search rules;
      attribute2 = search rules;
      constant = search rules;
    } in
    word-is k packs _ (omega arith)
