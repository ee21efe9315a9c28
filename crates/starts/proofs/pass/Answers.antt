-- `starts::pass` meets its contract: the plan is the pattern's, and the block's times rise. Assumes nothing.
use Rattle.std.proofs.Common.{arith, rules, List, ℕ, refl}
use Rattle.records.specs.Records.{records_of}
use Rattle.records.specs.Blocks.{InOrder as BlockInOrder}
use Rattle.patterns.specs.declared.Pattern.{Pattern}
use Rattle.patterns.specs.Checked.{InOrder}
use Rattle.rule.specs.Starts.{found_all}
use Rattle.rule.proofs.Inputs.{times-never-fall}
use Rattle.plans.specs.Plan.{IsPlan}
use Rattle.plans.proofs.Plans.{sound-plan, classed-plan}
use Rattle.reach.specs.Readings.{Usable, Of}
use Rattle.sweep.specs.Floors.{Floor}
use Rattle.starts.specs.Sinks.{sink_of, none_yet}
use Rattle.starts.proofs.Same.{least-decides}
use Rattle.starts.proofs.pass.Goals as goal

module _ (p : Pattern) (block plan : List ℕ) (good : InOrder p) (blocks : BlockInOrder block)
    (made : IsPlan p plan) where
  usable : Usable plan block p.n p.c
  usable =
      record {
        sound = sound-plan p good plan made;
        classed = classed-plan p good plan made;
        variables = good.few;
        conditions = good.few_conditions;
        records = blocks.few;
        climbing = blocks.climbing;
      }

  of : Of p plan block p.n p.c
  of =
      record {
        order = good;
        made = made;
        rising = times-never-fall block blocks;
        variables = refl;
        conditions = refl;
      }

no-floor : (plan block : List ℕ) (n c duration : ℕ) → Floor plan block n c duration 0
no-floor plan block n c duration = record { few = omega arith; below = λ p o d x m. omega arith }

pub all_can-requires : goal.all_can-requires
all_can-requires c =
    let u = usable c.args.p c.args.block.now _ c.requires.0 c.requires.1 c.plan_of-plan.ensures in
    search (rules, u)

pub each_start-quick-requires : goal.each_start-quick-requires
each_start-quick-requires c = let a = c.args in
    (usable a.p a.block.now _ c.requires.0 c.requires.1 c.plan_of-plan.ensures, c.all_can.ensures, no-floor _ _ _ _ _, omega arith)

pub returns-then-quick-lt-GIVE_UP : goal.returns-then-quick-lt-GIVE_UP
returns-then-quick-lt-GIVE_UP c = let a = c.args in
    record {
      memory = a.res.now;
      size = refl;
      same =
          c.each_start-quick.ensures.found c.if-quick-lt-GIVE_UP.true a.p
          (of a.p a.block.now _ c.requires.0 c.requires.1 c.plan_of-plan.ensures)
          refl;
    }

pub sweep-requires : goal.sweep-requires
sweep-requires c = (usable c.args.p c.args.block.now _ c.requires.0 c.requires.1 c.plan_of-plan.ensures, c.all_can.ensures)

pub returns-in-Reached : goal.returns-in-Reached
returns-in-Reached c = let a = c.args in
    let floor = c.in-Reached.ensures.0 in
    let reached = c.in-Reached.ensures.1 in
    let run = c.each_start-quick in
    let made = of a.p a.block.now _ c.requires.0 c.requires.1 c.plan_of-plan.ensures in
    let inside = reached.inside in
    record {
      memory = a.res.now;
      size = refl;
      same =
          least-decides a.most run.new.res (sink_of a.res.now none_yet) (found_all a.p (records_of a.block.now)) c.in-Reached.least
          run.auto.res inside (omega arith) (reached.found a.p made refl) (floor.below a.p made refl)
          _ refl;
    }

pub each_start-requires : goal.each_start-requires
each_start-requires c = let a = c.args in (
  usable a.p a.block.now _ c.requires.0 c.requires.1 c.plan_of-plan.ensures,
  c.all_can.ensures,
  c.in-NotBefore.ensures,
  omega arith,
)

pub returns : goal.returns
returns c = let a = c.args in
    let first = c.each_start-quick in
    let run = c.each_start.ensures in
    record {
      memory = first.new.res;
      size = first.auto.res;
      same =
          run.found (run.bounded (omega arith)) a.p
          (of a.p a.block.now _ c.requires.0 c.requires.1 c.plan_of-plan.ensures)
          refl;
    }
