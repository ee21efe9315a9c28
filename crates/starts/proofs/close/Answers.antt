-- `starts::close`: a reading is reported where its state is full. Assumes nothing.
use Rattle.std.proofs.Common.{◌-◌, ◌^◌, refl, sym, ap, ◌∙◌}
use Rattle.numbers.specs.Bits.{within}
use Rattle.rule.proofs.SkipBranch.{close-full, close-part}
use Rattle.slots.specs.Slots.{held_in}
use Rattle.starts.specs.Sinks.{Sink, sink_of, emit, emits}
use Rattle.reach.proofs.Readings.{full_is}
use Rattle.starts.proofs.close.Goals as goal

pub returns-then-is_full : goal.returns-then-is_full
unfolding emits emit
returns-then-is_full c = let a = c.args in
    let full = c.is_full.ensures ∙ ap (within (2 ^ a.s.n - 1)) c.state_of.ensures in
    record {
      steps = ap (λ (x : Sink). x.steps) c.report.ensures;
      found = λ p e.
          c.report.ensures
          ∙ ap (emits (sink_of a.res.now a.counts))
          (sym (close-full p a.s.mark (held_in a.slot.now).bindings
          (sym (full_is _ _ _ c.requires.0 c.requires.1 p e) ∙ sym full ∙ c.if-is_full.true)));
    }

pub returns-else-is_full : goal.returns-else-is_full
unfolding emits
returns-else-is_full c = let a = c.args in
    let full = c.is_full.ensures ∙ ap (within (2 ^ a.s.n - 1)) c.state_of.ensures in
    record {
      steps = refl;
      found = λ p e.
          ap (emits (sink_of a.res.now a.counts))
          (sym (close-part p a.s.mark (held_in a.slot.now).bindings
          (sym (full_is _ _ _ c.requires.0 c.requires.1 p e) ∙ sym full ∙ c.if-is_full.false)));
    }
