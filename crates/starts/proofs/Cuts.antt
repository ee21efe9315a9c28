-- Why a reading takes no binding too many below the least record so far. Assumes nothing.
use Rattle.std.proofs.Common.{◌≡◌, refl, sym, Bool, true, false, not, true≢false, List, ℕ, ◌≤◌, min, arith}
use Rattle.numbers.proofs.Cases.{by_order}
use Rattle.records.specs.Records.{records_of}
use Rattle.slots.specs.Slots.{held_in}
use Rattle.reach.specs.declared.Start.{Start}
use Rattle.reach.specs.Growing.{NoneOver}
use Rattle.reach.proofs.Growing.{over-grown}
use Rattle.starts.specs.Skips.{Above}

pub not-true : (a : Bool) → not a ≡ true → a ≡ false
not-true true e = absurd (true≢false (sym e))
not-true false e = refl

module _ (plan bytes : List ℕ) (s : Start) (slot : List ℕ) (j : ℕ) (within : j ≤ s.until) (end least : ℕ)
    (is : end ≡ min s.until least) where
  -- it takes none before the window's end and that record
  pub above-none :
      NoneOver plan bytes s slot j end → Above plan bytes s j (held_in slot).bindings least
  above-none none =
      record {
        none = λ p o x m.
            let g = over-grown p (records_of bytes) s.mark s.until j within (held_in slot).bindings x m in
            let before = g.before in
            by_order x least
            (λ l.
            let few = none.few p o.of g.reading x g.variable g.grown (omega arith) g.fired in
            let many = g.many in
            absurd (omega arith))
            (λ l. l);
      }

  -- none of the block comes before it
  pub above_floor :
      end ≤ s.floor → Above plan bytes s j (held_in slot).bindings s.floor
      → Above plan bytes s j (held_in slot).bindings least
  above_floor l above =
      record {
        none = λ p o x m.
            let g = over-grown p (records_of bytes) s.mark s.until j within (held_in slot).bindings x m in
            let before = g.before in
            let floor = above.none p o x m in
            omega arith;
      }
