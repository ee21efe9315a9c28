-- How far the maker has come. Assumes nothing.
use mathlib.Core.Path.{◌≡◌, ◌∙◌, ap, subst}
use mathlib.Core.Bool.{Bool, false}
use mathlib.Core.List.{List}
use Prim.Native.Nat.{ℕ, ◌+◌, ◌≤◌, ◌<◌}
use native.Mathlib.Omega.{arith}
use borrow.Author.Count.{below_more}
use lib.ListN.{get_or, replicate}
use Rattle.numbers.proofs.Cases.{by_order}
use Rattle.records.specs.Records.{record_at, record_count}
use Rattle.records.specs.Blocks.{most_records, record_refusal}
use Rattle.index.specs.Index.{cores, cores_up_to}
use Rattle.index.specs.Upto.{counts_up_to, types_up_to, fold_types, seen_up_to, marked_bits, Counted}
use Rattle.index.proofs.Cores.{seen_start, bits-all}
use Rattle.index.proofs.Types.{types-start, types-bound, fold-types}

-- one record more
pub counted_next :
    (block : List ℕ) (n : ℕ) (types more : List ℕ) (seen marked : List Bool) → Counted block n types seen
    → n < record_count block
    → record_refusal block n ≡ 0
    → (record_at block n).event_type < 256
    → more ≡ types_up_to block (n + 1)
    → marked ≡ seen_up_to block (n + 1)
    → Counted block (n + 1) more marked
counted_next block n types more seen marked c l good small e f =
    record {
      inside = omega arith;
      good = below_more _ _ c.good good;
      small = λ j h. by_order j n (c.small j) (λ m. let q : n ≡ j = omega arith in subst (λ (k : ℕ). (record_at block k).event_type < 256) q small);
      counted = e;
      marked = f;
    }

-- before the first record
pub nothing-counted :
    (block : List ℕ) → Counted block 0 (replicate 16 0) (replicate cores false)
nothing-counted block =
    record {
      inside = omega arith;
      good = λ j h. absurd (omega arith);
      small = λ j h. absurd (omega arith);
      counted = types-start block;
      marked = seen_start block;
    }

-- what the counts are
module _ (block : List ℕ) (n : ℕ) (types : List ℕ) (seen : List Bool) (known : Counted block n types seen) where
  pub counted-bound : record_count block ≤ most_records → (k : ℕ) → get_or types k 0 ≤ most_records
  counted-bound few k =
      let e = ap (λ (l : List ℕ). get_or l k 0) known.counted in
      let b = types-bound block n k in
      omega (arith, known.inside)

  pub counted-classes : fold_types types ≡ counts_up_to block n
  counted-classes = ap fold_types known.counted ∙ fold-types block n known.small

  pub marked-cores : marked_bits seen ≡ cores_up_to block n
  marked-cores = ap marked_bits known.marked ∙ bits-all block n
