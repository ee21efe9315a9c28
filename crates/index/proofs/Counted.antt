-- What the maker counts, record by record. Assumes nothing.
use mathlib.Core.Path.{◌≡◌, ◌∙◌, refl, sym, ap, ap₂}
use mathlib.Core.Bool.{Bool, true, false, ◌&&◌}
use mathlib.Core.List.{List}
use Prim.Native.Nat.{ℕ, zero, suc, ◌+◌, ◌-◌, ◌^◌, ◌≤◌, ◌<◌}
use native.Mathlib.Omega.{arith}
use borrow.Author.Tests.{lt-ltb, eq-eqb, ne_eqb}
use lib.Dec.{eqb, ltb}
use lib.ListN.{get_or}
use Rattle.numbers.specs.Numbers.{upto, count, sum, one_if}
use Rattle.numbers.proofs.Cases.{by-test, by_order}
use Rattle.numbers.proofs.Count.{count-bound, count-more}
use Rattle.numbers.proofs.Bits.{mask_bound}
use Rattle.records.specs.declared.Record.{Record}
use Rattle.records.specs.Records.{record_at, record_count, event_kind, class_of}
use Rattle.index.specs.Index.{classes, cores, is_of_class, is_of_core, count_up_to, has_up_to, cores_up_to, counts_row}
use Rattle.index.specs.Index.{packed_bytes, index_of}
use Rattle.index.specs.Upto.{counts_up_to}

-- ## Counts of a test

-- where nothing is counted, no test passes
pub count-zero : (test : ℕ → Bool) (n : ℕ) → count test n ≡ 0 → (i : ℕ) → i < n → test i ≡ false
unfolding count
count-zero test zero e i l = absurd (omega arith)
count-zero test (suc n) e i l =
    let below : count test n ≡ 0 = omega arith in
    let ih = count-zero test n below i in
    let here : one_if (test n) ≡ 0 = omega arith in
    by_order i n ih
    (λ m.
    let q : n ≡ i = omega arith in
    by-test (test i)
    (λ t. let one : one_if (test n) ≡ 1 = ap (λ (j : ℕ). one_if (test j)) q ∙ ap one_if t in absurd (omega arith))
    (λ f. f))

-- ## Classes

pub class-bound : (t : ℕ) → class_of t < classes
unfolding class_of
class-bound t =
    by-test (ltb t 16) (λ e. rw (e, class_of) (omega arith))
    (λ e. by-test (ltb t 32) (λ f. rw (e, f, class_of) (omega arith))
    (λ f. by-test (ltb t 64) (λ g. rw (e, f, g, class_of) (omega arith))
    (λ g. by-test (ltb t 96) (λ h. rw (e, f, g, h, class_of) (omega arith))
    (λ h. by-test (ltb t 128) (λ k. rw (e, f, g, h, k, class_of) (omega arith))
    (λ k. rw (e, f, g, h, k, class_of) (omega arith))))))

-- nothing more
same : (x : ℕ) → x ≡ x + one_if false
same x = omega arith

-- what stands at each place, and beyond the last
pub counts-at : (block : List ℕ) (n k : ℕ) → k < classes → get_or (counts_up_to block n) k 0 ≡ count_up_to block n k
unfolding counts_up_to upto
counts-at block n zero l = refl
counts-at block n (suc zero) l = refl
counts-at block n (suc (suc zero)) l = refl
counts-at block n (suc (suc (suc zero))) l = refl
counts-at block n (suc (suc (suc (suc zero)))) l = refl
counts-at block n (suc (suc (suc (suc (suc zero))))) l = refl
counts-at block n (suc (suc (suc (suc (suc (suc k)))))) l = absurd (omega arith)

pub counts-beyond : (block : List ℕ) (n k : ℕ) → classes ≤ k → get_or (counts_up_to block n) k 0 ≡ 0
unfolding counts_up_to upto
counts-beyond block n zero l = absurd (omega arith)
counts-beyond block n (suc zero) l = absurd (omega arith)
counts-beyond block n (suc (suc zero)) l = absurd (omega arith)
counts-beyond block n (suc (suc (suc zero))) l = absurd (omega arith)
counts-beyond block n (suc (suc (suc (suc zero)))) l = absurd (omega arith)
counts-beyond block n (suc (suc (suc (suc (suc zero))))) l = absurd (omega arith)
counts-beyond block n (suc (suc (suc (suc (suc (suc k)))))) l = refl

pub count-up-to-bound : (block : List ℕ) (n k : ℕ) → count_up_to block n k ≤ n
unfolding count_up_to
count-up-to-bound block n k = count-bound (is_of_class block k) n

pub counts-bound : (block : List ℕ) (n k : ℕ) → get_or (counts_up_to block n) k 0 ≤ n
counts-bound block n k =
    by_order k classes
    (λ l. omega (arith, counts-at block n k l, count-up-to-bound block n k))
    (λ l. omega (arith, counts-beyond block n k l))

module _ (block : List ℕ) (i : ℕ) where
  abbrev here : Record
  here = record_at block i

  -- ## Cores

  pub core-bound : here.core < cores
  unfolding record_at
  core-bound = omega arith

  pub core-gap : ¬ (here.kind ≡ event_kind) → (c : ℕ) → has_up_to block (i + 1) c ≡ has_up_to block i c
  unfolding has_up_to is_of_core
  core-gap other c =
      ap (λ (x : ℕ). ltb 0 x) (count-more (is_of_core block c) i)
      ∙ ap (λ (t : Bool). ltb 0 (count (is_of_core block c) i + one_if (t && eqb here.core c))) (ne_eqb here.kind event_kind other)
      ∙ ap (λ (x : ℕ). ltb 0 x) (sym (same (count (is_of_core block c) i)))

  core-event :
      here.kind ≡ event_kind → (c : ℕ) → has_up_to block (i + 1) c ≡ ltb 0 (count (is_of_core block c) i + one_if (eqb here.core c))
  unfolding has_up_to is_of_core
  core-event event c =
      ap (λ (x : ℕ). ltb 0 x) (count-more (is_of_core block c) i)
      ∙ ap (λ (t : Bool). ltb 0 (count (is_of_core block c) i + one_if (t && eqb here.core c))) (eq-eqb here.kind event_kind event)

  pub core-here : here.kind ≡ event_kind → has_up_to block (i + 1) here.core ≡ true
  core-here event =
      let c = here.core in
      let more : 0 < count (is_of_core block c) i + one_if true = omega arith in
      core-event event c
      ∙ ap (λ (t : Bool). ltb 0 (count (is_of_core block c) i + one_if t)) (eq-eqb c c refl)
      ∙ lt-ltb 0 (count (is_of_core block c) i + one_if true) more

  pub core-other : here.kind ≡ event_kind → (c : ℕ) → ¬ (here.core ≡ c) → has_up_to block i c ≡ has_up_to block (i + 1) c
  unfolding has_up_to
  core-other event c n =
      ap (λ (x : ℕ). ltb 0 x) (same (count (is_of_core block c) i))
      ∙ sym (core-event event c ∙ ap (λ (t : Bool). ltb 0 (count (is_of_core block c) i + one_if t)) (ne_eqb here.core c n))

pub cores-bound : (block : List ℕ) (n : ℕ) → cores_up_to block n < 2 ^ 64
unfolding cores_up_to
cores-bound block n = mask_bound (λ j. has_up_to block n (cores - 1 - j)) cores

-- ## All records

row_counts :
    (block : List ℕ) (n : ℕ) → counts_row (λ k. get_or (counts_up_to block n) k 0) ≡ counts_row (count_up_to block n)
unfolding counts_row sum counts_up_to upto
row_counts block n = refl

-- what was counted up to the last record is the index
pub whole-index :
    (block : List ℕ) (i : ℕ) (counts : List ℕ) (bits : ℕ) → i ≡ record_count block → counts ≡ counts_up_to block i
    → bits ≡ cores_up_to block i
    → packed_bytes (counts_row (λ k. get_or counts k 0)) bits ≡ index_of block
unfolding index_of
whole-index block i counts bits all e f =
    ap₂ (λ (l : List ℕ) (b : ℕ). packed_bytes (counts_row (λ k. get_or l k 0)) b) e f
    ∙ ap (λ (n : ℕ). packed_bytes (counts_row (λ k. get_or (counts_up_to block n) k 0)) (cores_up_to block n)) all
    ∙ ap (λ (r : ℕ). packed_bytes r (cores_up_to block (record_count block))) (row_counts block (record_count block))
