-- A block as a list of records: its length, and what stands at each number. Assumes nothing.
use Rattle.std.proofs.Common.{◌≡◌, ◌∙◌, refl, ap, List, [], ◌∷◌, map, ℕ, zero, suc, ◌<◌, zero-add, not-suc-le-zero, le_of_suc-le-suc, arith, length, get_or}
use lib.ListN.{length-map}
use Rattle.numbers.specs.Numbers.{upto}
use Rattle.numbers.proofs.Upto.{length-upto, get_or-upto}
use Rattle.records.specs.declared.Record.{Record}
use Rattle.records.specs.Records.{record_at, record_count, records_of}

get_d_map : (f : ℕ → Record) (l : List ℕ) (i : ℕ) (d : Record) → i < length l → get_or (map f l) i d ≡ f (get_or l i 0)
get_d_map f [] i d h = absurd (not-suc-le-zero h)
get_d_map f (x ∷ l) zero d h = refl
get_d_map f (x ∷ l) (suc i) d h = get_d_map f l i d (le_of_suc-le-suc h)

module _ (bytes : List ℕ) where
  pub length-records : length (records_of bytes) ≡ record_count bytes
  unfolding records_of
  length-records = length-map (upto 0 (record_count bytes)) (record_at bytes) ∙ length-upto 0 (record_count bytes)

  pub record-listed : (i : ℕ) (d : Record) → i < record_count bytes → get_or (records_of bytes) i d ≡ record_at bytes i
  unfolding records_of
  record-listed i d h =
      get_d_map (record_at bytes) (upto 0 (record_count bytes)) i d (omega (arith, length-upto 0 (record_count bytes)))
      ∙ ap (record_at bytes) (get_or-upto 0 (record_count bytes) i 0 h ∙ zero-add i)
