-- The fields of a C answer are those of the call's answer, each stopped at its largest number, and stand for each other
-- exactly where they fit. Assumes nothing.
use mathlib.Core.Path.{◌≡◌}
use Prim.Native.Nat.{ℕ, ◌+◌, ◌*◌, ◌^◌, ◌<◌}
use native.Mathlib.Omega.{arith}
use Rattle.numbers.specs.Numbers.{field}
use Rattle.records.specs.declared.Answer.{Answer}
use Rattle.spaldep.specs.Packed.{capped, place_or_used, packed_answer, code_in, place_or_used_in, readings_in, peak_in}

module _ (code place readings peak : ℕ) (c : code < 2 ^ 8) (p : place < 2 ^ 24) (r : readings < 2 ^ 16)
    (k : peak < 2 ^ 16) where
  abbrev word : ℕ
  word = code * 2 ^ 56 + place * 2 ^ 32 + readings * 2 ^ 16 + peak

  code-in : field 8 56 word ≡ code
  code-in = omega arith

  place_in : field 24 32 word ≡ place
  place_in = omega arith

  readings-in : field 16 16 word ≡ readings
  readings-in = omega arith

  peak-in : field 16 0 word ≡ peak
  peak-in = omega arith

module _ (a : Answer) where
  pub packed-code : code_in (packed_answer a) ≡ capped 8 a.code
  unfolding packed_answer
  packed-code = code-in (capped 8 a.code) (capped 24 (place_or_used a)) (capped 16 a.readings) (capped 16 a.peak) (omega arith) (omega arith) (omega arith) (omega arith)

  pub packed-place : place_or_used_in (packed_answer a) ≡ capped 24 (place_or_used a)
  unfolding packed_answer
  packed-place = place_in (capped 8 a.code) (capped 24 (place_or_used a)) (capped 16 a.readings) (capped 16 a.peak) (omega arith) (omega arith) (omega arith) (omega arith)

  pub packed-readings : readings_in (packed_answer a) ≡ capped 16 a.readings
  unfolding packed_answer
  packed-readings = readings-in (capped 8 a.code) (capped 24 (place_or_used a)) (capped 16 a.readings) (capped 16 a.peak) (omega arith) (omega arith) (omega arith) (omega arith)

  pub packed-peak : peak_in (packed_answer a) ≡ capped 16 a.peak
  unfolding packed_answer
  packed-peak = peak-in (capped 8 a.code) (capped 24 (place_or_used a)) (capped 16 a.readings) (capped 16 a.peak) (omega arith) (omega arith) (omega arith) (omega arith)
