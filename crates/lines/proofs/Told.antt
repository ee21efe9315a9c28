-- Of a call that accepts, the lines that the result's bytes stand for are its report's, and all of them stand in the
-- result. Assumes nothing.
use mathlib.Core.Path.{◌≡◌, ap, ◌∙◌}
use mathlib.Core.List.{List}
use Prim.Native.Nat.{ℕ, ◌+◌, ◌-◌, ◌*◌, ◌≤◌, ◌<◌}
use native.Mathlib.Omega.{arith}
use lib.ListN.{length, get_or, replicate, length-append, length-replicate, get_or-append}
use Rattle.numbers.specs.Numbers.{bytes_of}
use Rattle.records.specs.declared.Answer.{Answer}
use Rattle.rule.specs.Rule.{Line, pack}
use Rattle.rule.specs.Calls.{pattern_in, block_in, zeros, room_in}
use Rattle.rule.proofs.Inputs.{input-in-order}
use Rattle.rule.proofs.Lent.{length-bytes}
use Rattle.rule.proofs.Accepted.{CallTold}
use Rattle.rule.proofs.Packing.{AllFit}
use Rattle.rule.proofs.Results.{checked-input, report-fits}
use Rattle.lines.specs.Results.{number_at, place_of, lines_in}
use Rattle.lines.proofs.Unpacked.{number-bytes, report-place, report-lines}

module _ (pattern block : List ℕ) (lent : ℕ) (answer : Answer) (result : List ℕ)
    (call : CallTold pattern block lent answer result) where
  abbrev lines : List Line
  lines = call.told.lines

  fits : AllFit lines
  fits =
      report-fits (pattern_in pattern) (block_in block) (checked-input pattern block (input-in-order pattern block call.accepted))
      call.told.short (length (block_in block)) lines call.told.report

  length-numbers : length call.numbers ≡ length (pack lines) + (room_in lent - length (pack lines))
  length-numbers =
      ap length call.told.numbers
      ∙ length-append (pack lines) (replicate (room_in lent - length (pack lines)) 0)
      ∙ ap (λ (n : ℕ). length (pack lines) + n) (length-replicate (room_in lent - length (pack lines)) 0)

  agrees : (i : ℕ) → i < length (pack lines) → number_at result i ≡ get_or (pack lines) i 0
  agrees i h =
      ap (λ (r : List ℕ). number_at r i) call.bytes
      ∙ number-bytes call.numbers (zeros (lent - 2 * length call.numbers)) i (omega (arith, length-numbers))
      ∙ ap (λ (n : List ℕ). get_or n i 0) call.told.numbers
      ∙ get_or-append (pack lines) (replicate (room_in lent - length (pack lines)) 0) 0 i h

  length-result : lent ≤ length result
  length-result =
      let n = length-append (bytes_of call.numbers) (zeros (lent - 2 * length call.numbers)) in
      let z = length-replicate {A = ℕ} (lent - 2 * length call.numbers) 0 in
      omega (arith, ap length call.bytes, length-bytes call.numbers)

  pub told-lines : lines_in result answer.readings ≡ lines
  told-lines = ap (lines_in result) call.told.readings ∙ report-lines result lines fits agrees

  pub told-place : 2 * place_of result answer.readings ≤ length result
  told-place =
      let e = ap (place_of result) call.told.readings ∙ report-place result lines fits agrees in
      omega (arith, call.told.fits, length-result)
