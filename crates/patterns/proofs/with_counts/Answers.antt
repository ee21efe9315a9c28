-- `patterns::with_counts` meets its contract. Assumes nothing.
use Rattle.std.proofs.Common.{arith, ◌≡◌, ◌%◌}
use Rattle.patterns.specs.Patterns.{duration}
use Rattle.patterns.proofs.Reading.{counts-read}
use Rattle.patterns.proofs.with_counts.Goals as goal

pub returns : goal.returns
returns c =
    let d : c.header_word.result % 1099511627776 ≡ duration c.args.pattern.now = omega (arith, c.header_word.ensures) in
    counts-read _ _ _ _ _ c.blank_pattern.ensures c.count_variables.ensures c.count_conditions.ensures d
