-- The digits of a tenth of the number, if it has more than one, and the last digit.
use Rattle.std.proofs.Common.{◌≡◌, ◌%◌, arith}
use Rattle.numbers.proofs.Decimal.{put-digit, put-last-digit, places-left}
use Rattle.numbers.proofs.+put_number.Goals as goal
use Rattle.numbers.proofs.+put_number.Goals.{then-n-lt10, else-n-lt10}

pub put_number-last-requires : goal.put_number-last-requires
put_number-last-requires t c =
    let left = places-left c.args.places c.args.n c.requires.0 c.if-n-lt10.false c.requires.1 in
    (omega arith, (left.0, left.1, omega arith))

pub bounds-text-last : goal.bounds-text-last
bounds-text-last t c = elim c.if-n-lt10.branch [ then-n-lt10 w ↦ omega arith | else-n-lt10 w ↦ omega arith ]

pub returns : goal.returns
returns t c =
    elim c.if-n-lt10.branch [
      | then-n-lt10 w ↦
          let one : c.args.n % 10 ≡ c.args.n = omega arith in
          rw (w.text-is, w.last-is, one) (put-digit _ c.args.at c.args.n w.if-n-lt10.true (omega arith), omega arith)
      | else-n-lt10 w ↦
          let more = w.put_number-last.ensures.0 in
          rw (w.text-is, w.last-is)
          (put-last-digit _ _ c.args.at _ c.args.n w.if-n-lt10.false more (omega (arith, more.kept)), omega arith)
    ]
