-- `patterns::read` meets its contract: a length or a header that is refused, the first bad variable, the first bad
-- condition, and the pattern. Assumes nothing.
use Rattle.std.proofs.Common.{arith, ◌∙◌, sym, ap₂, refl}
use Rattle.std.proofs.lemmas.Result.{err_from_is_err_and}
use Rattle.patterns.specs.Checked.{pattern_up_to, pattern_of}
use Rattle.patterns.proofs.Answers.{header-in-order, answer-short, answer-header, answer-length}
use Rattle.patterns.proofs.Answers.{answer-variable, answer-condition, answer-pattern}
use Rattle.patterns.proofs.read.Goals as goal

pub returns-then-pattern-lt-HEADER_BYTES : goal.returns-then-pattern-lt-HEADER_BYTES
returns-then-pattern-lt-HEADER_BYTES c = sym (answer-short _ c.if-pattern-lt-HEADER_BYTES.true)

pub returns-then-is_header_broken : goal.returns-then-is_header_broken
returns-then-is_header_broken c =
    sym (answer-header _ c.if-pattern-lt-HEADER_BYTES.false (sym c.if-is_header_broken.ensures))

pub returns-then-pattern-n : goal.returns-then-pattern-n
returns-then-pattern-n c =
    let head = sym c.if-is_header_broken.ensures in
    sym (answer-length _ c.if-pattern-lt-HEADER_BYTES.false head (λ w. c.if-pattern-n.true (omega arith)))

pub returns-in_err-check_variables : goal.returns-in_err-check_variables
returns-in_err-check_variables c =
    let head = sym c.if-is_header_broken.ensures in
    let p = err_from_is_err_and c.from_residual.result c.from_residual.ensures.1 in
    rw (p.1, p.2, c.in_err-check_variables.ensures.1)
    (sym (answer-variable _ c.if-pattern-lt-HEADER_BYTES.false head (omega arith) _ refl (omega (arith, c.in_err-check_variables.ensures.0))))

pub returns-in_err-check_conditions : goal.returns-in_err-check_conditions
returns-in_err-check_conditions c =
    let head = sym c.if-is_header_broken.ensures in
    let p = err_from_is_err_and c.from_residual-in_err-check_conditions.result c.from_residual-in_err-check_conditions.ensures.1 in
    rw (p.1, p.2, c.in_err-check_conditions.ensures.1)
    (sym (answer-condition _ c.if-pattern-lt-HEADER_BYTES.false head (omega arith) (omega arith) _ refl (omega (arith, c.in_err-check_conditions.ensures.0))))

pub set_variables-requires : goal.set_variables-requires
set_variables-requires c =
    let o = header-in-order c.args.pattern.now (sym c.if-is_header_broken.ensures) in
    (omega arith, omega arith, c.with_counts-p.ensures)

pub set_conditions-requires : goal.set_conditions-requires
set_conditions-requires c =
    let o = header-in-order c.args.pattern.now (sym c.if-is_header_broken.ensures) in
    (c.count_variables-n.ensures, omega arith, omega arith, c.set_variables.ensures)

pub returns : goal.returns
unfolding pattern_of
returns c =
    let head = sym c.if-is_header_broken.ensures in
    let e = c.set_conditions.ensures ∙ ap₂ (pattern_up_to c.args.pattern.now) c.count_variables-n.ensures c.count_conditions-c.ensures in
    rw e (sym (answer-pattern _ c.if-pattern-lt-HEADER_BYTES.false head (omega arith) (omega arith) (omega arith)))
