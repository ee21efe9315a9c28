-- `lines::put_lines` meets its contract. Assumes nothing.
use Rattle.std.proofs.Common.{◌≡◌, ◌∙◌, ap, arith}
use Rattle.lines.specs.Results.{place_of}
use Rattle.lines.proofs.Lines.{no_lines, one-line-more, all_lines, place-first, place-next, line-fits}
use Rattle.lines.proofs.put_lines.Goals as goal

pub loop-init : goal.loop-init
loop-init c = let a = c.args in (place-first a.res.now, omega arith, no_lines a.text.now a.res.now)

pub put_line-end-requires : goal.put_line-end-requires
put_line-end-requires c =
    let l = c.loop in
    let h = line-fits c.args.res.now l.at l.counter c.args.count l.invariant.0 c.loop-test.true in
    (omega arith, omega arith)

pub next_line-at-requires : goal.next_line-at-requires
next_line-at-requires c =
    let l = c.loop in
    let h = line-fits c.args.res.now l.at l.counter c.args.count l.invariant.0 c.loop-test.true in
    omega arith

pub loop-preserved : goal.loop-preserved
loop-preserved c =
    let a = c.args in
    let l = c.loop in
    let e = c.put_line-end in
    let n = c.next_line-at in (
      n.ensures ∙ place-next a.res.now l.at l.counter l.invariant.0,
      omega (arith, n.ensures),
      one-line-more a.text.now l.text e.new.text a.res.now l.at l.counter l.end e.result l.invariant.0 l.invariant.2 e.ensures.0,
    )

pub returns : goal.returns
returns c =
    let a = c.args in
    let l = c.loop in
    let e : l.counter ≡ a.count = omega arith in
    let p : l.at ≡ place_of a.res.now a.count = l.invariant.0 ∙ ap (place_of a.res.now) e in
    (all_lines a.text.now l.text a.res.now l.counter a.count l.end e l.invariant.2, omega arith)
