-- `automaton::list` meets its contract: a slice too short, and the listing. Assumes nothing.
use Rattle.std.proofs.Common.{arith, ◌≡◌, ◌∙◌, ap, ℕ, length, replicate}
use Rattle.patterns.proofs.InOrder.{read-in-order}
use Rattle.automaton.proofs.Answers.{meets-short, meets-listed}
use Rattle.automaton.proofs.list.Goals as goal

pub list_states-count-requires : goal.list_states-count-requires
list_states-count-requires c = read-in-order c.args.pattern.now _ c.in_ok-p.ensures

pub returns-then-listing-count : goal.returns-then-listing-count
returns-then-listing-count c =
    let states = c.list_states-count in
    let size : length states.new.listing ≡ length c.args.listing.now = states.auto.listing ∙ c.fill.auto.self in
    meets-short c.args.pattern.now _ c.in_ok-p.ensures _ states.result _ _ (c.fill.ensures.after (λ y e. e)) states.ensures
    _ (omega (arith, size)) (c.fill-then-listing-count.ensures.after (λ y e. e) ∙ ap (λ (n : ℕ). replicate n 0) size)

pub returns : goal.returns
returns c =
    let states = c.list_states-count in
    let size : length states.new.listing ≡ length c.args.listing.now = states.auto.listing ∙ c.fill.auto.self in
    meets-listed c.args.pattern.now _ c.in_ok-p.ensures _ states.result _ _ (c.fill.ensures.after (λ y e. e)) states.ensures
    (omega (arith, size))
