-- `numbers::all` meets its contract. Assumes nothing.
use Rattle.std.proofs.Common.{arith, Bool, true, false, ◌≡◌, ◌<◌, ◌∙◌, ℕ, refl, sym, below_more}
use Rattle.numbers.specs.Numbers.{every}
use Rattle.numbers.proofs.Every.{every_of, every_true}
use Rattle.numbers.proofs.all.Goals as goal

every_false : (p : ℕ → Bool) (n v : ℕ) → v < n → p v ≡ false → every p n ≡ false
every_false p n v h q =
    elim (every p n) as (λ b. every p n ≡ b → b ≡ false) [ true ↦ λ e. (let t : p v ≡ true = every_true p n e v h in cc) | false ↦ λ _. refl ] refl

pub returns-then-not-test : goal.returns-then-not-test
returns-then-not-test g c = λ p h.
    let v = c.loop-v.v in
    sym (every_false p c.args.n v c.loop-v-test.true (sym (h v c.test.result c.loop-v-test.true c.test.ensures) ∙ (cc)))

pub loop-v-preserved : goal.loop-v-preserved
loop-v-preserved g c = λ p h.
    let v = c.loop-v.v in
    below_more (λ k. p k ≡ true) v (c.loop-v.invariant p h) (sym (h v c.test.result c.loop-v-test.true c.test.ensures) ∙ (cc))

pub returns : goal.returns
returns g c = λ p h. sym (every_of p c.args.n (λ v l. c.loop-v.invariant p h v (omega arith)))
