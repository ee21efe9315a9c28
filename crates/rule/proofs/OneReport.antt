-- The order of the report has no two readings both ways, so two reports of one pattern and block are one list.
-- Assumes nothing.
use mathlib.Core.Path.{◌≡◌, ap}
use mathlib.Core.List.{List, Memᴰ}
use Prim.Native.Nat.{ℕ}
use native.Mathlib.Omega.{arith}
use Rattle.patterns.specs.declared.Pattern.{Pattern}
use Rattle.rule.specs.Rule.{Block, Binding, Reading, Line, Rising, Report, Smaller, here, there, Before, sooner}
use Rattle.rule.specs.Rule.{smaller}
use Rattle.rule.specs.Growth.{IsReport}
use Rattle.automaton.proofs.Ordered.{ordered-unique}

smaller-asym : {l m : Reading} → Smaller l m → ¬ Smaller m l
smaller-asym (here h) (here g) = omega arith
smaller-asym (here h) (there e t) = let q = ap (λ (b : Binding). b.variable) e in omega arith
smaller-asym (there e s) (here g) = let q = ap (λ (b : Binding). b.variable) e in omega arith
smaller-asym (there e s) (there d t) = smaller-asym s t

pub before-asym : {r s : Reading} → Before r s → ¬ Before s r
before-asym (sooner h) (sooner g) = omega arith
before-asym (sooner h) (smaller e g) = omega arith
before-asym (smaller e h) (sooner g) = omega arith
before-asym (smaller e h) (smaller d g) = smaller-asym h g

-- two rising lists with the same lines are one
one_list :
    (l m : List Line) → Rising l → Rising m → ((x : Line) → Memᴰ x l → Memᴰ x m)
    → ((x : Line) → Memᴰ x m → Memᴰ x l)
    → l ≡ m
one_list l m h g = ordered-unique (λ x y. Before x.reading y.reading) (λ x y a b. before-asym a b) l m h g

pub one-report : (p : Pattern) (B : Block) (J : ℕ) (l m : List Line) → Report p B J l → Report p B J m → l ≡ m
one-report p B J l m h g =
    one_list l m h.rising g.rising (λ x k. g.complete x (h.sound x k)) (λ x k. h.complete x (g.sound x k))

pub one-is-report : (p : Pattern) (B : Block) (J : ℕ) (l m : List Line) → IsReport p B J l → IsReport p B J m → l ≡ m
one-is-report p B J l m h g =
    one_list l m h.rising g.rising (λ x k. g.complete x (h.sound x k)) (λ x k. h.complete x (g.sound x k))
