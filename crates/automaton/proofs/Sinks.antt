-- Steps put into lent memory one after the other: the count, the bytes, and a loop that puts what is left.
-- Assumes nothing.
use Rattle.std.proofs.Common.{◌≡◌, ◌∙◌, refl, sym, ap, ap₂, Bool, true, false, List, [], ◌∷◌, ◌++◌, map, append_assoc}
use Rattle.std.proofs.Common.{append-nil, ℕ, suc, ◌+◌, ◌-◌, ◌*◌, ◌^◌, ◌≤◌, ◌<◌, add-zero, zero-add, add-one, arith}
use Rattle.std.proofs.Common.{lt-ltb, length, length-append}
use lib.ListN.{length-replicate}
use Rattle.numbers.specs.Numbers.{upto}
use Rattle.numbers.proofs.Cases.{by-test}
use Rattle.numbers.proofs.Memory.{written_behind}
use Rattle.patterns.specs.declared.Pattern.{Pattern}
use Rattle.automaton.specs.Filtering.{keep, filter, collect}
use Rattle.automaton.specs.Automaton.{state_of, is_state, leaves, step_word, variables_of}
use Rattle.automaton.specs.Listing.{step_bytes, step_room, listing_bytes, all_zero}
use Rattle.numbers.specs.Bytes.{word_bytes}
use Rattle.automaton.specs.Steps.{steps_from, steps, step_on, steps_at, Sink, sink_of, put, puts}
use Rattle.numbers.proofs.Upto.{length-upto}

-- ## The steps, state by state and variable by variable

map-keep : (f : ℕ → ℕ) (t : Bool) (v : ℕ) (l : List ℕ) → map f (keep t v l) ≡ keep t (f v) [] ++ map f l
unfolding keep
map-keep f true v l = refl
map-keep f false v l = refl

on-each :
    (p : Pattern) (s : ℕ) (l : List ℕ) → map (step_word p s) (filter (leaves p (state_of s)) l) ≡ collect (step_on p s) l
unfolding filter collect step_on
on-each p s [] = refl
on-each p s (v ∷ l) = map-keep (step_word p s) (leaves p (state_of s) v) v (filter (leaves p (state_of s)) l) ∙ ap (λ (m : List ℕ). step_on p s v ++ m) (on-each p s l)

pub from-variables : (p : Pattern) (s : ℕ) → steps_from p s ≡ collect (step_on p s) (upto 0 p.n)
unfolding steps_from
from-variables p s = on-each p s (variables_of p)

collect-keep :
    (f : ℕ → List ℕ) (t : Bool) (s : ℕ) (l : List ℕ)
    → collect f (keep t s l) ≡ elim t [ true ↦ f s | false ↦ [] ] ++ collect f l
unfolding keep collect
collect-keep f true s l = refl
collect-keep f false s l = refl

at_each : (p : Pattern) (l : List ℕ) → collect (steps_from p) (filter (is_state p) l) ≡ collect (steps_at p) l
unfolding filter collect steps_at
at_each p [] = refl
at_each p (s ∷ l) = collect-keep (steps_from p) (is_state p s) s (filter (is_state p) l) ∙ ap (λ (m : List ℕ). steps_at p s ++ m) (at_each p l)

pub from-states : (p : Pattern) → steps p ≡ collect (steps_at p) (upto 0 (2 ^ p.n))
unfolding steps
from-states p = at_each p (upto 0 (2 ^ p.n))

-- a variable gives one step at most, a state one for each variable at most
keep-few : (t : Bool) (w : ℕ) → length (keep t w []) ≤ 1
unfolding keep
keep-few true w = omega arith
keep-few false w = omega arith

pub on-few : (p : Pattern) (s v : ℕ) → length (step_on p s v) ≤ 1
unfolding step_on
on-few p s v = keep-few (leaves p (state_of s) v) (step_word p s v)

ons-few : (p : Pattern) (s : ℕ) (l : List ℕ) → length (collect (step_on p s) l) ≤ length l
unfolding collect
ons-few p s [] = omega arith
ons-few p s (v ∷ l) = omega (arith, length-append (step_on p s v) (collect (step_on p s) l), on-few p s v, ons-few p s l)

from-few : (p : Pattern) (s : ℕ) → length (steps_from p s) ≤ p.n
from-few p s = omega (arith, ap length (from-variables p s), ons-few p s (upto 0 p.n), length-upto 0 p.n)

pub at-few : (p : Pattern) (s : ℕ) → length (steps_at p s) ≤ p.n
unfolding steps_at
at-few p s = by-test (is_state p s) (λ e. rw (e, steps_at) (from-few p s)) (λ e. rw (e, steps_at) (omega arith))

-- ## Sinks

pub puts-append : (sink : Sink) (l m : List ℕ) → puts sink (l ++ m) ≡ puts (puts sink l) m
unfolding puts
puts-append sink [] m = refl
puts-append sink (w ∷ l) m = puts-append (put sink w) l m

puts_none : (sink : Sink) → puts sink [] ≡ sink
unfolding puts
puts_none sink = refl

puts-count : (sink : Sink) (l : List ℕ) → (puts sink l).count ≡ sink.count + length l
unfolding puts put
puts-count sink [] = sym (add-zero sink.count)
puts-count sink (w ∷ l) = omega (arith, puts-count (put sink w) l)

-- how many steps a call has counted
pub count-after :
    (memory before : List ℕ) (count total : ℕ) (l : List ℕ) → sink_of memory total ≡ puts (sink_of before count) l
    → total ≡ count + length l
count-after memory before count total l e = ap (λ (sink : Sink). sink.count) e ∙ puts-count (sink_of before count) l

-- a loop that puts what each number from k on gives: one turn, and its end
module _ (f : ℕ → List ℕ) (done : Sink) where
  one_more : (k n : ℕ) → collect f (upto k (suc n)) ≡ f k ++ collect f (upto (suc k) n)
  unfolding upto collect
  one_more k n = refl

  no_more : (k : ℕ) → collect f (upto k 0) ≡ []
  unfolding upto collect
  no_more k = refl

  pub puts-turn :
      (end k : ℕ) (sink next : Sink) → k < end → next ≡ puts sink (f k)
      → puts sink (collect f (upto k (end - k))) ≡ done
      → puts next (collect f (upto (k + 1) (end - (k + 1)))) ≡ done
  puts-turn end k sink next h e d =
      let left : end - k ≡ suc (end - (k + 1)) = omega arith in
      ap₂ (λ (from : Sink) (j : ℕ). puts from (collect f (upto j (end - (k + 1))))) e (add-one k)
      ∙ sym (puts-append sink (f k) (collect f (upto (suc k) (end - (k + 1)))))
      ∙ ap (puts sink) (sym (one_more k (end - (k + 1))) ∙ ap (λ (n : ℕ). collect f (upto k n)) (sym left))
      ∙ d

  pub puts-end : (end k : ℕ) (sink : Sink) → end ≤ k → puts sink (collect f (upto k (end - k))) ≡ done → sink ≡ done
  puts-end end k sink h d =
      let left : end - k ≡ 0 = omega arith in
      sym (puts_none sink) ∙ ap (puts sink) (sym (no_more k) ∙ ap (λ (n : ℕ). collect f (upto k n)) (sym left)) ∙ d

-- ## The bytes of steps for which there is room

word_size : (word : ℕ) → length (word_bytes word) ≡ step_bytes
unfolding word_bytes
word_size word = refl

-- a step written behind the steps before it, where zeros stood
put-room :
    (before : List ℕ) (k m word : ℕ) → length before ≡ step_bytes * k → step_bytes ≤ m
    → put (sink_of (before ++ all_zero m) k) word ≡ sink_of (before ++ word_bytes word ++ all_zero (m - step_bytes)) (k + 1)
unfolding put
put-room before k m word b h =
    let size : length (before ++ all_zero m) ≡ step_bytes * k + m = length-append before (all_zero m) ∙ ap₂ ◌+◌ b (length-replicate m 0) in
    let room : k < step_room (length (before ++ all_zero m)) = omega arith in
    rw (lt-ltb _ _ room, put)
    (ap (λ (l : List ℕ). sink_of l (k + 1))
    (written_behind before (word_bytes word) (step_bytes * k) m 0 b ∙ ap (λ (n : ℕ). before ++ word_bytes word ++ all_zero (m - n)) (word_size word)))

puts-room :
    (l before : List ℕ) (k m : ℕ) → length before ≡ step_bytes * k → step_bytes * length l ≤ m
    → puts (sink_of (before ++ all_zero m) k) l
    ≡ sink_of (before ++ listing_bytes l ++ all_zero (m - step_bytes * length l)) (k + length l)
unfolding puts collect
puts-room [] before k m b h =
    let left : m ≡ m - 0 = omega arith in
    let all : k ≡ k + 0 = omega arith in
    ap₂ sink_of (ap₂ (λ (front : List ℕ) (n : ℕ). front ++ all_zero n) (sym (append-nil before)) left) all
puts-room (w ∷ l) before k m b h =
    let size : length (before ++ word_bytes w) ≡ step_bytes * (k + 1) = length-append before (word_bytes w) ∙ omega (arith, word_size w) in
    let left : m - step_bytes - step_bytes * length l ≡ m - step_bytes * suc (length l) = omega arith in
    let all : k + 1 + length l ≡ k + suc (length l) = omega arith in
    ap (λ (sink : Sink). puts sink l) (put-room before k m w b (omega arith))
    ∙ puts-room l (before ++ word_bytes w) (k + 1) (m - step_bytes) size (omega arith)
    ∙ ap₂ sink_of (ap₂ (λ (front : List ℕ) (n : ℕ). front ++ all_zero n) (append_assoc before (word_bytes w) (listing_bytes l)) left) all

-- the whole listing in a slice of zeros that has room for it
pub puts-listing :
    (l : List ℕ) (lent : ℕ) → length l ≤ step_room lent
    → puts (sink_of (all_zero lent) 0) l ≡ sink_of (listing_bytes l ++ all_zero (lent - step_bytes * length l)) (length l)
puts-listing l lent h = puts-room l [] 0 lent (omega arith) (omega arith) ∙ ap (λ (n : ℕ). sink_of (listing_bytes l ++ all_zero (lent - step_bytes * length l)) n) (zero-add (length l))
