-- What findings do to the lent result and the counts, one after another, and what they come to. Assumes nothing.
use Rattle.std.proofs.Common.{◌≡◌, refl, sym, ap, ap₂, ◌∙◌, List, [], ◌∷◌, ◌++◌, append-nil, append_assoc, ℕ, ◌+◌, ◌*◌}
use Rattle.std.proofs.Common.{◌≤◌, ◌<◌, min, arith, length, take, length-append, le-leb}
use borrow.Author.Tests.{lt-leb}
use Rattle.numbers.specs.Numbers.{bytes_of, written}
use Rattle.rule.specs.Rule.{Reading, pack, pack_bindings}
use Rattle.rule.specs.Starts.{Found, lines_of, least_over}
use Rattle.rule.specs.Starts.Found.{closed, over}
use Rattle.rule.proofs.Packing.{length-pack-bindings}
use Rattle.rule.proofs.SkipBranch.{least-none}
use Rattle.slots.specs.Slots.{count_in, held_in}
use Rattle.slots.specs.Results.{line_numbers}
use Rattle.slots.proofs.Slots.{length-held_in}
use Rattle.slots.proofs.Results.{length-bytes_of, bytes_of-append, take-written-all, length-written}
use Rattle.starts.specs.declared.Counts.{Counts}
use Rattle.starts.specs.Sinks.{Sink, sink_of, stop, sum, put, emit, emits}

pub emits-append : (s : Sink) (l m : List Found) → emits s (l ++ m) ≡ emits (emits s l) m
unfolding emits
emits-append s [] m = refl
emits-append s (e ∷ l) m = emits-append (emit s e) l m

-- ## One finding

pub sink-same :
    {m m' : List ℕ} {u u' r r' l l' k k' : ℕ} → m ≡ m' → u ≡ u' → r ≡ r' → l ≡ l' → k ≡ k'
    → ◌≡◌ {A = Sink} (record { memory = m; used = u; readings = r; least = l; steps = k })
    (record { memory = m'; used = u'; readings = r'; least = l'; steps = k' })
sink-same p q s t w = λ i. record { memory = p i; used = q i; readings = s i; least = t i; steps = w i }

pub put-room :
    (memory : List ℕ) (at : ℕ) (bytes : List ℕ) → at + length bytes ≤ length memory
    → put memory at bytes ≡ written memory at bytes
unfolding put
put-room memory at bytes h = rw (le-leb (at + length bytes) (length memory) h, put)

pub put-none :
    (memory : List ℕ) (at : ℕ) (bytes : List ℕ) → length memory < at + length bytes → put memory at bytes ≡ memory
unfolding put
put-none memory at bytes h = rw (lt-leb (at + length bytes) (length memory) h, put)

pub length-line : (mark : ℕ) (r : Reading) → length (bytes_of (line_numbers mark r)) ≡ 2 * (length r + 1)
length-line mark r = length-bytes_of (line_numbers mark r) ∙ (let n = length-pack-bindings r in omega arith)

module _ (memory : List ℕ) (counts : Counts) (mark : ℕ) (slot : List ℕ) where
  counted :
      (after : List ℕ) (used readings : ℕ)
      → after ≡ put memory (2 * counts.used) (bytes_of (line_numbers mark (held_in slot).bindings))
      → used ≡ sum counts.used (count_in slot + 1)
      → readings ≡ sum counts.readings 1
      → ◌≡◌ {A = Sink}
      (record { memory = after; used = used; readings = readings; least = counts.least; steps = counts.steps })
      (emit (sink_of memory counts) (closed mark (held_in slot).bindings))
  unfolding emit
  counted after used readings p q s =
      sink-same p (q ∙ ap (λ (k : ℕ). sum counts.used (k + 1)) (sym (length-held_in slot))) s refl refl

  pub reported :
      (after : List ℕ) (used readings : ℕ) → 2 * counts.used + 2 + 2 * count_in slot ≤ length memory
      → after ≡ written memory (2 * counts.used) (bytes_of (line_numbers mark (held_in slot).bindings))
      → used ≡ sum counts.used (count_in slot + 1)
      → readings ≡ sum counts.readings 1
      → ◌≡◌ {A = Sink}
      (record { memory = after; used = used; readings = readings; least = counts.least; steps = counts.steps })
      (emit (sink_of memory counts) (closed mark (held_in slot).bindings))
  reported after used readings h p q s =
      let n = length-line mark (held_in slot).bindings in
      let m = length-held_in slot in
      counted after used readings (p ∙ sym (put-room memory (2 * counts.used) (bytes_of (line_numbers mark (held_in slot).bindings)) (omega arith))) q s

  pub unreported :
      (used readings : ℕ) → length memory < 2 * counts.used + 2 + 2 * count_in slot
      → used ≡ sum counts.used (count_in slot + 1)
      → readings ≡ sum counts.readings 1
      → ◌≡◌ {A = Sink}
      (record { memory = memory; used = used; readings = readings; least = counts.least; steps = counts.steps })
      (emit (sink_of memory counts) (closed mark (held_in slot).bindings))
  unreported used readings h q s =
      let n = length-line mark (held_in slot).bindings in
      let m = length-held_in slot in
      counted memory used readings (sym (put-none memory (2 * counts.used) (bytes_of (line_numbers mark (held_in slot).bindings)) (omega arith))) q s

-- ## All findings

pub least-all : (l : List Found) (s : Sink) → (emits s l).least ≡ least_over s.least l
unfolding emits emit least_over
least-all [] s = refl
least-all (closed mark r ∷ l) s = least-all l (emit s (closed mark r))
least-all (over j ∷ l) s =
    let n = least-none s.least j l in
    let m = least-none j s.least l in
    let e : min s.least j ≡ min j s.least = omega arith in
    least-all l (emit s (over j)) ∙ ap (λ (k : ℕ). least_over k l) e ∙ m

-- how many numbers a line packs to, before the others
lines_more :
    (mark : ℕ) (r : Reading) (l : List Found)
    → length (pack (lines_of (closed mark r ∷ l))) ≡ length r + 1 + length (pack (lines_of l))
unfolding lines_of
lines_more mark r l =
    let n = length-pack-bindings r in
    let a = length-append (pack_bindings r) (pack (lines_of l)) in
    omega arith

pub used_all :
    (l : List Found) (s : Sink) → s.used ≤ stop → (emits s l).used ≡ min (s.used + length (pack (lines_of l))) stop
unfolding emits emit lines_of sum
used_all [] s h = omega arith
used_all (closed mark r ∷ l) s h =
    let n = lines_more mark r l in
    used_all l (emit s (closed mark r)) (omega arith) ∙ omega arith
used_all (over j ∷ l) s h = used_all l (emit s (over j)) h

pub readings-all :
    (l : List Found) (s : Sink) → s.readings ≤ stop → (emits s l).readings ≡ min (s.readings + length (lines_of l)) stop
unfolding emits emit lines_of sum
readings-all [] s h = omega arith
readings-all (closed mark r ∷ l) s h = readings-all l (emit s (closed mark r)) (omega arith) ∙ omega arith
readings-all (over j ∷ l) s h = readings-all l (emit s (over j)) h

-- no more readings than numbers
pub readings-few : (l : List Found) → length (lines_of l) ≤ length (pack (lines_of l))
unfolding lines_of
readings-few [] = omega arith
readings-few (closed mark r ∷ l) = omega (arith, readings-few l, lines_more mark r l)
readings-few (over j ∷ l) = readings-few l

-- the numbers so far stand in front, and those found are written behind them
pub memory-all :
    (l : List Found) (s : Sink) (numbers : List ℕ) → s.used ≡ length numbers
    → take (2 * s.used) s.memory ≡ bytes_of numbers
    → 2 * (length numbers + length (pack (lines_of l))) ≤ length s.memory
    → length s.memory ≤ stop
    → take (2 * (length numbers + length (pack (lines_of l)))) (emits s l).memory
    ≡ bytes_of (numbers ++ pack (lines_of l))
unfolding emits emit lines_of sum
memory-all [] s numbers u t h m =
    let e : 2 * (length numbers + 0) ≡ 2 * s.used = omega arith in
    ap (λ (k : ℕ). take k s.memory) e ∙ t ∙ ap bytes_of (sym (append-nil numbers))
memory-all (over j ∷ l) s numbers u t h m = memory-all l (emit s (over j)) numbers u t h m
memory-all (closed mark r ∷ l) s numbers u t h m =
    let line : List ℕ = line_numbers mark r in
    let more : List ℕ = numbers ++ line in
    let n : length (bytes_of line) ≡ 2 * (length r + 1) = length-line mark r in
    let a : length more ≡ length numbers + length line = length-append numbers line in
    let b : length line ≡ length r + 1 = (let q = length-pack-bindings r in omega arith) in
    let d = lines_more mark r l in
    let fits : 2 * s.used + length (bytes_of line) ≤ length s.memory = omega arith in
    let here : 2 * s.used ≤ length s.memory = omega arith in
    let p : put s.memory (2 * s.used) (bytes_of line) ≡ written s.memory (2 * s.used) (bytes_of line) = put-room s.memory (2 * s.used) (bytes_of line) fits in
    let k : length (put s.memory (2 * s.used) (bytes_of line)) ≡ length s.memory = ap length p ∙ length-written s.memory (2 * s.used) (bytes_of line) here fits in
    let v : 2 * sum s.used (length r + 1) ≡ 2 * s.used + length (bytes_of line) = omega arith in
    let now : take (2 * sum s.used (length r + 1)) (put s.memory (2 * s.used) (bytes_of line)) ≡ bytes_of more =
    ap₂ (λ (x : ℕ) (y : List ℕ). take x y) v p
    ∙ take-written-all s.memory (2 * s.used) (bytes_of line) here
    ∙ ap (λ (x : List ℕ). x ++ bytes_of line) t
    ∙ sym (bytes_of-append numbers line) in
    let w : 2 * (length numbers + length (pack (lines_of (closed mark r ∷ l)))) ≡ 2 * (length more + length (pack (lines_of l))) = omega arith in
    ap (λ (x : ℕ). take x (emits (emit s (closed mark r)) l).memory) w
    ∙ memory-all l (emit s (closed mark r)) more (omega arith) now (omega arith) (omega arith)
    ∙ ap bytes_of (append_assoc numbers line (pack (lines_of l)))
