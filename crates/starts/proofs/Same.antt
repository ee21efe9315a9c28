-- Sinks that give the same answer: whatever is found next leaves them so, the answer is the same, and what cannot
-- change it may be left out. Assumes nothing.
use Rattle.std.proofs.Common.{◌≡◌, refl, sym, ap, ◌∙◌, Bool, true, false, true≢false, List, [], ◌∷◌, ℕ, ◌+◌, ◌*◌, ◌/◌}
use Rattle.std.proofs.Common.{◌≤◌, ◌<◌, min, arith, length, replicate, lt-ltb, le-ltb}
use mathlib.Core.List.{Memᴰ}
use Rattle.numbers.specs.Numbers.{bytes_of}
use Rattle.numbers.proofs.Cases.{by_order}
use Rattle.records.specs.Blocks.{refused, most_records}
use Rattle.rule.specs.Rule.{Reading}
use Rattle.rule.specs.Promises.{most_counted}
use Rattle.rule.specs.Starts.{Found, least_over}
use Rattle.rule.specs.Starts.Found.{closed, over}
use Rattle.slots.specs.Results.{line_numbers}
use Rattle.slots.proofs.Results.{length-written}
use Rattle.starts.specs.declared.Counts.{Counts}
use Rattle.starts.specs.Sinks.{Sink, sink_of, sum, put, emit, emits, Told, Same, answer_by, left_by, measure_by}
use Rattle.starts.specs.Sinks.Same.{equal, known, told}
use Rattle.starts.proofs.Sinks.{put-room, put-none, least-all}

-- what a finding of a binding too many tells
unfoldable is_over : Found → Bool
is_over (closed mark r) = false
is_over (over j) = true

unfoldable over_at : Found → ℕ
over_at (closed mark r) = 0
over_at (over j) = j

-- ## What findings leave as it is

length-put : (memory : List ℕ) (at : ℕ) (bytes : List ℕ) → length (put memory at bytes) ≡ length memory
length-put memory at bytes =
    by_order (length memory) (at + length bytes)
    (λ l. ap length (put-none memory at bytes l))
    (λ l. ap length (put-room memory at bytes l) ∙ length-written memory at bytes (omega arith) l)

length-emit : (s : Sink) (x : Found) → length (emit s x).memory ≡ length s.memory
unfolding emit
length-emit s (closed mark r) = length-put s.memory (2 * s.used) (bytes_of (line_numbers mark r))
length-emit s (over j) = refl

pub length-emits : (s : Sink) (l : List Found) → length (emits s l).memory ≡ length s.memory
unfolding emits
length-emits s [] = refl
length-emits s (x ∷ l) = length-emits (emit s x) l ∙ length-emit s x

steps-emit : (s : Sink) (x : Found) → (emit s x).steps ≡ s.steps
unfolding emit
steps-emit s (closed mark r) = refl
steps-emit s (over j) = refl

pub steps-emits : (s : Sink) (l : List Found) → (emits s l).steps ≡ s.steps
unfolding emits
steps-emits s [] = refl
steps-emits s (x ∷ l) = steps-emits (emit s x) l ∙ steps-emit s x

-- the least record never rises
least-le : (k : ℕ) (l : List Found) → least_over k l ≤ k
unfolding least_over
least-le k [] = omega arith
least-le k (closed mark r ∷ l) = least-le k l
least-le k (over j ∷ l) = let h = least-le k l in omega arith

told-emit : (most : ℕ) (s : Sink) (x : Found) → Told most s → Told most (emit s x)
unfolding emit sum
told-emit most s (closed mark r) t =
    let n = length-put s.memory (2 * s.used) (bytes_of (line_numbers mark r)) in
    let half : length (put s.memory (2 * s.used) (bytes_of (line_numbers mark r))) / 2 ≡ length s.memory / 2 = ap (λ (k : ℕ). k / 2) n in
    let a = t.room in
    let b = t.used in
    let c = t.readings in
    let d = t.used_fits in
    let e = t.readings_fit in
    record {
      room = omega arith;
      used = omega arith;
      readings = omega arith;
      used_fits = omega arith;
      readings_fit = omega arith;
    }
told-emit most s (over j) t =
    record {
      room = t.room;
      used = t.used;
      readings = t.readings;
      used_fits = t.used_fits;
      readings_fit = t.readings_fit;
    }

told-emits : (most : ℕ) (s : Sink) (l : List Found) → Told most s → Told most (emits s l)
unfolding emits
told-emits most s [] t = t
told-emits most s (x ∷ l) t = told-emits most (emit s x) l (told-emit most s x t)

-- ## The laws

module _ (most : ℕ) where
  pub same_refl : (s : Sink) → Same most s s
  same_refl s = equal refl refl refl refl

  told_same :
      (s t : Sink) → s.memory ≡ t.memory → s.used ≡ t.used → s.readings ≡ t.readings → Told most s
      → Told most t
  told_same s t m u r h =
      let n = ap (λ (x : List ℕ). length x / 2) m in
      let a = h.room in
      let b = h.used in
      let c = h.readings in
      let d = h.used_fits in
      let e = h.readings_fit in
      record {
        room = omega arith;
        used = omega arith;
        readings = omega arith;
        used_fits = omega arith;
        readings_fit = omega arith;
      }

  pub same-trans : (s t u : Sink) → Same most s t → Same most t u → Same most s u
  same-trans s t u (equal a b c d) (equal a' b' c' d') = equal (a ∙ a') (b ∙ b') (c ∙ c') (d ∙ d')
  same-trans s t u (equal a b c d) (known n l h) = known (ap length a ∙ n) (d ∙ l) (omega arith)
  same-trans s t u (equal a b c d) (told n l p q) =
      told (ap length a ∙ n) (d ∙ l) (told_same t s (sym a) (sym b) (sym c) p) q
  same-trans s t u (known n l h) (equal a b c d) = known (n ∙ ap length a) (l ∙ d) h
  same-trans s t u (known n l h) (known n' l' h') = known (n ∙ n') (l ∙ l') h
  same-trans s t u (known n l h) (told n' l' p q) = known (n ∙ n') (l ∙ l') h
  same-trans s t u (told n l p q) (equal a b c d) = told (n ∙ ap length a) (l ∙ d) p (told_same t u a b c q)
  same-trans s t u (told n l p q) (known n' l' h') = known (n ∙ n') (l ∙ l') (omega arith)
  same-trans s t u (told n l p q) (told n' l' p' q') = told (n ∙ n') (l ∙ l') p q'

  same-emit : (s t : Sink) (x : Found) → Same most s t → Same most (emit s x) (emit t x)
  unfolding emit
  same-emit s t (closed mark r) (equal a b c d) =
      equal
      (λ i. put (a i) (2 * b i) (bytes_of (line_numbers mark r)))
      (λ i. sum (b i) (length r + 1))
      (λ i. sum (c i) 1)
      d
  same-emit s t (over j) (equal a b c d) = equal a b c (λ i. min (d i) j)
  same-emit s t (closed mark r) (known n l h) =
      known
      (length-put s.memory (2 * s.used) (bytes_of (line_numbers mark r)) ∙ n ∙ sym (length-put t.memory (2 * t.used) (bytes_of (line_numbers mark r))))
      l
      h
  same-emit s t (over j) (known n l h) = known n (λ i. min (l i) j) (omega arith)
  same-emit s t (closed mark r) (told n l p q) =
      told
      (length-put s.memory (2 * s.used) (bytes_of (line_numbers mark r)) ∙ n ∙ sym (length-put t.memory (2 * t.used) (bytes_of (line_numbers mark r))))
      l
      (told-emit most s (closed mark r) p)
      (told-emit most t (closed mark r) q)
  same-emit s t (over j) (told n l p q) =
      told n (λ i. min (l i) j) (told-emit most s (over j) p) (told-emit most t (over j) q)

  -- whatever both come upon next
  pub same-emits : (s t : Sink) (l : List Found) → Same most s t → Same most (emits s l) (emits t l)
  unfolding emits
  same-emits s t [] h = h
  same-emits s t (x ∷ l) h = same-emits (emit s x) (emit t x) l (same-emit s t x h)

  -- ## What may be left out

  -- no binding too many below the least record so far
  pub record NoneBelow (k : ℕ) (l : List Found) : Type 0 where
    pub none : (x : ℕ) → Memᴰ (over x) l → k ≤ x

  -- why no report counts: a binding too many is known, the counts are told, or nothing is reported
  pub data Idle (s : Sink) (l : List Found) : Type 0 where
    decided : s.least < most_records → Idle s l
    counted : Told most s → Idle s l
    silent : ((mark : ℕ) (q : Reading) → Memᴰ (closed mark q) l → ⊥) → Idle s l

  least_kept : (k : ℕ) (l : List Found) → ((x : ℕ) → Memᴰ (over x) l → k ≤ x) → least_over k l ≡ k
  unfolding least_over
  least_kept k [] h = refl
  least_kept k (closed mark r ∷ l) h = least_kept k l (λ x m. h x (Memᴰ.tail m))
  least_kept k (over j ∷ l) h =
      let a = least_kept k l (λ x m. h x (Memᴰ.tail m)) in
      let b = h j (Memᴰ.head refl) in
      omega arith

  silent-keeps :
      (s : Sink) (l : List Found) → ((x : ℕ) → Memᴰ (over x) l → s.least ≤ x)
      → ((mark : ℕ) (q : Reading) → Memᴰ (closed mark q) l → ⊥)
      → Same most s (emits s l)
  unfolding emits emit
  silent-keeps s [] h g = same_refl s
  silent-keeps s (closed mark r ∷ l) h g = absurd (g mark r (Memᴰ.head refl))
  silent-keeps s (over j ∷ l) h g =
      let b = h j (Memᴰ.head refl) in
      let e : min s.least j ≡ s.least = omega arith in
      same-trans s (emit s (over j)) (emits (emit s (over j)) l) (equal refl refl refl (sym e))
      (silent-keeps (emit s (over j)) l (λ x m. let a = h x (Memᴰ.tail m) in omega arith) (λ mark q m. g mark q (Memᴰ.tail m)))

  -- a cut: the answer is the same without these findings
  pub cut : (s : Sink) (l : List Found) → NoneBelow s.least l → Idle s l → Same most s (emits s l)
  cut s l h (decided d) =
      known (sym (length-emits s l)) (sym (least-all l s ∙ least_kept s.least l h.none)) d
  cut s l h (counted t) =
      told (sym (length-emits s l)) (sym (least-all l s ∙ least_kept s.least l h.none)) t (told-emits most s l t)
  cut s l h (silent g) = silent-keeps s l h.none g

-- ## A binding too many that is known to be the least

least-mem : (none : ℕ) (l : List Found) (k : ℕ) → Memᴰ (over k) l → least_over none l ≤ k
unfolding least_over is_over over_at
least-mem none [] k x' = elim x' [ ]
least-mem none (closed mark r ∷ l) k (Memᴰ.tail m) = least-mem none l k m
least-mem none (over j ∷ l) k (Memᴰ.tail m) = let h = least-mem none l k m in omega arith
least-mem none (over j ∷ l) k (Memᴰ.head e) = let h : k ≡ j = ap over_at e in omega arith
least-mem none (closed mark r ∷ l) k (Memᴰ.head e) = absurd (true≢false (ap is_over e))

least-from : (none k : ℕ) (l : List Found) → k ≤ none → ((x : ℕ) → Memᴰ (over x) l → k ≤ x) → k ≤ least_over none l
unfolding least_over
least-from none k [] h g = h
least-from none k (closed mark r ∷ l) h g = least-from none k l h (λ x m. g x (Memᴰ.tail m))
least-from none k (over j ∷ l) h g =
    let a = least-from none k l h (λ x m. g x (Memᴰ.tail m)) in
    let b = g j (Memᴰ.head refl) in
    omega arith

-- it is all that the answer depends on
pub least-decides :
    (most : ℕ) (memory : List ℕ) (s : Sink) (l : List Found) (k : ℕ) → length memory ≡ length s.memory
    → k < most_records
    → k ≤ s.least
    → Memᴰ (over k) l
    → ((x : ℕ) → Memᴰ (over x) l → k ≤ x)
    → (o : Counts) → o.least ≡ k
    → Same most (sink_of memory o) (emits s l)
least-decides most memory s l k n small below m none o e =
    let a = least-mem s.least l k m in
    let b = least-from s.least k l below none in
    let d = least-all l s in
    known (n ∙ sym (length-emits s l)) (omega arith) (omega arith)

-- ## The same answer

abbrev pub counts_of : Sink → Counts
counts_of s = record { used = s.used; readings = s.readings; least = s.least; steps = s.steps }

module _ (counts : Counts) where
  abbrev other : ℕ → Counts
  other k = record { used = counts.used; readings = counts.readings; least = counts.least; steps = k }

  answer-steps : (k room : ℕ) → answer_by counts room ≡ answer_by (other k) room
  unfolding answer_by
  answer-steps k room = refl

  left-steps : (k : ℕ) (memory : List ℕ) → left_by counts memory ≡ left_by (other k) memory
  unfolding left_by
  left-steps k memory = refl

  measure-steps : (k : ℕ) → measure_by counts ≡ measure_by (other k)
  unfolding measure_by
  measure-steps k = refl

-- a binding too many decides
answer-nine :
    (counts : Counts) (room : ℕ) → counts.least < most_records → answer_by counts room ≡ refused 9 counts.least
unfolding answer_by
answer-nine counts room h = rw (lt-ltb counts.least most_records h, answer_by)

left-nine :
    (counts : Counts) (memory : List ℕ) → counts.least < most_records
    → left_by counts memory ≡ replicate (length memory) 0
unfolding left_by
left-nine counts memory h = rw (lt-ltb counts.least most_records h, left_by)

measure-nine : (counts : Counts) → counts.least < most_records → measure_by counts ≡ refused 9 counts.least
unfolding measure_by
measure-nine counts h = rw (lt-ltb counts.least most_records h, measure_by)

-- else there is no room
answer-eleven :
    (counts : Counts) (room : ℕ) → most_records ≤ counts.least → room < counts.used
    → answer_by counts room ≡ refused 11 0
unfolding answer_by
answer-eleven counts room h g = rw (le-ltb counts.least most_records h, lt-ltb room counts.used g, answer_by)

left-eleven :
    (counts : Counts) (memory : List ℕ) → most_records ≤ counts.least → length memory / 2 < counts.used
    → left_by counts memory ≡ replicate (length memory) 0
unfolding left_by
left-eleven counts memory h g = rw (le-ltb counts.least most_records h, lt-ltb (length memory / 2) counts.used g, left_by)

-- else both counts have come to where they stop
measure-told :
    (counts : Counts) → most_records ≤ counts.least → most_counted ≤ counts.used → most_counted ≤ counts.readings
    → measure_by counts ≡ record { code = 0; place = 0; used = most_counted; readings = most_counted; peak = 0 }
unfolding measure_by
measure-told counts h u r =
    let a : min counts.used most_counted ≡ most_counted = omega arith in
    let b : min counts.readings most_counted ≡ most_counted = omega arith in
    rw (le-ltb counts.least most_records h, measure_by) (λ i. record { code = 0; place = 0; used = a i; readings = b i; peak = 0 })

module _ (s t : Sink) where
  pub same_answer_lem :
      Same 0 s t → answer_by (counts_of s) (length s.memory / 2) ≡ answer_by (counts_of t) (length t.memory / 2)
  same_answer_lem (equal a b c d) =
      answer-steps (counts_of s) 0 (length s.memory / 2)
      ∙ (λ i. answer_by (record { used = b i; readings = c i; least = d i; steps = 0 }) (length (a i) / 2))
      ∙ sym (answer-steps (counts_of t) 0 (length t.memory / 2))
  same_answer_lem (known n l h) =
      answer-nine (counts_of s) (length s.memory / 2) h
      ∙ ap (refused 9) l
      ∙ sym (answer-nine (counts_of t) (length t.memory / 2) (omega arith))
  same_answer_lem (told n l p q) =
      by_order s.least most_records
      (λ h.
      answer-nine (counts_of s) (length s.memory / 2) h
      ∙ ap (refused 9) l
      ∙ sym (answer-nine (counts_of t) (length t.memory / 2) (omega arith)))
      (λ h.
      answer-eleven (counts_of s) (length s.memory / 2) h p.room
      ∙ sym (answer-eleven (counts_of t) (length t.memory / 2) (omega arith) q.room))

  pub same_left : Same 0 s t → left_by (counts_of s) s.memory ≡ left_by (counts_of t) t.memory
  same_left (equal a b c d) =
      left-steps (counts_of s) 0 s.memory
      ∙ (λ i. left_by (record { used = b i; readings = c i; least = d i; steps = 0 }) (a i))
      ∙ sym (left-steps (counts_of t) 0 t.memory)
  same_left (known n l h) =
      left-nine (counts_of s) s.memory h
      ∙ ap (λ (k : ℕ). replicate k 0) n
      ∙ sym (left-nine (counts_of t) t.memory (omega arith))
  same_left (told n l p q) =
      by_order s.least most_records
      (λ h.
      left-nine (counts_of s) s.memory h
      ∙ ap (λ (k : ℕ). replicate k 0) n
      ∙ sym (left-nine (counts_of t) t.memory (omega arith)))
      (λ h.
      left-eleven (counts_of s) s.memory h p.room
      ∙ ap (λ (k : ℕ). replicate k 0) n
      ∙ sym (left-eleven (counts_of t) t.memory (omega arith) q.room))

  pub same-measure : Same most_counted s t → measure_by (counts_of s) ≡ measure_by (counts_of t)
  same-measure (equal a b c d) =
      measure-steps (counts_of s) 0
      ∙ (λ i. measure_by (record { used = b i; readings = c i; least = d i; steps = 0 }))
      ∙ sym (measure-steps (counts_of t) 0)
  same-measure (known n l h) =
      measure-nine (counts_of s) h ∙ ap (refused 9) l ∙ sym (measure-nine (counts_of t) (omega arith))
  same-measure (told n l p q) =
      by_order s.least most_records
      (λ h. measure-nine (counts_of s) h ∙ ap (refused 9) l ∙ sym (measure-nine (counts_of t) (omega arith)))
      (λ h.
      measure-told (counts_of s) h p.used p.readings
      ∙ sym (measure-told (counts_of t) (omega arith) q.used q.readings))
