-- Which variable the check refuses in the pattern of a text that fits: the first in a ninth set, or that is the seventh
-- of its set. Assumes nothing.
use mathlib.Core.Path.{◌≡◌, ◌∙◌, refl, sym, ap, ap₂}
use mathlib.Core.Bool.{Bool, true, false, not, ◌||◌, or-false}
use mathlib.Core.List.{List, [], ◌∷◌, ◌++◌, map, flat_map, Memᴰ}
use Prim.Native.Nat.{ℕ, zero, suc, ◌+◌, ◌*◌, ◌^◌, ◌≤◌, ◌<◌}
use native.Mathlib.Nat.{le_of_suc-le-suc}
use native.Mathlib.Numerals.{unary_clauses}
use native.Mathlib.Omega.{arith}
use borrow.Author.Tests.{le-ltb, eq-eqb, ne_eqb}
use lib.Dec.{eqb, ltb}
use lib.ListN.{length, get_or, length-map, get_or-append, get_or-map}
use lib.Seq.{get_or-append-add}
use Rattle.numbers.specs.Numbers.{field, first, count, one_if}
use Rattle.numbers.specs.Bytes.{word_bytes}
use Rattle.numbers.proofs.Cases.{by_order}
use Rattle.numbers.proofs.Count.{count-ext, one_if-bound}
use Rattle.numbers.proofs.First.{first-at, first-none, first-bound, first-fails, first_passes}
use Rattle.patterns.specs.declared.Checked.{Checked}
use Rattle.patterns.specs.Patterns.{most_sets, most_in_set, variable_count, set_number, variable_zero, least_set}
use Rattle.patterns.specs.Patterns.{greatest_set, variable_broken}
use Rattle.patterns.specs.Checked.{pattern_answer, first_bad_variable}
use Rattle.patterns.proofs.Answers.{answer-variable, answer-pattern}
use Rattle.form.specs.Form.{Member, When, Making, names, InOrder}
use Rattle.form.specs.Packed.{member_byte, member_bytes, header_bits, when_bits, pattern_bytes, Fits}
use Rattle.numbers.proofs.WordBytes.{word-length}
use Rattle.numbers.proofs.Parts.{part}
use Rattle.form.proofs.Sizes.{member-length}
use Rattle.form.proofs.Judged.{variables-of, header-kept, whole-kept, conditions-kept, long_kept}

-- ## The set of each variable

-- a name with the number of its set
pub record Seat : Type 0 where
  pub set : ℕ
  pub member : Member

abbrev pub seat : ℕ → Member → Seat
seat k m = record { set = k; member = m }

-- the names in their order, the sets being numbered from k on
unfoldable pub seats : ℕ → List (List Member) → List Seat
seats k [] = []
seats k (s ∷ sets) = map (seat k) s ++ seats (suc k) sets

-- where there is none
abbrev pub nobody : Seat
nobody = seat 0 (record { name = 0; group = false })

-- the set of variable v
abbrev pub set_in : List Seat → ℕ → ℕ
set_in l v = (get_or l v nobody).set

-- variable v is in a set past the last that a pattern may have, or behind so many of its set as it may have
unfoldable pub crowded : Making → ℕ → Bool
crowded m v =
    ltb most_sets (set_in (seats 1 m.sets) v)
    || ltb most_in_set (count (λ u. eqb (set_in (seats 1 m.sets) u) (set_in (seats 1 m.sets) v)) (suc v))

abbrev byte_of : Seat → ℕ
byte_of s = member_byte s.set s.member

map-seats :
    (k : ℕ) (s : List Member) (l : List Seat)
    → map byte_of (map (seat k) s ++ l) ≡ map (member_byte k) s ++ map byte_of l
map-seats k [] l = refl
map-seats k (m ∷ s) l = ap (λ (r : List ℕ). member_byte k m ∷ r) (map-seats k s l)

seat-bytes : (k : ℕ) (sets : List (List Member)) → member_bytes k sets ≡ map byte_of (seats k sets)
unfolding member_bytes seats
seat-bytes k [] = refl
seat-bytes k (s ∷ sets) =
    ap (λ (r : List ℕ). map (member_byte k) s ++ r) (seat-bytes (suc k) sets) ∙ sym (map-seats k s (seats (suc k) sets))

pub seats-length : (k : ℕ) (sets : List (List Member)) → length (seats k sets) ≡ length (names sets)
seats-length k sets =
    sym (length-map (seats k sets) byte_of) ∙ ap length (sym (seat-bytes k sets)) ∙ member-length k sets

byte-nobody : byte_of nobody ≡ 0
unfolding member_byte
byte-nobody = refl

byte_at :
    (k : ℕ) (sets : List (List Member)) (v : ℕ)
    → get_or (member_bytes k sets) v 0 ≡ byte_of (get_or (seats k sets) v nobody)
byte_at k sets v =
    ap (λ (l : List ℕ). get_or l v 0) (seat-bytes k sets)
    ∙ ap (λ (d : ℕ). get_or (map byte_of (seats k sets)) v d) (sym byte-nobody)
    ∙ get_or-map byte_of (seats k sets) v nobody

-- ## Sets climb from 1, one at a time

record Climbs (k : ℕ) (l : List Seat) : Type 0 where
  begins : 0 < length l → set_in l 0 ≡ k
  most : (v : ℕ) → v < length l → set_in l v ≤ k + v
  least : (v : ℕ) → suc v < length l → set_in l v ≤ set_in l (suc v)
  next : (v : ℕ) → suc v < length l → set_in l (suc v) ≤ set_in l v + 1

-- one more in front, in the same set as the next or in the one before
in-front : (k j : ℕ) (m : Member) (l : List Seat) → k ≤ j → j ≤ suc k → Climbs j l → Climbs k (seat k m ∷ l)
in-front k j m l low high c =
    record { begins = λ h. refl; most = λ v. most-of v; least = λ v. least-of v; next = λ v. next_of v }
  where
    most-of : (v : ℕ) → v < suc (length l) → set_in (seat k m ∷ l) v ≤ k + v
    most-of zero h = omega arith
    most-of (suc v) h = omega (arith, c.most v (le_of_suc-le-suc h))

    least-of : (v : ℕ) → suc v < suc (length l) → set_in (seat k m ∷ l) v ≤ set_in l v
    least-of zero h = omega (arith, c.begins (le_of_suc-le-suc h))
    least-of (suc v) h = c.least v (le_of_suc-le-suc h)

    next_of : (v : ℕ) → suc v < suc (length l) → set_in l v ≤ set_in (seat k m ∷ l) v + 1
    next_of zero h = omega (arith, c.begins (le_of_suc-le-suc h))
    next_of (suc v) h = c.next v (le_of_suc-le-suc h)

one_set :
    (k : ℕ) (m : Member) (s : List Member) (l : List Seat) → Climbs (suc k) l
    → Climbs k (map (seat k) (m ∷ s) ++ l)
one_set k m [] l c = in-front k (suc k) m l (omega arith) (omega arith) c
one_set k m (n ∷ s) l c = in-front k k m (map (seat k) (n ∷ s) ++ l) (omega arith) (omega arith) (one_set k n s l c)

climbs :
    (k : ℕ) (sets : List (List Member)) → ((s : List Member) → Memᴰ s sets → ¬ (s ≡ []))
    → Climbs k (seats k sets)
unfolding seats
climbs k [] none =
    record {
      begins = λ h. absurd (omega arith);
      most = λ v h. absurd (omega arith);
      least = λ v h. absurd (omega arith);
      next = λ v h. absurd (omega arith);
    }
climbs k ([] ∷ sets) none = absurd (none [] (Memᴰ.head refl) refl)
climbs k ((m ∷ s) ∷ sets) none = one_set k m s (seats (suc k) sets) (climbs (suc k) sets (λ t h. none t (Memᴰ.tail h)))

-- ## What the check sees of them

byte-fields :
    (set : ℕ) (m : Member) → set < 2 ^ 4
    → (field 4 4 (member_byte set m) ≡ set) × (field 3 0 (member_byte set m) ≡ 0)
unfolding member_byte
byte-fields set m h =
    let flag = one_if-bound m.group in
    let byte = set * 2 ^ 4 + one_if m.group * 2 ^ 3 in (
      part byte (2 ^ 4) (2 ^ 4) 0 set (one_if m.group * 2 ^ 3) (omega arith) h (omega arith),
      part byte (2 ^ 3) 1 (set * 2 + one_if m.group) 0 0 (omega arith) (omega arith) (omega arith),
    )

-- tests that agree find the same first
first-same : (f g : ℕ → Bool) (n : ℕ) → ((i : ℕ) → i < n → f i ≡ g i) → first f n ≡ first g n
first-same f g n e =
    by_order (first g n) n
    (λ l. first-at f n (first g n) l (λ j h. e j (omega arith) ∙ first-fails g n j h) (e (first g n) l ∙ first_passes g n l))
    (λ l.
    let b = first-bound g n in
    let same : first g n ≡ n = omega arith in
    first-none f n (λ j h. e j h ∙ first-fails g n j (omega arith)) ∙ sym same)

module _ (m : Making) (o : InOrder m) (fits : Fits m) where
  abbrev bytes : List ℕ
  bytes = pattern_bytes m

  abbrev variables : ℕ
  variables = length (names m.sets)

  abbrev row : List Seat
  row = seats 1 m.sets

  row-climbs : Climbs 1 row
  row-climbs = climbs 1 m.sets o.none_empty

  row-length : length row ≡ variables
  row-length = seats-length 1 m.sets

  variable-byte : (v : ℕ) → v < variables → get_or bytes (8 + v) 0 ≡ byte_of (get_or row v nobody)
  unfolding pattern_bytes
  variable-byte v h =
      let head = word_bytes (header_bits variables (length m.whens) m.duration) in
      let words = flat_map (λ (w : When). word_bytes (when_bits (names m.sets) w)) m.whens in
      let size = member-length 1 m.sets in
      ap (λ (n : ℕ). get_or (head ++ (member_bytes 1 m.sets ++ words)) (n + v) 0)
      (sym (word-length (header_bits variables (length m.whens) m.duration)))
      ∙ get_or-append-add head (member_bytes 1 m.sets ++ words) v 0
      ∙ get_or-append (member_bytes 1 m.sets) words 0 v (omega arith)
      ∙ byte_at 1 m.sets v

  set-small : (v : ℕ) → v < variables → set_in row v < 2 ^ 4
  set-small v h = omega (arith, row-climbs.most v (omega (arith, row-length)), fits.few)

  set-of : (v : ℕ) → v < variables → set_number bytes v ≡ set_in row v
  unfolding set_number
  set-of v h =
      ap (field 4 4) (variable-byte v h) ∙ (byte-fields (set_in row v) (get_or row v nobody).member (set-small v h)).0

  zero_of : (v : ℕ) → v < variables → variable_zero bytes v ≡ 0
  unfolding variable_zero
  zero_of v h =
      ap (field 3 0) (variable-byte v h) ∙ (byte-fields (set_in row v) (get_or row v nobody).member (set-small v h)).1

  least_kept : (v : ℕ) → v < variables → least_set bytes v ≤ set_number bytes v
  unfolding least_set
  least_kept zero h = omega (arith, set-of 0 h, row-climbs.begins (omega (arith, row-length)))
  least_kept (suc v) h =
      let e : least_set bytes (suc v) ≡ set_number bytes v = rw (ne_eqb (suc v) 0 (λ q. omega arith), least_set) (simp unary_clauses) in
      omega (arith, e, set-of v (omega arith), set-of (suc v) h, row-climbs.least v (omega (arith, row-length)))

  greatest-kept : (v : ℕ) → v < variables → set_number bytes v ≤ greatest_set bytes v
  unfolding greatest_set
  greatest-kept zero h = omega (arith, set-of 0 h, row-climbs.begins (omega (arith, row-length)))
  greatest-kept (suc v) h =
      let e : greatest_set bytes (suc v) ≡ set_number bytes v + 1 = rw (ne_eqb (suc v) 0 (λ q. omega arith), greatest_set) (simp unary_clauses) in
      omega (arith, e, set-of v (omega arith), set-of (suc v) h, row-climbs.next v (omega (arith, row-length)))

  -- the check refuses a variable for nothing else
  pub broken-crowded : (v : ℕ) → v < variables → variable_broken bytes v ≡ crowded m v
  unfolding variable_broken crowded
  broken-crowded v h =
      let set = set_number bytes v in
      let counted =
      count-ext (λ u. eqb (set_number bytes u) set) (λ u. eqb (set_in row u) (set_in row v)) (suc v)
      (λ u l. ap₂ eqb (set-of u (omega arith)) (set-of v h))
      in
      ap₂ ◌||◌ (le-ltb set (least_set bytes v) (least_kept v h))
      (ap₂ ◌||◌ (le-ltb (greatest_set bytes v) set (greatest-kept v h))
      (ap₂ ◌||◌ (ap (ltb most_sets) (set-of v h))
      (ap₂ ◌||◌ (ap (ltb most_in_set) counted) (ap not (eq-eqb (variable_zero bytes v) 0 (zero_of v h)))
      ∙ or-false _)))

  first-bad : first_bad_variable bytes ≡ first (crowded m) variables
  unfolding first_bad_variable
  first-bad =
      ap (first (variable_broken bytes)) (variables-of m o fits)
      ∙ first-same (variable_broken bytes) (crowded m) variables broken-crowded

  -- what the check answers
  abbrev verdict : Checked
  verdict = pattern_answer bytes

  refused-at :
      first (crowded m) variables < variables
      → (verdict.code ≡ 3) × (verdict.place ≡ first (crowded m) variables)
  refused-at l =
      let less : first_bad_variable bytes < variable_count bytes = omega (arith, first-bad, variables-of m o fits) in
      let e =
      answer-variable bytes (long_kept m o fits) (header-kept m o fits) (whole-kept m o fits) (first_bad_variable bytes) refl
      less
      in
      (ap (λ (a : Checked). a.code) e, ap (λ (a : Checked). a.place) e ∙ first-bad)

  accepted-at : variables ≤ first (crowded m) variables → verdict.code ≡ 0
  accepted-at l =
      let most : variable_count bytes ≤ first_bad_variable bytes = omega (arith, first-bad, variables-of m o fits) in
      ap (λ (a : Checked). a.code)
      (answer-pattern bytes (long_kept m o fits) (header-kept m o fits) (whole-kept m o fits) most (conditions-kept m o fits))

  -- where a set is refused, the place is the first variable that is crowded
  pub bad-set-means :
      verdict.code ≡ 3
      → (verdict.place < variables) × (crowded m verdict.place ≡ true)
      × ((v : ℕ) → v < verdict.place → crowded m v ≡ false)
  bad-set-means z =
      by_order (first (crowded m) variables) variables
      (λ l. let place = (refused-at l).1 in (
        omega (arith, place),
        ap (crowded m) place ∙ first_passes (crowded m) variables l,
        λ v h. first-fails (crowded m) variables v (omega (arith, place)),
      ))
      (λ l. let e = accepted-at l in absurd (omega arith))

  -- where the pattern is accepted, none is
  pub accepted-means : verdict.code ≡ 0 → (v : ℕ) → v < variables → crowded m v ≡ false
  accepted-means z v h =
      by_order (first (crowded m) variables) variables
      (λ l. let e = (refused-at l).0 in absurd (omega arith))
      (λ l. first-fails (crowded m) variables v (omega arith))
