-- A set line read name by name. Assumes nothing.
use mathlib.Core.Path.{◌≡◌, ◌∙◌, refl, sym, ap, subst}
use mathlib.Core.Bool.{false}
use mathlib.Core.Logic.{⊎_elim}
use mathlib.Core.List.{List, [], ◌∷◌, ◌++◌, map, append_assoc, append-nil, map-append}
use mathlib.Core.List.Memᴰ
use mathlib.Core.List.{Memᴰ}
use Prim.Native.Nat.{ℕ, ◌+◌, ◌-◌, ◌≤◌, ◌<◌, min}
use native.Mathlib.Omega.{arith}
use lib.ListN.{length, get_or, take, drop, length-append, length-drop, drop_of_length-le}
use lib.Seq.{drop-drop, take_all}
use Rattle.words.specs.Words.{large}
use Rattle.form.specs.Form.{Member, space, plus, set_word, first_letter, member_word, spaced, names_of, names, IsLetter}
use Rattle.form.specs.Form.{line_feed, Once}
use Rattle.form.specs.Items.{Item, set_item, item_line, sets_in, duration_in, State, start, in_sets, Next, Valid, after, end}
use Rattle.form.proofs.Making.{sets-snoc-set, whens-snoc-set, duration-snoc-set, end_snoc, known-names, sets-few}
use Rattle.drafts.specs.declared.Draft.{Draft}
use Rattle.drafts.specs.declared.Piece.{Piece}
use Rattle.drafts.specs.Drafts.{phase_of, places_of, Small, Holds, DraftOf, ItemRead}
use Rattle.drafts.specs.Steps.{PieceFound, member_in, with_set, with_member}
use Rattle.drafts.proofs.Places.{named-place, place-named}
use Rattle.drafts.proofs.Holding.{names-last, holds-set, holds-member}
use Rattle.drafts.proofs.History.{whens-none, known-once}
use Rattle.drafts.proofs.Pieces.{first-same}
use Rattle.drafts.proofs.Read.{set-good, set-none}

-- ## Names that come once

once_more : (l : List ℕ) (x : ℕ) → Once l → ¬ Memᴰ x l → Once (l ++ (x ∷ []))
unfolding Once
once_more [] x o n = (λ m. Memᴰ.not-nil m, tt)
once_more (y ∷ l) x o n = (
  (λ m.
      ⊎_elim (λ a. o.0 a) (λ b. n (Memᴰ.head (sym (Memᴰ.eq_of_singleton b)))) (Memᴰ.append_cases l m)),
  once_more l x o.1 (λ m. n (Memᴰ.tail m)),
)

once-twice : (l : List ℕ) (x : ℕ) (r : List ℕ) → Once (l ++ (x ∷ r)) → ¬ Memᴰ x l
unfolding Once
once-twice [] x r o m = Memᴰ.not-nil m
once-twice (y ∷ l) x r o m =
    let rest = once-twice l x r o.1 in
    ⊎_elim (λ e. o.0 (Memᴰ.append_right l (Memᴰ.head (sym e)))) (λ n. rest n) (Memᴰ.cases_cons m)

spaced-append : (a b : List (List ℕ)) → spaced (a ++ b) ≡ spaced a ++ spaced b
unfolding spaced
spaced-append [] b = refl
spaced-append (w ∷ a) b =
    ap (λ (l : List ℕ). space ∷ (w ++ l)) (spaced-append a b)
    ∙ ap (λ (l : List ℕ). space ∷ l) (sym (append_assoc w (spaced a) (spaced b)))

set-phase : (l : List Item) (members : List Member) → (end start (l ++ (set_item members ∷ []))).phase ≡ in_sets
unfolding after
set-phase l members = ap (λ (s : State). s.phase) (end_snoc start l (set_item members))

-- ## Up to a place

-- behind the lines l, the names up to a place of what follows the first word have been read
pub record Progress (l : List Item) (line : List ℕ) (at : ℕ) (q : Draft) : Type 0 where
  pub early : (end start l).phase ≤ in_sets
  pub members : List Member
  pub read : line ≡ spaced (map member_word members) ++ drop at line
  pub phase : phase_of q.phase ≡ in_sets
  pub duration : q.duration ≡ min (duration_in l) large
  pub holds : Holds (sets_in l ++ (members ∷ [])) [] q
  pub small : (x : ℕ) → Memᴰ x (names_of members) → IsLetter x
  pub once : Once (names (sets_in l) ++ names_of members)
  pub only :
      (others : List Member) → spaced (map member_word others) ≡ line
      → (rest : List Member) × (others ≡ members ++ rest) × (spaced (map member_word rest) ≡ drop at line)

pub begun :
    (l : List Item) (line : List ℕ) (d : Draft) → Valid start l → DraftOf l d → phase_of d.phase ≤ in_sets
    → Progress l line 0 (with_set d)
unfolding spaced
begun l line d v h p =
    let early : (end start l).phase ≤ in_sets = omega (arith, h.phase) in
    record {
      early = early;
      members = [];
      read = refl;
      phase = refl;
      duration = h.duration;
      holds = holds-set (sets_in l) d (rw (whens-none l v early) at h.holds);
      small = λ x m. absurd (Memᴰ.not-nil m);
      once = rw (append-nil (names (sets_in l))) (known-once l v);
      only = λ others e. (others, refl, e);
    }

-- a letter with a place is a name, and one with none is new
taken-name :
    (sets : List (List Member)) (members : List Member) (q : Draft) (x : ℕ) → IsLetter x
    → Holds (sets ++ (members ∷ [])) [] q
    → ¬ (get_or q.places (x - first_letter) 0 ≡ 0)
    → Memᴰ x (names sets ++ names_of members)
taken-name sets members q x letter h n =
    let known = names (sets ++ (members ∷ [])) in
    let e = ap (λ (p : List ℕ). get_or p (x - first_letter) 0) h.places in
    let z : ¬ (get_or (places_of known) (x - first_letter) 0 ≡ 0) = λ o. n (e ∙ o) in
    rw (names-last sets members) at (place-named known x letter (omega (arith, z)))

new-name :
    (sets : List (List Member)) (members : List Member) (q : Draft) (x : ℕ) → IsLetter x
    → Holds (sets ++ (members ∷ [])) [] q
    → get_or q.places (x - first_letter) 0 ≡ 0
    → ¬ Memᴰ x (names (sets ++ (members ∷ [])))
new-name sets members q x letter h z m =
    let known = names (sets ++ (members ∷ [])) in
    let e = ap (λ (p : List ℕ). get_or p (x - first_letter) 0) h.places in
    let n = named-place known x letter m in
    omega arith

-- what is left of a line before its end is not nothing
left-some : (line : List ℕ) (at : ℕ) → at < length line → ¬ ([] ≡ drop at line)
left-some line at h e = omega (arith, ap length e, length-drop at line)

-- one name more of the bytes
more-read :
    (line : List ℕ) (at size : ℕ) (members : List Member) (m : Member)
    → line ≡ spaced (map member_word members) ++ drop at line
    → drop at line ≡ space ∷ (member_word m ++ drop size (drop at line))
    → line ≡ spaced (map member_word (members ++ (m ∷ []))) ++ drop (at + size) line
unfolding spaced
more-read line at size members m e f =
    let old = spaced (map member_word members) in
    let one = space ∷ (member_word m ++ []) in
    let a : spaced (map member_word (members ++ (m ∷ []))) ≡ old ++ one =
    ap spaced (map-append member_word members (m ∷ [])) ∙ spaced-append (map member_word members) (member_word m ∷ []) in
    let b : drop at line ≡ one ++ drop (at + size) line =
    f
    ∙ ap (λ (t : List ℕ). space ∷ (member_word m ++ t)) (drop-drop size at line)
    ∙ ap (λ (t : List ℕ). space ∷ (t ++ drop (at + size) line)) (sym (append-nil (member_word m))) in
    e ∙ ap (λ (t : List ℕ). old ++ t) b
    ∙ sym (append_assoc old one (drop (at + size) line))
    ∙ ap (λ (t : List ℕ). t ++ drop (at + size) line) (sym a)

-- one name more of any names that have these bytes
more-only :
    (line : List ℕ) (at : ℕ) (piece : Piece) (members others rest : List Member) → at < length line
    → drop at line ≡ space ∷ (member_word (member_in piece) ++ drop piece.size (drop at line))
    → (piece.group ≡ false → (t : List ℕ) → ¬ (drop piece.size (drop at line) ≡ plus ∷ t))
    → others ≡ members ++ rest → spaced (map member_word rest) ≡ drop at line
    → (t : List Member) × (others ≡ members ++ (member_in piece ∷ t))
    × (spaced (map member_word t) ≡ drop (at + piece.size) line)
unfolding spaced
more-only line at piece members others [] h e p o b = absurd (left-some line at h b)
more-only line at piece members others (m ∷ t) h e p o b =
    let s = first-same (drop at line) piece m t e p b in
    (t, o ∙ ap (λ (m : Member). members ++ (m ∷ t)) s.0, s.1 ∙ drop-drop piece.size at line)

pub turned :
    (l : List Item) (line : List ℕ) (at : ℕ) (q : Draft) (piece : Piece) → Valid start l → Small q → at < length line
    → PieceFound (drop at line) piece
    → get_or q.places (piece.name - first_letter) 0 ≡ 0
    → Progress l line at q
    → Progress l line (at + piece.size) (with_member q piece.name piece.group)
turned l line at q piece v s h f z g =
    let letter = f.letter in
    let m = member_in piece in
    let out = new-name (sets_in l) g.members q piece.name letter g.holds z in
    let named : names_of (g.members ++ (m ∷ [])) ≡ names_of g.members ++ (piece.name ∷ []) =
    map-append (λ (m : Member). m.name) g.members (m ∷ []) in
    record {
      early = g.early;
      members = g.members ++ (m ∷ []);
      read = more-read line at piece.size g.members m g.read f.front;
      phase = g.phase;
      duration = g.duration;
      holds = holds-member (sets_in l) g.members m q s (sets-few l v) letter out g.holds;
      small = λ x n.
          ⊎_elim (λ a. g.small x a)
          (λ b. let w = Memᴰ.eq_of_singleton b in subst IsLetter (sym w) letter)
          (Memᴰ.append_cases (names_of g.members) (subst (λ (t : List ℕ). Memᴰ x t) named n));
      once =
          subst Once
          (append_assoc (names (sets_in l)) (names_of g.members) (piece.name ∷ [])
          ∙ ap (λ (t : List ℕ). names (sets_in l) ++ t) (sym named))
          (once_more (names (sets_in l) ++ names_of g.members) piece.name g.once
          (λ n. out (rw (names-last (sets_in l) g.members) n)));
      only = λ others o.
          let k = g.only others o in
          let t = more-only line at piece g.members others k.0 h f.front f.alone k.1 k.2 in
          (t.0, t.1 ∙ sym (append_assoc g.members (m ∷ []) t.0), t.2);
    }

-- ## The end of the reading

-- a name of a list in the middle of its names
name_in : (a : List Member) (m : Member) (b : List Member) → Memᴰ m.name (names_of (a ++ (m ∷ b)))
name_in a m b = Memᴰ.map (λ (m : Member). m.name) (Memᴰ.append_right a (Memᴰ.head refl))

stuck-here :
    (line : List ℕ) (at : ℕ) (members others rest : List Member) → at < length line
    → ((m : Member) (t : List ℕ) → IsLetter m.name → ¬ (drop at line ≡ space ∷ (member_word m ++ t)))
    → ((x : ℕ) → Memᴰ x (names_of others) → IsLetter x)
    → others ≡ members ++ rest → spaced (map member_word rest) ≡ drop at line → ⊥
unfolding spaced
stuck-here line at members others [] h n small o b = left-some line at h b
stuck-here line at members others (m ∷ t) h n small o b =
    n m (spaced (map member_word t))
    (small m.name (subst (λ (k : List Member). Memᴰ m.name (names_of k)) (sym o) (name_in members m t)))
    (sym b)

-- no name where one must stand
pub stuck :
    (l : List Item) (line : List ℕ) (at : ℕ) (q : Draft) → at < length line
    → ((m : Member) (t : List ℕ) → IsLetter m.name → ¬ (drop at line ≡ space ∷ (member_word m ++ t)))
    → Progress l line at q
    → (i : Item) → Next (end start l) i → ¬ (item_line i ≡ (set_word ++ line) ++ (line_feed ∷ []))
stuck l line at q h n g =
    set-none (end start l) line
    (λ others k e.
    let o = g.only others e in
    stuck-here line at g.members others o.0 h n k.small o.1 o.2)

-- a name that there is
pub repeated :
    (l : List Item) (line : List ℕ) (at : ℕ) (q : Draft) (piece : Piece) → at < length line
    → PieceFound (drop at line) piece
    → ¬ (get_or q.places (piece.name - first_letter) 0 ≡ 0)
    → Progress l line at q
    → (i : Item) → Next (end start l) i → ¬ (item_line i ≡ (set_word ++ line) ++ (line_feed ∷ []))
repeated l line at q piece h p n g =
    set-none (end start l) line
    (λ others k f.
    let o = g.only others f in
    let t = more-only line at piece g.members others o.0 h p.front p.alone o.1 o.2 in
    let x : Once ((names (sets_in l) ++ names_of g.members) ++ (piece.name ∷ names_of t.0)) =
    subst Once
    (ap (λ (a : List ℕ). a ++ names_of others) (known-names l)
    ∙ ap (λ (a : List Member). names (sets_in l) ++ names_of a) t.1
    ∙ ap (λ (a : List ℕ). names (sets_in l) ++ a) (map-append (λ (m : Member). m.name) g.members (member_in piece ∷ t.0))
    ∙ sym (append_assoc (names (sets_in l)) (names_of g.members) (piece.name ∷ names_of t.0)))
    k.once in
    once-twice (names (sets_in l) ++ names_of g.members) piece.name (names_of t.0) x
    (taken-name (sets_in l) g.members q piece.name p.letter g.holds n))

-- the line's end
pub ended :
    (l : List Item) (line : List ℕ) (at : ℕ) (q : Draft) → Valid start l → 0 < length line → length line ≤ at
    → Progress l line at q
    → ItemRead l (set_word ++ line) q
unfolding spaced
ended l line at q v some h g =
    let e : spaced (map member_word g.members) ≡ line =
    sym (append-nil (spaced (map member_word g.members)))
    ∙ ap (λ (t : List ℕ). spaced (map member_word g.members) ++ t) (sym (drop_of_length-le line h))
    ∙ sym g.read in
    set-good l line q g.members
    (record {
      phase = g.early;
      some = λ z. let y : [] ≡ line = ap (λ (t : List Member). spaced (map member_word t)) (sym z) ∙ e in omega (arith, ap length y);
      small = g.small;
      once = rw (known-names l) g.once;
    })
    e
    (record {
      holds = rw (sets-snoc-set l g.members, whens-snoc-set l g.members, whens-none l v g.early) g.holds;
      phase = g.phase ∙ sym (set-phase l g.members);
      duration = rw (duration-snoc-set l g.members) g.duration;
    })

-- ## A turn of the reading

-- what is left of a line, as a part of it
pub left-part : (line : List ℕ) (at : ℕ) → take (length line - at) (drop at line) ≡ drop at line
left-part line at = take_all (length line - at) (drop at line) (omega (arith, length-drop at line))

pub piece-size :
    (line : List ℕ) (at : ℕ) (piece : Piece) → at < length line → PieceFound (drop at line) piece
    → (1 ≤ piece.size) × (at + piece.size ≤ length line)
piece-size line at piece h f = (
  omega (arith, f.size),
  omega (arith, f.size, ap length f.front, length-append (member_word (member_in piece)) (drop piece.size (drop at line)), length-drop at line),
)

-- no set line may follow
pub too-late :
    (l : List Item) (line : List ℕ) (d : Draft) → ¬ (phase_of d.phase ≤ in_sets) → DraftOf l d
    → (i : Item) → Next (end start l) i → ¬ (item_line i ≡ (set_word ++ line) ++ (line_feed ∷ []))
too-late l line d h g = set-none (end start l) line (λ members n e. h (omega (arith, n.phase, g.phase)))

-- the line has no bytes behind its first word
pub no_names :
    (l : List Item) (line : List ℕ) → length line ≡ 0
    → (i : Item) → Next (end start l) i → ¬ (item_line i ≡ (set_word ++ line) ++ (line_feed ∷ []))
no_names l line z = set-none (end start l) line (λ members n e. none-spaced line members z n.some e)
  where
    none-spaced :
        (line : List ℕ) (members : List Member) → length line ≡ 0 → ¬ (members ≡ [])
        → ¬ (spaced (map member_word members) ≡ line)
    none-spaced line [] z n e = n refl
    none-spaced line (m ∷ members) z n e = unfold spaced in (omega (arith, ap length e))
