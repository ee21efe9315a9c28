-- The first line of a text that is bad or missing. Assumes nothing.
use mathlib.Core.Path.{◌≡◌, refl, sym, ap, ◌∙◌, subst}
use mathlib.Core.Bool.{false}
use mathlib.Core.List.{List, [], ◌∷◌, ◌++◌, flat_map, append_assoc, append-nil}
use mathlib.Core.List.Memᴰ
use mathlib.Core.List.{Memᴰ}
use Prim.Native.Nat.{ℕ, suc, ◌+◌, ◌≤◌, ◌<◌}
use native.Mathlib.Omega.{arith}
use lib.ListN.{length, take, drop, take-append-drop, length-append}
use lib.Seq.{length-take-le}
use Rattle.numbers.proofs.Cases.{by_order}
use Rattle.form.specs.Form.{Member, Making, line_feed, text_of, Once, InOrder, InForm}
use Rattle.form.specs.Lines.{Lines, none, more, Begins, FirstBad}
use Rattle.form.specs.Items.{Item, set_item, when_item, within_item, item_line, items_of}
use Rattle.form.specs.Items.{State, start, finished, Next, after, Valid, end}
use Rattle.form.proofs.Cancel.{cut-same}
use Rattle.form.proofs.Making.{text-items, items-valid, items-finished, making-of, flat_append}
use Rattle.form.proofs.Making.{valid-front, valid-back, valid-snoc, end_snoc}
use Rattle.form.proofs.OneLine.{Lettered}
use Rattle.form.proofs.OneMeaning.{lettered-start, lettered-after, lettered-end, line-then, lines_more}
use Rattle.form.proofs.OneMeaning.{follow, no_lines}

-- ## One place

later-never : (text : List ℕ) (p q : ℕ) → FirstBad text p → FirstBad text q → p < q → ⊥
later-never text p q f g h = f.bad (g.before (suc p) h)

pub first-bad-one : (text : List ℕ) (p q : ℕ) → FirstBad text p → FirstBad text q → p ≡ q
first-bad-one text p q f g =
    by_order p q (λ h. absurd (later-never text p q f g h))
    (λ h. by_order q p (λ k. absurd (later-never text q p g f k)) (λ k. omega arith))

-- ## Lines in order are lines

pub lines_of : (s : State) (l : List Item) → Lettered s → Valid s l → Lines (length l) (flat_map item_line l)
unfolding Valid flat_map
lines_of s [] f v = none
lines_of s (i ∷ l) f v =
    let r = line-then s i (flat_map item_line l) f v.0 in
    subst (λ (text : List ℕ). Lines (suc (length l)) text) (sym r.3)
    (more r.0 r.1 (lines_of (after s i) l (lettered-after s i f v.0) v.1))

cut-nothing : (a x : List ℕ) → [] ≡ a ++ (line_feed ∷ x) → ⊥
cut-nothing [] x e = let z : ◌≡◌ {A = ℕ} 0 1 = cc in omega arith
cut-nothing (b ∷ a) x e = let z : ◌≡◌ {A = ℕ} 0 1 = cc in omega arith

module _ (i : Item) (bytes : List ℕ) (rest : List ℕ) where
  -- a line of the bytes is a line in order
  line_taken :
      (s : State) (l : List Item) (behind : List ℕ) → Lettered s → Next s i → ¬ Memᴰ line_feed bytes
      → flat_map item_line (i ∷ l) ≡ (bytes ++ (line_feed ∷ rest)) ++ behind
      → (item_line i ≡ bytes ++ (line_feed ∷ [])) × (flat_map item_line l ≡ rest ++ behind)
  unfolding flat_map
  line_taken s l behind f n h e =
      let t = line-then s i (flat_map item_line l) f n in
      let c =
      cut-same line_feed t.0 bytes (flat_map item_line l) (rest ++ behind) t.1 h
      (sym t.3 ∙ e ∙ append_assoc bytes (line_feed ∷ rest) behind) in
      (t.2 ∙ ap (λ (b : List ℕ). b ++ (line_feed ∷ [])) c.0, c.1)

  line-put :
      (a : List Item) → item_line i ≡ bytes ++ (line_feed ∷ []) → rest ≡ flat_map item_line a
      → bytes ++ (line_feed ∷ rest) ≡ flat_map item_line (i ∷ a)
  unfolding flat_map
  line-put a e q =
      ap (λ (r : List ℕ). bytes ++ (line_feed ∷ r)) q
      ∙ sym (append_assoc bytes (line_feed ∷ []) (flat_map item_line a))
      ∙ ap (λ (b : List ℕ). b ++ flat_map item_line a) (sym e)

-- lines at the beginning of lines in order are some of those
pub lines_split :
    {n : ℕ} {begin : List ℕ} → Lines n begin → (s : State) (l : List Item) (behind : List ℕ) → Lettered s → Valid s l
    → flat_map item_line l ≡ begin ++ behind
    → (a : List Item) × (b : List Item) × (l ≡ a ++ b) × (begin ≡ flat_map item_line a) × (length a ≡ n)
unfolding Valid flat_map
lines_split none s l behind f v e = ([], l, refl, refl, refl)
lines_split (more {k} {rest} bytes h r) s [] behind f v e =
    absurd (cut-nothing bytes (rest ++ behind) (e ∙ append_assoc bytes (line_feed ∷ rest) behind))
lines_split (more {k} {rest} bytes h r) s (i ∷ l) behind f v e =
    let t = line_taken i bytes rest s l behind f v.0 h e in
    let u = lines_split r (after s i) l behind (lettered-after s i f v.0) v.1 t.1 in
    (i ∷ u.0, u.1, ap (λ (l : List Item). i ∷ l) u.2, line-put i bytes rest u.0 t.0 u.3, ap suc u.4)

-- ## Lines in order begin a text

-- the variable `a`
abbrev pub any_name : Member
any_name = record { name = 97; group = false }

-- any line leads on
phase-some : (s : State) (i : Item) (l : List Item) → 1 ≤ (end s (i ∷ l)).phase
unfolding end after
phase-some s (set_item t) [] = omega arith
phase-some s (when_item w) [] = omega arith
phase-some s (within_item n) [] = omega arith
phase-some s i (j ∷ l) = phase-some (after s i) j l

phase-upto : (s : State) (l : List Item) → s.phase ≤ finished → (end s l).phase ≤ finished
unfolding end after
phase-upto s [] h = h
phase-upto s (set_item t ∷ l) h = phase-upto (after s (set_item t)) l (omega arith)
phase-upto s (when_item w ∷ l) h = phase-upto (after s (when_item w)) l (omega arith)
phase-upto s (within_item n ∷ l) h = phase-upto (after s (within_item n)) l (omega arith)

-- the lines of the shortest text
unfoldable pub shortest : List Item
shortest = set_item (any_name ∷ []) ∷ within_item 0 ∷ []

pub shortest-valid : Valid start shortest
unfolding shortest Valid Next after Once
shortest-valid = (
  record {
    phase = omega arith;
    some = λ e. let z : ◌≡◌ {A = ℕ} 0 1 = cc in omega arith;
    small = λ x m.
        let e = Memᴰ.eq_of_singleton m in record { from = omega arith; below = omega arith };
    once = ((λ m. Memᴰ.not-nil m), tt);
  },
  (record { from = omega arith; upto = omega arith }, tt),
)

-- lines that end a text
completes :
    (l : List Item) → Valid start l → (c : List Item) × Valid start (l ++ c) × ((end start (l ++ c)).phase ≡ finished)
completes [] v = (shortest, shortest-valid, unfold shortest end after in refl)
completes (i ∷ l) v =
    by_order (end start (i ∷ l)).phase finished
    (λ h.
    let last : (end start ((i ∷ l) ++ (within_item 0 ∷ []))).phase ≡ finished =
    rw (end_snoc start (i ∷ l) (within_item 0)) (unfold after in refl) in
    (within_item 0 ∷ [], valid-snoc start (i ∷ l) (within_item 0) v (named h), last))
    (λ h.
    let last : (end start (i ∷ l)).phase ≡ finished = omega (arith, phase-upto start (i ∷ l) (omega arith)) in
    ([], rw (append-nil (i ∷ l)) v, rw (append-nil (i ∷ l)) last))
  where
    named : (end start (i ∷ l)).phase < finished → Next (end start (i ∷ l)) (within_item 0)
    named h = unfold Next in record { from = phase-some start i l; upto = omega arith }

-- lines in order begin a text
pub begins-text :
    (l : List Item) → Valid start l
    → (m : Making) × InOrder m × (rest : List ℕ) × (text_of m ≡ flat_map item_line l ++ rest)
begins-text l v =
    let c = completes l v in
    let r = making-of (l ++ c.0) c.1 c.2 in
    let e = text-items r.0 ∙ ap (λ (l : List Item). flat_map item_line l) r.2 ∙ flat_append item_line l c.0 in
    (r.0, r.1, flat_map item_line c.0, e)

-- so they and any of the first of them begin any text that begins with them
pub begins-lines :
    (text : List ℕ) (l : List Item) (x : List ℕ) → Valid start l → text ≡ flat_map item_line l ++ x
    → (k : ℕ) → k ≤ length l → Begins text k
begins-lines text l x v e k h =
    let a = take k l in
    let b = drop k l in
    let s : l ≡ a ++ b = sym (take-append-drop k l) in
    let va = valid-front start a b (subst (λ (l : List Item). Valid start l) s v) in
    let t = begins-text l v in
    let whole : (x : List ℕ) → flat_map item_line l ++ x ≡ flat_map item_line a ++ (flat_map item_line b ++ x) =
    λ x.
    ap (λ (l : List Item). flat_map item_line l ++ x) s
    ∙ ap (λ (y : List ℕ). y ++ x) (flat_append item_line a b)
    ∙ append_assoc (flat_map item_line a) (flat_map item_line b) x in
    record {
      begin = flat_map item_line a;
      lines =
          subst (λ (n : ℕ). Lines n (flat_map item_line a)) (length-take-le k l h) (lines_of start a lettered-start va);
      behind = flat_map item_line b ++ x;
      ours = e ∙ whole x;
      making = t.0;
      order = t.1;
      rest = flat_map item_line b ++ t.2;
      theirs = t.3 ∙ whole t.2;
    }

-- ## The first bad line

module _
    (text : List ℕ) (l : List Item) (x : List ℕ) (v : Valid start l) (e : text ≡ flat_map item_line l ++ x)
    (stops : (i : Item) (y : List ℕ) → Next (end start l) i → ¬ (x ≡ item_line i ++ y))
    (unfinished : x ≡ [] → ¬ ((end start l).phase ≡ finished))
  where
    -- no lines in order go further
    no-further : (k : List Item) (y : List ℕ) → Valid start k → text ≡ flat_map item_line k ++ y → length l < length k → ⊥
    no-further k y w q h =
        let r = follow start l k x y lettered-start v w (sym e ∙ q) (omega arith) in
        let w' = valid-back start l r.0 (subst (λ (k : List Item). Valid start k) r.1 w) in
        next r.0 (ap length r.1 ∙ length-append l r.0) w' r.2
      where
        next :
            (m : List Item) → length k ≡ length l + length m → Valid (end start l) m → x ≡ flat_map item_line m ++ y
            → ⊥
        next [] n w c = omega arith
        next (i ∷ m) n w c = unfold Valid in stops i (flat_map item_line m ++ y) w.0 (c ∙ lines_more i m y)

    not-of-the-form : (m : Making) → ¬ InForm text m
    not-of-the-form m o =
        let k = items_of m in
        let w = items-valid m o.order in
        let q : text ≡ flat_map item_line k ++ [] = o.bytes ∙ text-items m ∙ sym (append-nil (flat_map item_line k)) in
        by_order (length l) (length k) (no-further k [] w q)
        (λ h.
        let r = follow start k l [] x lettered-start w v (sym q ∙ e) h in
        let v' = valid-back start k r.0 (subst (λ (l : List Item). Valid start l) r.1 v) in
        let n = no_lines (end start k) r.0 x (lettered-end start k lettered-start w) v' r.2 in
        let s : l ≡ k = r.1 ∙ ap (λ (m : List Item). k ++ m) n.0 ∙ append-nil k in
        unfinished n.1 (ap (λ (l : List Item). (end start l).phase) s ∙ items-finished m))

    not-begun : ¬ Begins text (suc (length l))
    not-begun b =
        let m = b.making in
        let w = items-valid m b.order in
        let u = lines_split b.lines start (items_of m) b.rest lettered-start w (sym (text-items m) ∙ b.theirs) in
        let w' = valid-front start u.0 u.1 (subst (λ (l : List Item). Valid start l) u.2 w) in
        no-further u.0 b.behind w' (b.ours ∙ ap (λ (y : List ℕ). y ++ b.behind) u.3) (omega (arith, u.4))

    pub stops-here : FirstBad text (length l)
    stops-here = record { outside = not-of-the-form; before = begins-lines text l x v e; bad = not-begun }

-- no line in order has the bytes of the next line
pub bad-line :
    (text : List ℕ) (l : List Item) (bytes rest : List ℕ) → Valid start l
    → text ≡ flat_map item_line l ++ (bytes ++ (line_feed ∷ rest)) → ¬ Memᴰ line_feed bytes
    → ((i : Item) → Next (end start l) i → ¬ (item_line i ≡ bytes ++ (line_feed ∷ [])))
    → FirstBad text (length l)
bad-line text l bytes rest v e h f =
    stops-here text l (bytes ++ (line_feed ∷ rest)) v e
    (λ i y n q.
    let t = line-then (end start l) i y (lettered-end start l lettered-start v) n in
    let c = cut-same line_feed bytes t.0 rest y h t.1 (q ∙ t.3) in
    f i n (t.2 ∙ ap (λ (b : List ℕ). b ++ (line_feed ∷ [])) (sym c.0)))
    (λ q. absurd (cut-nothing bytes rest (sym q)))

-- the bytes end before the next line feed
pub missing-line :
    (text : List ℕ) (l : List Item) (bytes : List ℕ) → Valid start l → text ≡ flat_map item_line l ++ bytes
    → ¬ Memᴰ line_feed bytes → (bytes ≡ [] → ¬ ((end start l).phase ≡ finished))
    → FirstBad text (length l)
missing-line text l bytes v e h f =
    stops-here text l bytes v e
    (λ i y n q.
    let t = line-then (end start l) i y (lettered-end start l lettered-start v) n in
    h (subst (λ (b : List ℕ). Memᴰ line_feed b) (sym (q ∙ t.3)) (Memᴰ.append_right t.0 (Memᴰ.head refl))))
    f
