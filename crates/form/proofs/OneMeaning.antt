-- Lines in order that begin with the same bytes are the same, and a text has one meaning. Assumes nothing.
use mathlib.Core.Path.{◌≡◌, refl, sym, ap, ap₂, ◌∙◌, subst}
use mathlib.Core.Logic.{⊎_elim}
use mathlib.Core.List.{List, [], ◌∷◌, ◌++◌, flat_map, append_assoc, append-nil}
use mathlib.Core.List.Memᴰ
use mathlib.Core.List.{Memᴰ}
use Prim.Native.Nat.{ℕ, ◌≤◌}
use native.Mathlib.Omega.{arith}
use lib.ListN.{length}
use Rattle.numbers.proofs.Cases.{by_order}
use Rattle.form.specs.Form.{Member, When, Making, line_feed, text_of, InOrder}
use Rattle.form.specs.Items.{Item, set_item, when_item, within_item, item_line, items_of}
use Rattle.form.specs.Items.{sets_in, whens_in, duration_in}
use Rattle.form.specs.Items.{State, start, Next, after, Valid, end}
use Rattle.form.proofs.Cancel.{cut-same}
use Rattle.form.proofs.Making.{text-items, items-valid, valid-back, sets-items, whens-items, duration-items}
use Rattle.form.proofs.OneLine.{Lettered, line-shape, line_same}

-- ## The names known are letters

pub lettered-start : Lettered start
lettered-start x m = absurd (Memᴰ.not-nil m)

pub lettered-after : (s : State) (i : Item) → Lettered s → Next s i → Lettered (after s i)
unfolding Next after
lettered-after s (set_item t) f n x m = ⊎_elim (f x) (n.small x) (Memᴰ.append_cases s.known m)
lettered-after s (when_item w) f n x m = f x m
lettered-after s (within_item d) f n x m = f x m

pub lettered-end : (s : State) (l : List Item) → Lettered s → Valid s l → Lettered (end s l)
unfolding Valid end
lettered-end s [] f v = f
lettered-end s (i ∷ l) f v = lettered-end (after s i) l (lettered-after s i f v.0) v.1

-- ## Bytes and lines

-- a line and what stands behind it
pub line-then :
    (s : State) (i : Item) (y : List ℕ) → Lettered s → Next s i
    → (bytes : List ℕ) × (¬ Memᴰ line_feed bytes) × (item_line i ≡ bytes ++ (line_feed ∷ []))
    × (item_line i ++ y ≡ bytes ++ (line_feed ∷ y))
line-then s i y f n =
    let r = line-shape s i f n in
    (r.0, r.1, r.2, ap (λ (l : List ℕ). l ++ y) r.2 ∙ append_assoc r.0 (line_feed ∷ []) y)

-- a line is never empty
pub line-some : (s : State) (i : Item) (y : List ℕ) → Lettered s → Next s i → ¬ ([] ≡ item_line i ++ y)
line-some s i y f n e = let r = line-then s i y f n in nil-cut r.0 (e ∙ r.3)
  where
    nil-cut : (a : List ℕ) → [] ≡ a ++ (line_feed ∷ y) → ⊥
    nil-cut [] e = let z : ◌≡◌ {A = ℕ} 0 1 = cc in omega arith
    nil-cut (x ∷ a) e = let z : ◌≡◌ {A = ℕ} 0 1 = cc in omega arith

-- the same bytes begin with the same line
pub same_line :
    (s : State) (i j : Item) (x y : List ℕ) → Lettered s → Next s i → Next s j → item_line i ++ x ≡ item_line j ++ y
    → (i ≡ j) × (x ≡ y)
same_line s i j x y f n k e =
    let a = line-then s i x f n in
    let b = line-then s j y f k in
    let c = cut-same line_feed a.0 b.0 x y a.1 b.1 (sym a.3 ∙ e ∙ b.3) in
    (line_same s s f f i j n k (a.2 ∙ ap (λ (l : List ℕ). l ++ (line_feed ∷ [])) c.0 ∙ sym b.2), c.1)

pub lines_more :
    (i : Item) (l : List Item) (x : List ℕ)
    → flat_map item_line (i ∷ l) ++ x ≡ item_line i ++ (flat_map item_line l ++ x)
unfolding flat_map
lines_more i l x = append_assoc (item_line i) (flat_map item_line l) x

-- of two lists of lines with the same bytes the longer goes on where the other ends
pub follow :
    (s : State) (l k : List Item) (x y : List ℕ) → Lettered s → Valid s l → Valid s k
    → flat_map item_line l ++ x ≡ flat_map item_line k ++ y → length l ≤ length k
    → (m : List Item) × (k ≡ l ++ m) × (x ≡ flat_map item_line m ++ y)
unfolding Valid
follow s [] k x y f v w e h = (k, refl, unfold flat_map in e)
follow s (i ∷ l) [] x y f v w e h = absurd (omega arith)
follow s (i ∷ l) (j ∷ k) x y f v w e h =
    let c =
    same_line s i j (flat_map item_line l ++ x) (flat_map item_line k ++ y) f v.0 w.0
    (sym (lines_more i l x) ∙ e ∙ lines_more j k y) in
    let w' = subst (λ (j : Item). Valid (after s j) k) (sym c.0) w.1 in
    let r = follow (after s i) l k x y (lettered-after s i f v.0) v.1 w' c.1 (omega arith) in
    let p = c.0 in
    let q = r.1 in
    (r.0, (cc), r.2)

pub no_lines :
    (s : State) (l : List Item) (x : List ℕ) → Lettered s → Valid s l → [] ≡ flat_map item_line l ++ x
    → (l ≡ []) × (x ≡ [])
unfolding Valid
no_lines s [] x f v e = (refl, unfold flat_map in sym e)
no_lines s (i ∷ l) x f v e = absurd (line-some s i (flat_map item_line l ++ x) f v.0 (e ∙ lines_more i l x))

-- ## One meaning

items-shorter :
    (l k : List Item) → Valid start l → Valid start k → flat_map item_line l ≡ flat_map item_line k → length l ≤ length k
    → l ≡ k
items-shorter l k v w e h =
    let a = append-nil (flat_map item_line l) in
    let b = append-nil (flat_map item_line k) in
    let r = follow start l k [] [] lettered-start v w (a ∙ e ∙ sym b) h in
    let w' = valid-back start l r.0 (subst (λ (k : List Item). Valid start k) r.1 w) in
    let n = no_lines (end start l) r.0 [] (lettered-end start l lettered-start v) w' r.2 in
    sym (r.1 ∙ ap (λ (m : List Item). l ++ m) n.0 ∙ append-nil l)

pub items-same : (l k : List Item) → Valid start l → Valid start k → flat_map item_line l ≡ flat_map item_line k → l ≡ k
items-same l k v w e =
    by_order (length l) (length k)
    (λ h. items-shorter l k v w e (omega arith))
    (λ h. sym (items-shorter k l w v (sym e) h))

abbrev making_from : List (List Member) → List When → ℕ → Making
making_from sets whens duration = record { sets = sets; whens = whens; duration = duration }

pub making-same : (m k : Making) → items_of m ≡ items_of k → m ≡ k
making-same m k e =
    let p = sym (sets-items m) ∙ ap sets_in e ∙ sets-items k in
    let q = sym (whens-items m) ∙ ap whens_in e ∙ whens-items k in
    let r = sym (duration-items m) ∙ ap duration_in e ∙ duration-items k in
    ap₂ (λ (a : List (List Member)) (b : List When). making_from a b m.duration) p q
    ∙ ap (λ (d : ℕ). making_from k.sets k.whens d) r

pub one-making : (m k : Making) → InOrder m → InOrder k → text_of m ≡ text_of k → m ≡ k
one-making m k o p e =
    making-same m k
    (items-same (items_of m) (items_of k) (items-valid m o) (items-valid k p) (sym (text-items m) ∙ e ∙ text-items k))
