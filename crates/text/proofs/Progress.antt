-- The lines of a text read one by one: what is read so far, what one line more brings, and where reading ends. Assumes
-- nothing.
use mathlib.Core.Path.{◌≡◌, refl, sym, ap, ◌∙◌, subst}
use mathlib.Core.Logic.{⊎_elim}
use mathlib.Core.List.{List, [], ◌∷◌, ◌++◌, flat_map, append_assoc, append-nil}
use mathlib.Core.List.Memᴰ
use mathlib.Core.List.{Memᴰ}
use Prim.Native.Nat.{ℕ, suc, ◌+◌, ◌-◌, ◌≤◌, ◌<◌}
use native.Mathlib.Omega.{arith}
use lib.ListN.{length, get_or, take, drop, length-append, length-take, length-drop, drop_of_length-le}
use lib.Seq.{split_at, get_or-take, get_or-drop, drop-drop}
use Rattle.form.specs.Form.{line_feed}
use Rattle.form.specs.Lines.{FirstBad}
use Rattle.form.specs.Items.{Item, item_line, start, finished, finished, Next, Valid, end}
use Rattle.form.proofs.Making.{flat_append, flat-one, text-items, valid-snoc, making-of}
use Rattle.form.proofs.FirstBad.{bad-line, missing-line}
use Rattle.drafts.specs.declared.Draft.{Draft}
use Rattle.drafts.specs.declared.Phase.{Phase}
use Rattle.drafts.specs.declared.Phase.TheVariants.{Empty, Sets, Whens, Finished}
use Rattle.drafts.specs.Drafts.{phase_of, Small, DraftOf, ItemRead}
use Rattle.text.specs.LineEnds.{Clear, FirstFeed}
use Rattle.text.specs.Texts.{Good}

absent : (x : ℕ) (l : List ℕ) → ((k : ℕ) → k < length l → get_or l k 0 ≡ x → ⊥) → ¬ Memᴰ x l
absent x [] f m = Memᴰ.not-nil m
absent x (y ∷ l) f m =
    ⊎_elim (λ (e : x ≡ y). f 0 (omega arith) (sym e)) (absent x l (λ k h e. f (suc k) (omega arith) e))
    (Memᴰ.cases_cons m)

-- ## Where a line ends

-- the bytes of a line
abbrev pub line_bytes : List ℕ → ℕ → ℕ → List ℕ
line_bytes text at e = take (e - at) (drop at text)

module _ (text : List ℕ) (at e : ℕ) (h : FirstFeed text at e) where
  line_clear : ¬ Memᴰ line_feed (line_bytes text at e)
  line_clear =
      absent line_feed (line_bytes text at e)
      (λ k l q.
      let n = length-take (e - at) (drop at text) in
      let s : k < e - at = omega arith in
      let i = h.inside in
      h.clear (at + k) (omega arith) (omega arith)
      (sym (get_or-drop at text k 0) ∙ sym (get_or-take (e - at) (drop at text) k 0 s) ∙ q))

  line-cut : drop at text ≡ line_bytes text at e ++ (line_feed ∷ drop (e + 1) text)
  line-cut =
      let b = h.behind in
      let i = h.inside in
      let n = length-drop at text in
      let p : at + (e - at) ≡ e = omega arith in
      let q : at + suc (e - at) ≡ e + 1 = omega arith in
      let s = split_at (drop at text) (e - at) 0 (omega arith) in
      let f : get_or (drop at text) (e - at) 0 ≡ line_feed =
      get_or-drop at text (e - at) 0 ∙ ap (λ (k : ℕ). get_or text k 0) p ∙ h.here in
      let g : drop (suc (e - at)) (drop at text) ≡ drop (e + 1) text =
      drop-drop (suc (e - at)) at text ∙ ap (λ (k : ℕ). drop k text) q in
      s
      ∙ ap (λ (x : ℕ). line_bytes text at e ++ (x ∷ drop (suc (e - at)) (drop at text))) f
      ∙ ap (λ (r : List ℕ). line_bytes text at e ++ (line_feed ∷ r)) g

-- no line feed from a place on
rest-clear : (text : List ℕ) (at : ℕ) → Clear text at (length text) → ¬ Memᴰ line_feed (drop at text)
rest-clear text at clear =
    absent line_feed (drop at text)
    (λ k l r.
    let n = length-drop at text in clear (at + k) (omega arith) (omega arith) (sym (get_or-drop at text k 0) ∙ r))

-- the lines before a place, and what they tell
pub record Progress (text : List ℕ) (draft : Draft) (line at : ℕ) : Type 0 where
  pub items : List Item
  pub valid : Valid start items
  pub told : DraftOf items draft
  pub small : Small draft
  pub count : length items ≡ line
  pub few : line ≤ at
  pub bound : at ≤ length text
  pub bytes : text ≡ flat_map item_line items ++ drop at text

pub begin : (text : List ℕ) (draft : Draft) → Small draft → DraftOf [] draft → Progress text draft 0 0
unfolding Valid flat_map
begin text draft s t =
    record {
      items = [];
      valid = tt;
      told = t;
      small = s;
      count = refl;
      few = omega arith;
      bound = omega arith;
      bytes = refl;
    }

pub only-finished : (phase : Phase) → phase_of phase ≡ finished → phase ≡ Finished
only-finished Empty e = absurd (omega arith)
only-finished Sets e = absurd (omega arith)
only-finished Whens e = absurd (omega arith)
only-finished Finished e = refl

module _ (text : List ℕ) (draft : Draft) (line at : ℕ) (p : Progress text draft line at) where
  module _ (e : ℕ) (h : FirstFeed text at e) where
    bytes_cut : text ≡ flat_map item_line p.items ++ (line_bytes text at e ++ (line_feed ∷ drop (e + 1) text))
    bytes_cut = p.bytes ∙ ap (λ (r : List ℕ). flat_map item_line p.items ++ r) (line-cut text at e h)

    pub one_more :
        (r : Draft) → Small r → ItemRead p.items (line_bytes text at e) r → Progress text r (line + 1) (e + 1)
    one_more r s t =
        let l1 = h.behind in
        let l2 = h.inside in
        let c = p.count in
        let w = p.few in
        let k = length-append p.items (t.item ∷ []) in
        record {
          items = p.items ++ (t.item ∷ []);
          valid = valid-snoc start p.items t.item p.valid t.next;
          told = t.told;
          small = s;
          count = omega arith;
          few = omega arith;
          bound = omega arith;
          bytes = bytes_cut ∙ sym (shifted t.item t.read);
        }
      where
        shifted :
            (i : Item) → item_line i ≡ line_bytes text at e ++ (line_feed ∷ [])
            → flat_map item_line (p.items ++ (i ∷ [])) ++ drop (e + 1) text
            ≡ flat_map item_line p.items ++ (line_bytes text at e ++ (line_feed ∷ drop (e + 1) text))
        shifted i b =
            let rest = drop (e + 1) text in
            ap (λ (x : List ℕ). x ++ rest) (flat_append item_line p.items (i ∷ []))
            ∙ append_assoc (flat_map item_line p.items) (flat_map item_line (i ∷ [])) rest
            ∙ ap (λ (x : List ℕ). flat_map item_line p.items ++ (x ++ rest)) (flat-one item_line i ∙ b)
            ∙ ap (λ (x : List ℕ). flat_map item_line p.items ++ x)
            (append_assoc (line_bytes text at e) (line_feed ∷ []) rest)

    pub bad-here :
        ((i : Item) → Next (end start p.items) i → ¬ (item_line i ≡ line_bytes text at e ++ (line_feed ∷ [])))
        → FirstBad text line
    bad-here n =
        subst (λ (k : ℕ). FirstBad text k) p.count
        (bad-line text p.items (line_bytes text at e) (drop (e + 1) text) p.valid bytes_cut (line_clear text at e h) n)

  pub cut-here : at < length text → Clear text at (length text) → FirstBad text line
  cut-here l clear =
      subst (λ (k : ℕ). FirstBad text k) p.count
      (missing-line text p.items (drop at text) p.valid p.bytes (rest-clear text at clear)
      (λ z. let n = length-drop at text in let k : length (drop at text) ≡ 0 = ap length z in absurd (omega arith)))

  module _ (l : length text ≤ at) where
    nothing_left : drop at text ≡ []
    nothing_left = drop_of_length-le text l

    pub unfinished-here : ¬ (phase_of draft.phase ≡ finished) → FirstBad text line
    unfinished-here n =
        subst (λ (k : ℕ). FirstBad text k) p.count
        (missing-line text p.items (drop at text) p.valid p.bytes
        (λ m. Memᴰ.not-nil (subst (λ (r : List ℕ). Memᴰ line_feed r) nothing_left m))
        (λ z f. n (p.told.phase ∙ f)))

    pub finished-here : phase_of draft.phase ≡ finished → Good text draft
    finished-here f =
        let r = making-of p.items p.valid (sym p.told.phase ∙ f) in
        let e : text ≡ flat_map item_line p.items =
        p.bytes
        ∙ ap (λ (x : List ℕ). flat_map item_line p.items ++ x) nothing_left
        ∙ append-nil (flat_map item_line p.items) in
        let t = text-items r.0 ∙ ap (λ (l : List Item). flat_map item_line l) r.2 in
        record {
          making = r.0;
          form = record { bytes = e ∙ sym t; order = r.1 };
          draft = subst (λ (l : List Item). DraftOf l draft) (sym r.2) p.told;
          small = p.small;
        }
