-- The latest starts as a new cycle begins: those of a fresh state become those of the state before it. Assumes nothing.
use Rattle.std.proofs.Common.{◌≡◌, sym, ap, subst, ◌∙◌, List, inl, inr, ⊎_elim, ℕ, suc, ◌+◌, ◌≤◌, ◌<◌, max, arith, eqb}
use Rattle.std.proofs.Common.{length, get_or, set, length-set, get_or-set_same, get_or-set_other, eqb-true}
use borrow.Author.Tests.{eqb-false}
use Rattle.numbers.proofs.Cases.{by-test, by_order}
use Rattle.rule.specs.Promises.{most_bindings}
use Rattle.states.specs.States.{fresh_mark}
use Rattle.sweep.specs.Starts.{row_places, place_of, RowFolded, FreshFolded, Settles, Settled}
use Rattle.sweep.specs.Starts.FreshFolded.{calm, fresh}
use Rattle.sweep.specs.Starts.Settles.{empty, stays, folds}
use Rattle.sweep.proofs.Starts.{same_place, max-one}

-- ## One state

module _ (old : List ℕ) (b : ℕ) (mid : List ℕ) (done p q x : ℕ) (f : RowFolded old b mid done) (room : done < row_places)
    (e : p ≡ place_of done b) (g : q ≡ place_of done (suc b)) (inside : q < length mid) where
  new : List ℕ
  new = set (set mid p x) q 0

  -- what the places had before
  had-into : get_or mid p 0 ≡ get_or old p 0
  had-into = f.others p (λ k l z. omega arith) (λ k l z. omega arith)

  had-behind : get_or mid q 0 ≡ get_or old q 0
  had-behind = f.others q (λ k l z. omega arith) (λ k l z. omega arith)

  into : get_or new p 0 ≡ x
  unfolding new
  into = get_or-set_other (set mid p x) q p 0 0 (λ z. omega arith) ∙ get_or-set_same mid p x 0 (omega arith)

  behind : get_or new q 0 ≡ 0
  unfolding new
  behind = let size = length-set mid p x in get_or-set_same (set mid p x) q 0 0 (omega arith)

  other : (place : ℕ) → (place ≡ p → ⊥) → (place ≡ q → ⊥) → get_or new place 0 ≡ get_or mid place 0
  unfolding new
  other place a c = get_or-set_other (set mid p x) q place 0 0 c ∙ get_or-set_other mid p place x 0 a

  pub folded_more : x ≡ max (get_or mid p 0) (get_or mid q 0) → RowFolded old b (set (set mid p x) q 0) (done + 1)
  unfolding new
  folded_more larger =
      record {
        size = length-set (set mid p x) q 0 ∙ length-set mid p x ∙ f.size;
        above = λ k l.
            by_order k done
            (λ m. let s = other (place_of k b) (λ z. omega arith) (λ z. omega arith) in let h = f.above k m in omega arith)
            (λ m.
            let z : p ≡ place_of k b = omega arith in
            subst (λ (y : ℕ). get_or old y 0 ≤ get_or (set (set mid p x) q 0) y 0) z (let i = into in let h = had-into in omega arith));
        here = λ k l.
            by_order k done
            (λ m. let s = other (place_of k b) (λ z. omega arith) (λ z. omega arith) in let h = f.here k m in omega arith)
            (λ m.
            let z : p ≡ place_of k b = omega arith in
            let y : q ≡ place_of k (suc b) = omega arith in
            subst (λ (w : ℕ). get_or old w 0 ≤ get_or (set (set mid p x) q 0) (place_of k b) 0) y
            (subst (λ (w : ℕ). get_or old q 0 ≤ get_or (set (set mid p x) q 0) w 0) z (let i = into in let h = had-behind in omega arith)));
        only = λ k l.
            by_order k done
            (λ m.
            let s = other (place_of k b) (λ z. omega arith) (λ z. omega arith) in
            ⊎_elim (λ h. inl (s ∙ h)) (λ h. inr (s ∙ h)) (f.only k m))
            (λ m.
            let z : p ≡ place_of k b = omega arith in
            let y : q ≡ place_of k (suc b) = omega arith in
            let at = sym (ap (λ (w : ℕ). get_or (set (set mid p x) q 0) w 0) z) ∙ into in
            ⊎_elim
            (λ h. inl (at ∙ h ∙ had-into ∙ ap (λ (w : ℕ). get_or old w 0) z))
            (λ h. inr (at ∙ h ∙ had-behind ∙ ap (λ (w : ℕ). get_or old w 0) y))
            (max-one (get_or mid p 0) (get_or mid q 0) x larger));
        gone = λ k l.
            by_order k done
            (λ m. other (place_of k (suc b)) (λ z. omega arith) (λ z. omega arith) ∙ f.gone k m)
            (λ m.
            let y : q ≡ place_of k (suc b) = omega arith in
            sym (ap (λ (w : ℕ). get_or (set (set mid p x) q 0) w 0) y) ∙ behind);
        others = λ place h i.
            other place (λ z. h done (omega arith) (z ∙ e)) (λ z. i done (omega arith) (z ∙ g))
            ∙ f.others place (λ k l. h k (omega arith)) (λ k l. i k (omega arith));
      }

-- ## All of them

module _ (old states mid : List ℕ) (b done : ℕ) (e : done ≡ suc b) (s : Settled old states mid done) where
  settles-later :
      (k at start : ℕ) → (at ≡ done → get_or states at 0 < fresh_mark) → Settles old states done k at start
      → Settles old states (done + 1) k at start
  settles-later k at start plain (empty z) = empty z
  settles-later k at start plain (stays is none) =
      stays is (λ a l. by_order at done (none a) (λ m. plain (omega arith)))
  settles-later k at start plain (folds l f is) = folds (omega arith) f is

  -- the next is not fresh
  settled-calm : get_or states (suc b) 0 < fresh_mark → Settled old states mid (done + 1)
  settled-calm plain =
      record {
        size = s.size;
        ahead = λ k at a l. s.ahead k at a (omega arith);
        above = s.above;
        here = λ k at a l f.
            by_order (suc at) done
            (λ m. s.here k at a m f)
            (λ m.
            let z : suc at ≡ suc b = omega arith in
            let same = ap (λ (x : ℕ). get_or states x 0) z in
            absurd (omega arith));
        only = λ k at a.
            settles-later k at (get_or mid (place_of k at) 0)
            (λ z. subst (λ (x : ℕ). get_or states x 0 < fresh_mark) (sym (z ∙ e)) plain)
            (s.only k at a);
      }

  module _ (new : List ℕ) (is : fresh_mark ≤ get_or states (suc b) 0) (f : RowFolded mid b new row_places) where
    apart :
        (k at : ℕ) → k ≤ most_bindings → (at ≡ b → ⊥) → (at ≡ suc b → ⊥)
        → get_or new (place_of k at) 0 ≡ get_or mid (place_of k at) 0
    apart k at a other behind =
        f.others (place_of k at)
        (λ m l z. other (same_place k at m b a (omega arith) z).0)
        (λ m l z. behind (same_place k at m (suc b) a (omega arith) z).0)

    by_place :
        (P : ℕ → Type 0) (at : ℕ) → P b → P (suc b) → ((at ≡ b → ⊥) → (at ≡ suc b → ⊥) → P at) → P at
    by_place P at here next other =
        by-test (eqb b at)
        (λ z. subst P (eqb-true b at z) here)
        (λ z.
        by-test (eqb (suc b) at)
        (λ y. subst P (eqb-true (suc b) at y) next)
        (λ y. other (λ w. eqb-false b at z (sym w)) (λ w. eqb-false (suc b) at y (sym w))))

    settled-fresh : Settled old states new (done + 1)
    settled-fresh =
        record {
          size = f.size ∙ s.size;
          ahead = λ k at a l. apart k at a (λ z. omega arith) (λ z. omega arith) ∙ s.ahead k at a (omega arith);
          above = λ k at a.
              by_place (λ (x : ℕ). get_or states x 0 < fresh_mark → get_or old (place_of k x) 0 ≤ get_or new (place_of k x) 0) at
              (λ l. let h = s.above k b a l in let i = f.above k (omega arith) in omega arith)
              (λ l. absurd (omega arith))
              (λ g h l. let same = apart k at a g h in let i = s.above k at a l in omega arith);
          here = λ k at a.
              by_place (λ (x : ℕ). suc x < done + 1 → fresh_mark ≤ get_or states (suc x) 0 → get_or old (place_of k (suc x)) 0 ≤ get_or new (place_of k x) 0) at
              (λ l g. let h = s.ahead k (suc b) a (omega arith) in let i = f.here k (omega arith) in omega arith)
              (λ l. absurd (omega arith))
              (λ g h l i. let same = apart k at a g h in let j = s.here k at a (omega arith) i in omega arith);
          only = λ k at a.
              by_place (λ (x : ℕ). Settles old states (done + 1) k x (get_or new (place_of k x) 0)) at
              (⊎_elim
              (λ h.
              subst (Settles old states (done + 1) k b) (sym h)
              (settles-later k b (get_or mid (place_of k b) 0) (λ z. absurd (omega arith)) (s.only k b a)))
              (λ h. folds (omega arith) is (h ∙ s.ahead k (suc b) a (omega arith)))
              (f.only k (omega arith)))
              (empty (f.gone k (omega arith)))
              (λ g h.
              subst (Settles old states (done + 1) k at) (sym (apart k at a g h))
              (settles-later k at (get_or mid (place_of k at) 0) (λ z. absurd (h (z ∙ e))) (s.only k at a)));
        }

  -- one state more
  pub settled-more : (new : List ℕ) → FreshFolded mid states b new → Settled old states new (done + 1)
  settled-more after (calm plain is) = subst (λ (x : List ℕ). Settled old states x (done + 1)) (sym is) (settled-calm plain)
  settled-more after (fresh is f) = settled-fresh after is f
