-- Text put behind text. Assumes nothing.
use Rattle.std.proofs.Common.{◌≡◌, refl, sym, ap, ◌∙◌, List, [], ◌∷◌, ◌++◌, append_assoc, append-nil, ℕ, ◌+◌, ◌<◌, add-one, arith, length, take, get_or, set, length-append, length-set, take-suc, take-suc-set}
use Rattle.numbers.specs.Put.{Put}

pub put-none : (text : List ℕ) (at : ℕ) → Put text text at [] at
put-none text at = record { wrote = sym (append-nil (take at text)); ends = omega arith; kept = refl }

pub put_byte : (text : List ℕ) (at byte : ℕ) → at < length text → Put text (set text at byte) at (byte ∷ []) (at + 1)
put_byte text at byte h =
    record {
      wrote = ap (λ (j : ℕ). take j (set text at byte)) (add-one at) ∙ take-suc-set text at byte h;
      ends = refl;
      kept = length-set text at byte;
    }

pub put_then :
    {a b c : List ℕ} {i j k : ℕ} {x y : List ℕ} → Put a b i x j → Put b c j y k → Put a c i (x ++ y) k
put_then {a} {b} {c} {i} {j} {k} {x} {y} p q =
    record {
      wrote = q.wrote ∙ ap (λ (l : List ℕ). l ++ y) p.wrote ∙ append_assoc (take i a) x y;
      ends = simp length-append (omega (arith, p.ends, q.ends));
      kept = q.kept ∙ p.kept;
    }

-- a turn of the loop that puts a word: one byte more of it
pub put-word-turn :
    (start text word : List ℕ) (at i : ℕ) → i < length word → at + i < length text
    → Put start text at (take i word) (at + i)
    → Put start (set text (at + i) (get_or word i 0)) at (take (i + 1) word) (at + (i + 1))
put-word-turn start text word at i h k p =
    let e : take (i + 1) word ≡ take i word ++ (get_or word i 0 ∷ []) = ap (λ (j : ℕ). take j word) (add-one i) ∙ take-suc word i 0 h in
    let f : at + (i + 1) ≡ at + i + 1 = omega arith in
    rw (e, f) (put_then p (put_byte text (at + i) (get_or word i 0) k))
