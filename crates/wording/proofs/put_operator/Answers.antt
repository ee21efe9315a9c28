-- `wording::put_operator` meets its contract. Assumes nothing.
use Rattle.std.proofs.Common.{Bor, List, [], ℕ, get_or, ap, length, arith}
use Rattle.std.proofs.Math.ListN.{get_or-map}
use Rattle.numbers.specs.Put.{Put}
use Rattle.form.specs.Form.{operator_words}
use Rattle.wording.proofs.Pieces.{operator_texts, operator-length, operator-row}
use Rattle.wording.proofs.put_operator.Goals as goal

pub returns : goal.returns
unfolding operator_words
returns c =
    let a = c.args in
    let p : Put a.text.now c.put_word.new.text a.at (get_or operator_texts a.operator []) c.put_word.result =
    rw (← get_or-map (λ (row : Bor (List ℕ)). row.now)) at c.put_word.ensures in
    let e = operator-row a.operator c.requires.0 in
    (rw (← e) p, omega (arith, p.ends, operator-length a.operator, ap length e))
