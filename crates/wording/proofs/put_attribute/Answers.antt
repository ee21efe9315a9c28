-- `wording::put_attribute` meets its contract. Assumes nothing.
use Rattle.std.proofs.Common.{Bor, List, ℕ, arith}
use Rattle.std.proofs.Math.ListN.{get_or-map}
use Rattle.numbers.specs.Put.{Put}
use Rattle.form.specs.Form.{attribute_words, attribute_word}
use Rattle.wording.proofs.Pieces.{attribute-length}
use Rattle.wording.proofs.put_attribute.Goals as goal

pub returns : goal.returns
unfolding attribute_words attribute_word
returns c =
    let a = c.args in
    let p : Put a.text.now c.put_word.new.text a.at (attribute_word a.attribute) c.put_word.result =
    rw (← get_or-map (λ (row : Bor (List ℕ)). row.now)) at c.put_word.ensures in
    (p, omega (arith, p.ends, attribute-length a.attribute))
