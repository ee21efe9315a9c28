-- `words::operator_of` meets its contract. Assumes nothing.
use Rattle.form.specs.Form.{operator_words}
use Rattle.words.proofs.operator_of.Goals as goal

pub returns : goal.returns
unfolding operator_words
returns c = c.row_of.ensures
