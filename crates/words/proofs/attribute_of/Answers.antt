-- `words::attribute_of` meets its contract. Assumes nothing.
use Rattle.form.specs.Form.{attribute_words}
use Rattle.words.proofs.attribute_of.Goals as goal

pub returns : goal.returns
unfolding attribute_words
returns c = c.row_of.ensures
