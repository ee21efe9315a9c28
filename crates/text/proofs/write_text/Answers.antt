-- `text::write_text` meets its promise. Assumes nothing.
use Rattle.text.proofs.write_text.Goals as goal

pub returns : goal.returns
returns c = rw (c.answered.ensures.0, c.answered.ensures.1) c.write.ensures
