-- `text::write` meets its contract. Assumes nothing.
use Rattle.patterns.proofs.InOrder.{read-in-order}
use Rattle.text.proofs.WriteAnswers.{read-short, write-given}
use Rattle.text.proofs.write.Goals as goal

pub give_text-requires : goal.give_text-requires
give_text-requires c = (read-in-order _ _ c.in_ok-read.ensures, read-short _ _ c.in_ok-read.ensures)

pub returns : goal.returns
returns c = write-given _ _ c.in_ok-read.ensures _ _ _ (λ i. (c.type_inv.pattern i).fits) c.give_text.ensures
