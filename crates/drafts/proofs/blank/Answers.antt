-- `drafts::blank` meets its contract. Assumes nothing.
use Rattle.drafts.proofs.Behind.{blank-small, blank-told}
use Rattle.drafts.proofs.blank.Goals as goal

pub returns : goal.returns
returns c = (blank-small, blank-told)
