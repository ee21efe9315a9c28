-- `index::is_broken` meets its contract. Assumes nothing.
use Rattle.std.proofs.Common.{ap, not, ne_eqb}
use Rattle.index.specs.Index.{index_bytes}
use Rattle.index.proofs.Fields.{broken-length, broken-bits}
use Rattle.index.proofs.is_broken.Goals as goal

pub returns-then-index-ne-INDEX_BYTES : goal.returns-then-index-ne-INDEX_BYTES
returns-then-index-ne-INDEX_BYTES c = rw (broken-length _ c.if-index-ne-INDEX_BYTES.true) (ap not (ne_eqb _ index_bytes c.if-index-ne-INDEX_BYTES.true))

pub returns-else-index-ne-INDEX_BYTES : goal.returns-else-index-ne-INDEX_BYTES
returns-else-index-ne-INDEX_BYTES c = broken-bits _ c.if-index-ne-INDEX_BYTES.false c.byte.result c.byte.ensures
