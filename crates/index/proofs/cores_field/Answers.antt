-- `index::cores_field` meets its contract. Assumes nothing.
use native.Mathlib.Omega.{arith}
use Rattle.index.proofs.Fields.{cores-is}
use Rattle.index.proofs.cores_field.Goals as goal

pub returns : goal.returns
returns c = cores-is _ c.byte-first.result c.number8-rest.result c.byte-first.ensures c.number8-rest.ensures
    (omega arith) (omega arith)
