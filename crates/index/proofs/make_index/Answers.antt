-- `index::make_index` meets its contract: the slice is judged first, and cleared in every case. Assumes nothing.
use Rattle.std.proofs.Common.{sym, ap, ◌∙◌, length}
use lib.ListN.{length-replicate}
use Rattle.index.proofs.Promises.{filled-made}
use Rattle.index.proofs.make_index.Goals as goal

pub returns : goal.returns
returns c = let e = ap length c.clear.ensures ∙ length-replicate (length c.args.index.now) 0 in
    rw c.from-2.ensures
    (filled-made c.args.block.now (length c.args.index.now) c.clear.new.bytes _ _ (sym e ∙ c.if-index-ne-INDEX_BYTES.false) c.clear.ensures c.fill.ensures)
