use Rattle.storage.specs.Rows.{keys_bare}
use Rattle.row_chain.specs.Chains.{rows}
use Rattle.row_chain.proofs.file.RowChainOrderedReading.find.Goals as goal

pub returns : goal.returns
returns c =
    rw (keys_bare (rows c.args.self.now.linked), ← c.next.ensures) c.fill_found.ensures
