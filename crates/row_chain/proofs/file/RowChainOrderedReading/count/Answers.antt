use Rattle.std.proofs.Common.{arith}
use Rattle.storage.proofs.Bare.{length-bare}
use Rattle.row_chain.proofs.Seats.{length-rows}
use Rattle.row_chain.proofs.file.RowChainOrderedReading.count.Goals as goal

pub returns : goal.returns
returns c = let n = length-rows c.args.self.now.linked in grind (arith, length-bare)
