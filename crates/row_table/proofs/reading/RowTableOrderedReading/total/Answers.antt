use Rattle.std.proofs.Common.{arith}
use Rattle.storage.proofs.Bare.{total-bare}
use Rattle.row_table.proofs.reading.RowTableOrderedReading.total.Goals as goal

pub returns : goal.returns
returns c = grind (arith, total-bare)
