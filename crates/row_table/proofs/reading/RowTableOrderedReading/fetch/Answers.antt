use Rattle.std.proofs.Common.{arith}
use Rattle.storage.proofs.Bare.{fetch_held, fetch_absent}
use Rattle.row_table.specs.Tables.{rows}
use Rattle.row_table.proofs.reading.RowTableOrderedReading.fetch.Goals as goal

pub returns : goal.returns
returns c =
    let searched = c.seek.ensures in
    let held = fetch_held (rows c.args.self.now) c.args.key.now c.args.bytes.now in
    let absent = fetch_absent (rows c.args.self.now) c.args.key.now c.args.bytes.now in
    grind arith
