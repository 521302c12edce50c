use Rattle.std.proofs.Common.{arith}
use Rattle.storage.proofs.Bare.{fetch_held, fetch_absent}
use Rattle.row_chain.specs.Chains.{rows}
use Rattle.row_chain.proofs.file.RowChainOrderedReading.fetch.Goals as goal

pub returns : goal.returns
returns c =
    let held = fetch_held (rows c.args.self.now.linked) c.args.key.now c.args.bytes.now in
    let absent = fetch_absent (rows c.args.self.now.linked) c.args.key.now c.args.bytes.now in
    grind arith
