use Rattle.std.proofs.Common.{arith}
use Rattle.ordered_table.specs.Entries.{entries}
use Rattle.ordered_table.proofs.Places.{find-searched}
use Rattle.ordered_table.proofs.table.OrderedTable.get.Goals as goal

pub returns-in_err-at : goal.returns-in_err-at
returns-in_err-at g c =
    let t = c.args.self.now in
    let probe = c.args.probe.now in
    let found = find-searched g.met.E.Ord.total (entries t) probe probe t.ascending in
    grind arith

pub returns : goal.returns
returns g c =
    let t = c.args.self.now in
    let found = find-searched g.met.E.Ord.total (entries t) c.args.probe.now c.index-as_slice-at.result t.ascending in
    grind arith
