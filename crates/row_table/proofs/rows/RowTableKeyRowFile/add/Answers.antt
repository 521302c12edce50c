use Rattle.std.proofs.Common.{arith}
use Rattle.storage.proofs.Bare.{row_passed}
use Rattle.row_table.proofs.Changes.{not_added, added}
use Rattle.row_table.proofs.rows.RowTableKeyRowFile.add.Goals as goal

pub returns-in_err-insert-clause-value : goal.returns-in_err-insert-clause-value
returns-in_err-insert-clause-value c =
    let ok = row_passed c.args.row.now _ c.in_ok-check_row.ensures in
    let refused = not_added c.args.self.now c.args.row.now c.front_of.result c.front_of.ensures ok.1 ok.0 in
    grind arith

pub returns : goal.returns
returns c =
    let ok = row_passed c.args.row.now _ c.in_ok-check_row.ensures in
    let done = added c.args.self.now c.args.row.now c.front_of.result c.front_of.ensures ok.1 ok.0 in
    grind arith
