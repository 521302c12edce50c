use Rattle.std.proofs.Common.{Some, ap}
use Rattle.std.proofs.lemmas.Option.{slice_get-map, slice_get-get_or, slice_get_past}
use Rattle.storage.proofs.Places.{next-at}
use Rattle.row_table.specs.Tables.{rows, rows_ascend}
use Rattle.row_table.proofs.table.RowTable.next.Goals as goal

pub returns-in_err-row : goal.returns-in_err-row
returns-in_err-row c =
    let t = c.args.self.now in
    rw (c.from_residual.ensures, next-at c.args.mark c.args.from.now (rows t) (rows_ascend t), ← c.next_at.ensures, slice_get-map, ← c.as_slice.ensures, slice_get_past _ _ c.in_err-row.ensures.lookup.3)

pub returns : goal.returns
returns c =
    let t = c.args.self.now in
    rw (next-at c.args.mark c.args.from.now (rows t) (rows_ascend t), ← c.next_at.ensures, slice_get-map, ← c.as_slice.ensures, slice_get-get_or _ _ c.in_ok-row.row.now c.in_ok-row.ensures.lookup.3.0, ← c.in_ok-row.ensures.lookup.1) (ap Some c.as_slice-2.ensures)
