use Rattle.std.proofs.Common.{◌+◌, ◌^◌, ◌<◌, arith, rules}
use Rattle.std.proofs.lemmas.List.{length-map, length-take}
use Rattle.byte_strings.specs.Bytes.{order}
use Rattle.byte_strings.specs.Texts.{text}
use Rattle.ordered_table.specs.Entries.{entries}
use Rattle.ordered_table.proofs.Places.{place_lt}
use Rattle.row_table.specs.Tables.{rows}
use Rattle.row_table.proofs.table.RowTable.next_at.Goals as goal

pub overflow_add-result : goal.overflow_add-result
overflow_add-result c =
    let t = c.args.self.now in
    let n = length-map (entries t.rows) text in
    let k = length-take t.rows.used t.rows.cells.now in
    let countable = t.rows.countable in
    let p = place_lt order (rows t) c.args.from.now in
    let found = c.in-Ok-Beyond.ensures in
    let l : c.in-Ok-Beyond.at + 1 < 2 ^ 64 = grind arith in
    search rules
