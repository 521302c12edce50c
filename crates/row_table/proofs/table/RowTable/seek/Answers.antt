use Rattle.std.proofs.Common.{arith, refl}
use Rattle.std.proofs.lemmas.List.{take_all}
use Rattle.byte_strings.specs.Bytes.{order}
use Rattle.byte_strings.specs.Texts.{text}
use Rattle.ordered_table.specs.Entries.{entries}
use Rattle.ordered_table.proofs.Places.{searched-keys}
use Rattle.row_table.proofs.Sought.{long_found, long_missed}
use Rattle.row_table.proofs.table.RowTable.seek.Goals as goal

pub returns-then-string-le-LONGEST_ROW : goal.returns-then-string-le-LONGEST_ROW
returns-then-string-le-LONGEST_ROW c =
    rw (c.search-place.ensures.value, searched-keys text order (entries c.args.self.now.rows) c.front_of.result, c.front_of.ensures, take_all 66 c.args.string.now c.if-string-le-LONGEST_ROW.true) refl

pub returns-in-Ok : goal.returns-in-Ok
returns-in-Ok c =
    let t = c.args.self.now in
    let keys = searched-keys text order (entries t.rows) c.front_of.result in
    let found = long_found t c.args.string.now c.if-string-le-LONGEST_ROW.false c.in-Ok.at in
    grind arith

pub returns-in-Err : goal.returns-in-Err
returns-in-Err c =
    let t = c.args.self.now in
    let keys = searched-keys text order (entries t.rows) c.front_of.result in
    let missed = long_missed t c.args.string.now c.if-string-le-LONGEST_ROW.false c.in-Err.at in
    grind arith
