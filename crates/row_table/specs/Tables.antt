-- What a table of rows holds.
use Rattle.std.specs.Prelude.{ℕ, T, List, map}
use Rattle.std.proofs.Common.{subst}
use Rattle.byte_strings.specs.Bytes.{Bytes, order}
use Rattle.byte_strings.specs.Texts.{text}
use Rattle.ordered_table.specs.Entries.{entries, capacity}
use Rattle.ordered_table.specs.Table.{Ascending}
use Rattle.ordered_table.proofs.Places.{sorted_keys}
use Rattle.row_table.specs.declared.table.RowTable.{RowTable}

abbrev pub rows : RowTable → List Bytes
rows t = map text (entries t.rows)

-- as many rows as there are cells
abbrev pub limit_of : RowTable → ℕ
limit_of t = capacity t.rows

pub rows_ascend : (t : RowTable) → Ascending order (rows t)
rows_ascend t = subst T (sorted_keys text order (entries t.rows)) t.rows.ascending
