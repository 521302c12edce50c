-- The entries of a table, how many it has cells for, and the entries after an insertion and a removal.
use Rattle.std.specs.Prelude.{ℕ, List, length, take, Some, None, Ok, Err, Option, Result}
use Rattle.std.specs.List.{insert, remove}
use Rattle.ordered_table.specs.declared.fault.InsertFault.{InsertFault}
use Rattle.ordered_table.specs.declared.table.OrderedTable.{OrderedTable}

module _ {E : Type 0} {ord : _} {eq : _} {partial : _} where
  abbrev pub entries : OrderedTable E ord eq partial → List E
  entries t = take t.used t.cells.now

  abbrev pub capacity : OrderedTable E ord eq partial → ℕ
  capacity t = length t.cells.now

module _ {E : Type 0} where
  abbrev pub entries_after_insert : Result ℕ InsertFault → List E → E → List E
  entries_after_insert (Ok at) es e = insert es at e
  entries_after_insert (Err fault) es e = es

  abbrev pub entries_after_remove : Option ℕ → List E → List E
  entries_after_remove (Some at) es = remove es at
  entries_after_remove None es = es
