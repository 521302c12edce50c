-- What a directory lists, and how many entries it has room for.
use Rattle.std.specs.Prelude.{ℕ, List}
use Rattle.ordered_table.specs.Entries.{entries, capacity}
use Rattle.ordered_table.specs.Table.{Ascending}
use Rattle.entry_directory.specs.declared.directory.Directory.{Directory}
use Rattle.entry_directory.specs.declared.entry.DirectoryEntry.{DirectoryEntry}
use Rattle.entry_directory.specs.Numbers.{by_number}

abbrev pub listed : Directory → List DirectoryEntry
listed d = entries d.entries

abbrev pub capacity_of : Directory → ℕ
capacity_of d = capacity d.entries

pub listed_ascend : (d : Directory) → Ascending by_number (listed d)
listed_ascend d = d.entries.ascending
