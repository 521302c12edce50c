-- The number of each refusal of the files below.
use Rattle.std.specs.Prelude.{ℕ}
use Rattle.ordered_table.specs.declared.fault.InsertFault.{InsertFault}
use Rattle.ordered_table.specs.declared.fault.InsertFault.TheVariants as insert
use Rattle.storage.specs.declared.faults.PrimaryFault.{PrimaryFault}
use Rattle.storage.specs.declared.faults.PrimaryFault.TheVariants as primary
use Rattle.storage.specs.declared.faults.RowFault.{RowFault}
use Rattle.storage.specs.declared.faults.RowFault.TheVariants as row

abbrev pub absent_number : ℕ
absent_number = 11

abbrev pub primary_number : PrimaryFault → ℕ
primary_number primary.AlreadyExists = 10
primary_number primary.NotFound = 11
primary_number primary.IllegalCount = 21
primary_number primary.FileFull = 45

abbrev pub row_number : RowFault → ℕ
row_number row.AlreadyExists = 10
row_number row.NotFound = 11
row_number row.IllegalCount = 21
row_number row.FileFull = 45

-- what a refused insertion into the ordered table means for a row
abbrev pub row_fault : InsertFault → RowFault
row_fault insert.Present = row.AlreadyExists
row_fault insert.Full = row.FileFull
