-- The number, the layer and the key of each refusal.
use Rattle.std.specs.Prelude.{ℕ}
use Rattle.storage.specs.Faults.{primary_number, row_number}
use Rattle.file_rules.specs.declared.fault.CallFault.{CallFault}
use Rattle.file_rules.specs.declared.fault.CallFault.TheVariants.{EndOfFile, NotAllowed, FileInUse, NotOpen, IllegalCount, BufferBounds, NoLockSpace, InvalidKey, Locked, Primary, Rows, UniqueClash}

abbrev pub number_of : CallFault → ℕ
number_of EndOfFile = 1
number_of NotAllowed = 2
number_of FileInUse = 12
number_of NotOpen = 16
number_of IllegalCount = 21
number_of BufferBounds = 22
number_of NoLockSpace = 31
number_of InvalidKey = 46
number_of Locked = 73
number_of (Primary fault) = primary_number fault
number_of (Rows fault) = row_number fault
number_of (UniqueClash path) = 10

-- 1 is the call, 2 the primary file, 3 the key rows
abbrev pub layer_of : CallFault → ℕ
layer_of EndOfFile = 1
layer_of NotAllowed = 1
layer_of FileInUse = 1
layer_of NotOpen = 1
layer_of IllegalCount = 1
layer_of BufferBounds = 1
layer_of NoLockSpace = 1
layer_of InvalidKey = 1
layer_of Locked = 1
layer_of (Primary fault) = 2
layer_of (Rows fault) = 3
layer_of (UniqueClash path) = 3

-- the path number of a unique value that clashes, else 0
abbrev pub key_of : CallFault → ℕ
key_of EndOfFile = 0
key_of NotAllowed = 0
key_of FileInUse = 0
key_of NotOpen = 0
key_of IllegalCount = 0
key_of BufferBounds = 0
key_of NoLockSpace = 0
key_of InvalidKey = 0
key_of Locked = 0
key_of (Primary fault) = 0
key_of (Rows fault) = 0
key_of (UniqueClash path) = path
