-- The bounds of what a primary file states for life.
use Rattle.std.specs.Prelude.{ℕ, Bool, not, ◌||◌, List, [], ◌∷◌, ◌==◌, nat_lt}
use Rattle.storage.specs.declared.faults.PrimaryFault.{PrimaryFault}
use Rattle.storage.specs.declared.faults.PrimaryFault.TheVariants.{IllegalCount}
use Rattle.storage.specs.declared.shape.FileKind.{FileKind}
use Rattle.storage.specs.declared.shape.FileKind.TheVariants.{Relative, EntrySequenced, KeySequenced}
use Rattle.storage.specs.declared.shape.PrimaryShape.{PrimaryShape}

abbrev pub outside : ℕ → ℕ → ℕ → Bool
outside least most n = nat_lt n least || nat_lt most n

-- a record number has four bytes, a key field of a record 1 to 32
abbrev pub wrong_key_length : FileKind → ℕ → Bool
wrong_key_length Relative n = not (n == 4)
wrong_key_length EntrySequenced n = not (n == 4)
wrong_key_length KeySequenced n = outside 1 32 n

-- the longest record has 1 to 255 bytes; the limits are 1 to 4,096 records and 1 to 1,044,480 bytes
abbrev pub wrong_shape : PrimaryShape → Bool
wrong_shape s =
    wrong_key_length s.kind s.key_len
    || outside 1 255 s.max_record_len
    || outside 1 4096 s.record_limit
    || outside 1 1044480 s.byte_limit

abbrev pub shape_checks : PrimaryShape → List (Bool × PrimaryFault)
shape_checks s = (wrong_shape s, IllegalCount) ∷ []
