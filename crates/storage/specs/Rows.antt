-- Rows as pairs without bytes, and the refusals of a key-row file, in their order.
use Rattle.std.specs.Prelude.{◌≡◌, ℕ, Bool, not, ◌||◌, List, [], ◌∷◌, ◌++◌, map, length, is_some, ◌==◌, nat_le, nat_lt, refl}
use Rattle.byte_strings.specs.Bytes.{Bytes}
use Rattle.storage.specs.declared.faults.RowFault.{RowFault}
use Rattle.storage.specs.declared.faults.RowFault.TheVariants.{AlreadyExists, NotFound, IllegalCount, FileFull}
use Rattle.storage.specs.Pairs.{Ascending, keys, under}

abbrev pub bare : List Bytes → List (Bytes × Bytes)
bare rows = map (λ row. (row, [])) rows

pub keys_bare : (rows : List Bytes) → keys (bare rows) ≡ rows
keys_bare [] = refl
keys_bare (row ∷ rows) = λ t. row ∷ keys_bare rows t

pub bare_ascending : (rows : List Bytes) → Ascending rows → Ascending (keys (bare rows))
bare_ascending rows up = rw (keys_bare rows) up

-- a row has 1 to 66 bytes
abbrev pub row_checks : Bytes → List (Bool × RowFault)
row_checks row = (length row == 0 || nat_lt 66 (length row), IllegalCount) ∷ []

abbrev pub add_checks : ℕ → List (Bytes × Bytes) → Bytes → List (Bool × RowFault)
add_checks limit ps row =
    row_checks row
    ++ (is_some (under row ps), AlreadyExists)
    ∷ (nat_le limit (length ps), FileFull)
    ∷ []

abbrev pub drop_checks : List (Bytes × Bytes) → Bytes → List (Bool × RowFault)
drop_checks ps row = (not (is_some (under row ps)), NotFound) ∷ []

-- a row limit is 1 to 16,384, and no more than the memory holds
abbrev pub limit_checks : ℕ → ℕ → List (Bool × RowFault)
limit_checks limit held = (nat_lt limit 1 || nat_lt 16384 limit || nat_lt held limit, IllegalCount) ∷ []
