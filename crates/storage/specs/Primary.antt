-- The refusals of a primary file, in their order.
--     record_number     the number that a key's bytes make, most significant first
--     number_key        a record number as a key of four bytes
--     no_room           placing is refused for want of room
use Rattle.std.specs.Prelude.{◌≡◌, ℕ, ◌+◌, ◌*◌, ◌/◌, ◌%◌, ◌^◌, Bool, true, false, not, ◌&&◌, ◌||◌, List, [], ◌∷◌, length, is_some, Some, ◌==◌, nat_le, nat_lt}
use Rattle.std.specs.List.{slice_get}
use Rattle.std.specs.Option.{unwrap_or}
use Rattle.byte_strings.specs.Bytes.{Bytes, same}
use Rattle.storage.specs.declared.faults.PrimaryFault.{PrimaryFault}
use Rattle.storage.specs.declared.faults.PrimaryFault.TheVariants.{AlreadyExists, NotFound, IllegalCount, FileFull}
use Rattle.storage.specs.declared.shape.FileKind.{FileKind}
use Rattle.storage.specs.declared.shape.FileKind.TheVariants.{Relative, EntrySequenced, KeySequenced}
use Rattle.storage.specs.declared.shape.PrimaryShape.{PrimaryShape}
use Rattle.storage.specs.Pairs.{total, under, placed, replaced}

abbrev pub is_relative : FileKind → Bool
is_relative Relative = true
is_relative EntrySequenced = false
is_relative KeySequenced = false

abbrev pub is_entry_sequenced : FileKind → Bool
is_entry_sequenced Relative = false
is_entry_sequenced EntrySequenced = true
is_entry_sequenced KeySequenced = false

unfoldable pub number_from : ℕ → Bytes → ℕ
number_from n [] = n
number_from n (b ∷ bs) = number_from (n * 256 + b) bs

abbrev pub record_number : Bytes → ℕ
record_number key = number_from 0 key

abbrev pub number_key : ℕ → Bytes
number_key n = (n / 2 ^ 24) % 256 ∷ (n / 2 ^ 16) % 256 ∷ (n / 2 ^ 8) % 256 ∷ n % 256 ∷ []

-- a record has at least one byte and at most the longest record's
abbrev pub wrong_length : PrimaryShape → Bytes → Bool
wrong_length s bytes = length bytes == 0 || nat_lt s.max_record_len (length bytes)

abbrev pub too_many_bytes : PrimaryShape → List (Bytes × Bytes) → Bool
too_many_bytes s ps = nat_lt s.byte_limit (total ps)

-- one record more passes a limit, or in kind 1 its number is not below the record limit
abbrev pub no_room : PrimaryShape → List (Bytes × Bytes) → Bytes → Bytes → Bool
no_room s ps key bytes = nat_le s.record_limit (length ps) || too_many_bytes s (placed key bytes ps) || (is_relative s.kind && nat_le s.record_limit (record_number key))

abbrev pub place_checks : PrimaryShape → List (Bytes × Bytes) → Bytes → Bytes → List (Bool × PrimaryFault)
place_checks s ps key bytes =
    (not (length key == s.key_len) || wrong_length s bytes || (is_entry_sequenced s.kind && not (same key (number_key (length ps)))), IllegalCount)
    ∷ (is_some (under key ps), AlreadyExists)
    ∷ (nat_le s.record_limit (length ps) || too_many_bytes s (placed key bytes ps) || (is_relative s.kind && nat_le s.record_limit (record_number key)), FileFull)
    ∷ []

-- the last of these is the test for room
abbrev pub PlacingTestsRoom : Type 0
PlacingTestsRoom = (s : PrimaryShape) (ps : List (Bytes × Bytes)) (key bytes : Bytes) → slice_get (place_checks s ps key bytes) 2 ≡ Some (no_room s ps key bytes, FileFull)

abbrev pub replace_checks : PrimaryShape → List (Bytes × Bytes) → Bytes → Bytes → List (Bool × PrimaryFault)
replace_checks s ps key bytes =
    (not (is_some (under key ps)), NotFound)
    ∷ (wrong_length s bytes || (is_entry_sequenced s.kind && not (length bytes == length (unwrap_or (under key ps) []))), IllegalCount)
    ∷ (too_many_bytes s (replaced key bytes ps), FileFull)
    ∷ []

abbrev pub remove_checks : PrimaryShape → List (Bytes × Bytes) → Bytes → List (Bool × PrimaryFault)
remove_checks s ps key =
    (not (is_some (under key ps)), NotFound)
    ∷ (is_entry_sequenced s.kind, IllegalCount)
    ∷ []
