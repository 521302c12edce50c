-- The refusals of a call, as one list in checking order: each a test and the fault that it answers, which has the number,
-- the layer and the key.
use Rattle.std.specs.Prelude.{Bool, ◌||◌, List, [], ◌∷◌, is_some, Option}
use Rattle.std.specs.Option.{unwrap_or}
use Rattle.storage.specs.declared.faults.PrimaryFault.TheVariants as primary
use Rattle.storage.specs.declared.faults.RowFault.TheVariants as row
use Rattle.storage.specs.Checks.{first}
use Rattle.file_rules.specs.declared.fault.CallFault.{CallFault}
use Rattle.file_rules.specs.declared.fault.CallFault.TheVariants.{EndOfFile, NotAllowed, FileInUse, NotOpen, IllegalCount, BufferBounds, NoLockSpace, InvalidKey, Locked, Primary, Rows, UniqueClash}
use Rattle.file_rules.specs.Calls.{Call}
use Rattle.file_rules.specs.Checks.{not_open, not_allowed, no_such_path, bad_argument, short_buffer, in_use, no_current_key, alters_key, file_locked, records_locked, subset_empty, key_locked, no_record, no_lock_space, length_changes, key_present, clash, no_record_room, no_row_room}
use Rattle.file_rules.specs.Descriptions.{Description}
use Rattle.file_rules.specs.Files.{PlainFile}

abbrev pub Check : Type 0
Check = Description → PlainFile → Call → Bool × CallFault

abbrev pub number_check : Check
number_check d s c = (not_open s c, NotOpen)

abbrev pub access_check : Check
access_check d s c = (not_allowed s c, NotAllowed)

abbrev pub path_check : Check
path_check d s c = (no_such_path d c, InvalidKey)

abbrev pub argument_check : Check
argument_check d s c = (bad_argument d c, IllegalCount)

abbrev pub buffer_check : Check
buffer_check d s c = (short_buffer s c, BufferBounds)

abbrev pub use_check : Check
use_check d s c = (in_use s c, FileInUse)

abbrev pub current_key_check : Check
current_key_check d s c = (no_current_key d s c || alters_key d s c, InvalidKey)

abbrev pub file_lock_check : Check
file_lock_check d s c = (file_locked s c || records_locked s c, Locked)

abbrev pub subset_check : Check
subset_check d s c = (subset_empty d s c, EndOfFile)

abbrev pub key_lock_check : Check
key_lock_check d s c = (key_locked d s c, Locked)

abbrev pub record_check : Check
record_check d s c = (no_record d s c, Primary primary.NotFound)

abbrev pub lock_space_check : Check
lock_space_check d s c = (no_lock_space d s c, NoLockSpace)

abbrev pub length_check : Check
length_check d s c = (length_changes d s c, Primary primary.IllegalCount)

abbrev pub key_check : Check
key_check d s c = (key_present d s c, Primary primary.AlreadyExists)

abbrev pub unique_check : Check
unique_check d s c = (is_some (clash d s c), UniqueClash (unwrap_or (clash d s c) 0))

abbrev pub record_room_check : Check
record_room_check d s c = (no_record_room d s c, Primary primary.FileFull)

abbrev pub row_room_check : Check
row_room_check d s c = (no_row_room d s c, Rows row.FileFull)

abbrev pub checks : List Check
checks =
    number_check
    ∷ access_check
    ∷ path_check
    ∷ argument_check
    ∷ buffer_check
    ∷ use_check
    ∷ current_key_check
    ∷ file_lock_check
    ∷ subset_check
    ∷ key_lock_check
    ∷ record_check
    ∷ lock_space_check
    ∷ length_check
    ∷ key_check
    ∷ unique_check
    ∷ record_room_check
    ∷ row_room_check
    ∷ []

abbrev pub tested : Description → PlainFile → Call → List Check → List (Bool × CallFault)
tested d s c [] = []
tested d s c (t ∷ ts) = t d s c ∷ tested d s c ts

unfoldable pub refusal : Description → PlainFile → Call → Option CallFault
refusal d s c = first (tested d s c checks)
