-- Which checks concern which call: of the one list, each call meets just those named here, in that order.
use Rattle.std.specs.Prelude.{◌≡◌, ℕ, Bool, List, [], ◌∷◌}
use Rattle.byte_strings.specs.Bytes.{Bytes}
use Rattle.storage.specs.Checks.{first}
use Rattle.file_rules.specs.Calls.{Call, OPEN, CLOSE, KEYPOSITION, READ, READUPDATE, WRITE, WRITEUPDATE, LOCKFILE, UNLOCKFILE, LOCKREC, UNLOCKREC, LOCKINFO}
use Rattle.file_rules.specs.Descriptions.{Description}
use Rattle.file_rules.specs.Files.{PlainFile}
use Rattle.file_rules.specs.Refusals.{Check, number_check, access_check, path_check, argument_check, buffer_check, use_check, current_key_check, file_lock_check, subset_check, key_lock_check, record_check, lock_space_check, length_check, key_check, unique_check, record_room_check, row_room_check, tested, refusal}

-- the call is refused by the first of these that holds, and by nothing else
abbrev pub MeetsOnly : Description → PlainFile → Call → List Check → Type 0
MeetsOnly d s c ts = refusal d s c ≡ first (tested d s c ts)

pub record OwnChecks (d : Description) (s : PlainFile) (n : ℕ) : Type 0 where
  pub open_meets : (a e : ℕ) → MeetsOnly d s (OPEN n a e) (number_check ∷ argument_check ∷ use_check ∷ [])
  pub close_meets : MeetsOnly d s (CLOSE n) (number_check ∷ [])
  pub keyposition_meets : (p m : ℕ) (k : Bool) (c : ℕ) (v : Bytes) → MeetsOnly d s (KEYPOSITION n p m k c v) (number_check ∷ path_check ∷ argument_check ∷ [])
  pub read_meets : (c : ℕ) (b : Bytes) → MeetsOnly d s (READ n c b)
      (number_check ∷ access_check ∷ buffer_check ∷ file_lock_check ∷ subset_check ∷ key_lock_check ∷ [])
  pub readupdate_meets : (c : ℕ) (b : Bytes) → MeetsOnly d s (READUPDATE n c b)
      (number_check ∷ access_check ∷ buffer_check ∷ current_key_check ∷ file_lock_check ∷ key_lock_check ∷ record_check ∷ [])
  pub write_meets : (c : ℕ) (b : Bytes) → MeetsOnly d s (WRITE n c b)
      (number_check ∷ access_check ∷ argument_check ∷ buffer_check ∷ current_key_check ∷ file_lock_check ∷ key_lock_check
      ∷ key_check ∷ unique_check ∷ record_room_check ∷ row_room_check ∷ [])
  pub writeupdate_meets : (c : ℕ) (b : Bytes) → MeetsOnly d s (WRITEUPDATE n c b)
      (number_check ∷ access_check ∷ argument_check ∷ buffer_check ∷ current_key_check ∷ file_lock_check ∷ key_lock_check
      ∷ record_check ∷ length_check ∷ unique_check ∷ record_room_check ∷ row_room_check ∷ [])
  pub lockfile_meets : MeetsOnly d s (LOCKFILE n) (number_check ∷ file_lock_check ∷ [])
  pub unlockfile_meets : MeetsOnly d s (UNLOCKFILE n) (number_check ∷ [])
  pub lockrec_meets : MeetsOnly d s (LOCKREC n)
      (number_check ∷ current_key_check ∷ file_lock_check ∷ key_lock_check ∷ record_check ∷ lock_space_check ∷ [])
  pub unlockrec_meets : MeetsOnly d s (UNLOCKREC n) (number_check ∷ current_key_check ∷ [])
  pub lockinfo_meets : (b : Bytes) → MeetsOnly d s (LOCKINFO n b) (number_check ∷ buffer_check ∷ [])

abbrev pub CallsMeetOwnChecks : Type 0
CallsMeetOwnChecks = (d : Description) (s : PlainFile) (n : ℕ) → OwnChecks d s n
