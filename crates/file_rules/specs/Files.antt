-- The state of the plain file.
--     entry_of     the open entry of a file number, if it is open
--     own          the same, where it is known to be open
use Rattle.std.specs.Prelude.{ℕ, zero, suc, pred, Bool, true, false, List, [], replicate, None, Option, slice_index_or, slice_set}
use Rattle.std.specs.Option.{unwrap_or}
use Rattle.byte_strings.specs.Bytes.{Bytes}
use Rattle.storage.specs.declared.mark.PositionMark.{PositionMark}
use Rattle.storage.specs.declared.mark.PositionMark.TheVariants.{At}
use Rattle.file_rules.specs.declared.modes.AccessMode.{AccessMode}
use Rattle.file_rules.specs.declared.modes.AccessMode.TheVariants.{ReadWrite}
use Rattle.file_rules.specs.declared.modes.ExclusionMode.{ExclusionMode}
use Rattle.file_rules.specs.declared.modes.ExclusionMode.TheVariants.{Shared}
use Rattle.file_rules.specs.declared.modes.PositioningMode.{PositioningMode}
use Rattle.file_rules.specs.declared.modes.PositioningMode.TheVariants.{Approximate}

pub record Entry : Type 0 where
  pub access : AccessMode
  pub exclusion : ExclusionMode
  pub path : ℕ
  pub mode : PositioningMode
  -- the compare length
  pub compare : ℕ
  pub position : Bytes
  pub mark : PositionMark
  pub current : Option Bytes

pub record PlainFile : Type 0 where
  -- primary keys with their records, the keys strictly ascending
  pub pairs : List (Bytes × Bytes)
  -- of the file numbers 1 to 8
  pub entries : List (Option Entry)
  pub file_lock : Option ℕ
  -- primary keys with the numbers that hold them, the keys strictly ascending
  pub record_locks : List (Bytes × ℕ)
  pub under_load : Bool

abbrev pub empty : PlainFile
empty = record { pairs = []; entries = replicate 8 None; file_lock = None; record_locks = []; under_load = true }

-- what OPEN leaves
abbrev pub just_opened : AccessMode → ExclusionMode → Entry
just_opened a e = record { access = a; exclusion = e; path = 0; mode = Approximate; compare = 0; position = []; mark = At; current = None }

unfoldable pub numbered : List (Option Entry) → ℕ → Option Entry
numbered entries zero = None
numbered entries (suc n) = slice_index_or entries n None

abbrev pub entry_of : PlainFile → ℕ → Option Entry
entry_of s n = numbered s.entries n

abbrev pub own : PlainFile → ℕ → Entry
own s n = unwrap_or (entry_of s n) (just_opened ReadWrite Shared)

-- ---- the state with one part changed

abbrev pub with_entry : PlainFile → ℕ → Option Entry → PlainFile
with_entry s n e = record { pairs = s.pairs; entries = slice_set s.entries (pred n) e; file_lock = s.file_lock; record_locks = s.record_locks; under_load = s.under_load }

abbrev pub with_pairs : PlainFile → List (Bytes × Bytes) → PlainFile
with_pairs s ps = record { pairs = ps; entries = s.entries; file_lock = s.file_lock; record_locks = s.record_locks; under_load = s.under_load }

abbrev pub with_locks : PlainFile → Option ℕ → List (Bytes × ℕ) → PlainFile
with_locks s holder locks = record { pairs = s.pairs; entries = s.entries; file_lock = holder; record_locks = locks; under_load = s.under_load }

abbrev pub in_service : PlainFile → PlainFile
in_service s = record { pairs = s.pairs; entries = s.entries; file_lock = s.file_lock; record_locks = s.record_locks; under_load = false }
