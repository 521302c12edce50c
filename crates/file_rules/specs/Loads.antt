-- Making a file, and the two calls of a file under load.
use Rattle.std.specs.Prelude.{ℕ, Bool, false, cond, not, ◌&&◌, ◌||◌, List, [], ◌∷◌, ◌++◌, length, take, is_some, Some, None, Option, ◌==◌, nat_lt}
use Rattle.std.specs.Option.{unwrap_or}
use Rattle.byte_strings.specs.Bytes.{Bytes}
use Rattle.storage.specs.declared.faults.PrimaryFault.TheVariants as primary
use Rattle.storage.specs.declared.faults.RowFault.TheVariants as row
use Rattle.storage.specs.declared.shape.FileKind.{FileKind}
use Rattle.storage.specs.declared.shape.FileKind.TheVariants.{Relative, EntrySequenced, KeySequenced}
use Rattle.storage.specs.declared.shape.PrimaryShape.{PrimaryShape}
use Rattle.storage.specs.Checks.{first}
use Rattle.storage.specs.Pairs.{under, placed}
use Rattle.storage.specs.Primary.{no_room}
use Rattle.file_rules.specs.declared.description.AlternateKey.{AlternateKey}
use Rattle.file_rules.specs.declared.fault.CallFault.{CallFault}
use Rattle.file_rules.specs.declared.fault.CallFault.TheVariants.{IllegalCount, BufferBounds, Primary, Rows, UniqueClash}
use Rattle.file_rules.specs.Bounds.{bound_checks}
use Rattle.file_rules.specs.Calls.{Answer}
use Rattle.file_rules.specs.Checks.{bad_new_count, shares, lowest_path}
use Rattle.file_rules.specs.Descriptions.{Description, shape_of}
use Rattle.file_rules.specs.Files.{PlainFile, with_pairs, in_service}
use Rattle.file_rules.specs.Keys.{append_key, key_by}
use Rattle.file_rules.specs.Paths.{fresh_rows}
use Rattle.file_rules.specs.Steps.{accepted, refused}

-- ---- making

-- what the two files below hold and state
pub record FilesBelow : Type 0 where
  pub pairs : List (Bytes × Bytes)
  pub shape : PrimaryShape
  pub rows : List (Bytes × Bytes)
  pub row_limit : ℕ

abbrev pub kind_number : FileKind → ℕ
kind_number Relative = 1
kind_number EntrySequenced = 2
kind_number KeySequenced = 3

abbrev pub same_shape : PrimaryShape → PrimaryShape → Bool
same_shape s t =
    (kind_number s.kind == kind_number t.kind) && s.key_len == t.key_len && s.max_record_len == t.max_record_len
    && s.record_limit == t.record_limit && s.byte_limit == t.byte_limit

-- a bound is broken, a file is not empty, or a file states otherwise
abbrev pub making_checks : Description → FilesBelow → List (Bool × CallFault)
making_checks d below =
    bound_checks d
    ++ (not (length below.pairs == 0) || not (length below.rows == 0), IllegalCount)
    ∷ (not (same_shape below.shape (shape_of d)) || not (below.row_limit == d.row_limit), IllegalCount)
    ∷ []

-- ---- LOAD and ENDLOAD

pub data LoadCall : Type 0 where
  LOAD : (count : ℕ) (buffer : Bytes) → LoadCall
  ENDLOAD : LoadCall

-- as WRITE places it, in a relative file at the end
abbrev pub load_key : Description → PlainFile → Bytes → Bytes
load_key d s r = key_by d.organization s.pairs append_key r

unfoldable pub load_checks : Description → PlainFile → ℕ → Bytes → List (Bool × CallFault)
load_checks d s count buffer =
    let r = take count buffer in
    let κ = load_key d s r in
    (bad_new_count d count, IllegalCount)
    ∷ (nat_lt (length buffer) count, BufferBounds)
    ∷ (is_some (under κ s.pairs), Primary primary.AlreadyExists)
    ∷ (no_room (shape_of d) s.pairs κ r, Primary primary.FileFull)
    ∷ []

-- some record shares a unique value with another
abbrev pub any_shares : List (Bytes × Bytes) → List (Bytes × Bytes) → AlternateKey → Bool
any_shares all [] k = false
any_shares all (p ∷ ps) k = shares all p.0 p.1 k || any_shares all ps k

abbrev pub clash_of_any : Description → List (Bytes × Bytes) → Option ℕ
clash_of_any d ps = lowest_path 1 d.alternates (any_shares ps ps)

unfoldable pub end_checks : Description → PlainFile → List (Bool × CallFault)
end_checks d s =
    (is_some (clash_of_any d s.pairs), UniqueClash (unwrap_or (clash_of_any d s.pairs) 0))
    ∷ (nat_lt d.row_limit (length (fresh_rows d s.pairs)), Rows row.FileFull)
    ∷ []

abbrev pub load_refusal : Description → PlainFile → LoadCall → Option CallFault
load_refusal d s (LOAD count buffer) = first (load_checks d s count buffer)
load_refusal d s ENDLOAD = first (end_checks d s)

abbrev pub load_effect : Description → PlainFile → LoadCall → PlainFile × Answer
load_effect d s (LOAD count buffer) =
    (with_pairs s (placed (load_key d s (take count buffer)) (take count buffer) s.pairs), accepted count buffer)
load_effect d s ENDLOAD = (in_service s, accepted 0 [])

abbrev pub load_buffer : LoadCall → Bytes
load_buffer (LOAD count buffer) = buffer
load_buffer ENDLOAD = []

abbrev pub load_settled : Description → PlainFile → LoadCall → Option CallFault → PlainFile × Answer
load_settled d s c None = load_effect d s c
load_settled d s c (Some fault) = (s, refused fault (load_buffer c))

unfoldable pub load_step : Description → PlainFile → LoadCall → PlainFile × Answer
load_step d s c = load_settled d s c (load_refusal d s c)

-- after these calls, of which those behind an accepted ENDLOAD cannot be made
unfoldable pub loaded : Description → PlainFile → List LoadCall → PlainFile
loaded d s [] = s
loaded d s (c ∷ cs) = cond s.under_load (loaded d (load_step d s c).0 cs) s
