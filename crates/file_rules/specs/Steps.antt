-- What an accepted call does and answers, the step of any call, and the trace of a succession of calls.
use Rattle.std.specs.Prelude.{ℕ, ◌-◌, Bool, cond, List, [], ◌∷◌, ◌++◌, length, take, replicate, Some, None, Option, ◌==◌, nat_eq}
use Rattle.std.specs.Option.{unwrap_or}
use Rattle.byte_strings.specs.Bytes.{Bytes, fronted}
use Rattle.storage.specs.declared.mark.PositionMark.{PositionMark}
use Rattle.storage.specs.declared.mark.PositionMark.TheVariants.{At, Beyond}
use Rattle.storage.specs.Pairs.{under, placed, without}
use Rattle.file_rules.specs.declared.fault.CallFault.{CallFault}
use Rattle.file_rules.specs.declared.modes.AccessMode.TheVariants.{ReadWrite}
use Rattle.file_rules.specs.declared.modes.ExclusionMode.TheVariants.{Shared}
use Rattle.file_rules.specs.declared.modes.PositioningMode.TheVariants.{Approximate}
use Rattle.file_rules.specs.Calls.{Call, OPEN, CLOSE, KEYPOSITION, READ, READUPDATE, WRITE, WRITEUPDATE, LOCKFILE, UNLOCKFILE, LOCKREC, UNLOCKREC, LOCKINFO, Answer, Positioning, buffer}
use Rattle.file_rules.specs.Checks.{given, anothers, list_length}
use Rattle.file_rules.specs.Descriptions.{Description, key_len}
use Rattle.file_rules.specs.Faults.{number_of, layer_of, key_of}
use Rattle.file_rules.specs.Files.{Entry, PlainFile, just_opened, own, with_entry, with_pairs, with_locks}
use Rattle.file_rules.specs.Keys.{written}
use Rattle.file_rules.specs.Modes.{access_of, exclusion_of, positioning_of}
use Rattle.file_rules.specs.Refusals.{refusal}
use Rattle.file_rules.specs.Subsets.{Found, next_record}

abbrev pub accepted : ℕ → Bytes → Answer
accepted moved buffer = record { number = 0; layer = 0; key = 0; moved = moved; buffer = buffer }

abbrev pub refused : CallFault → Bytes → Answer
refused fault buffer = record { number = number_of fault; layer = layer_of fault; key = key_of fault; moved = 0; buffer = buffer }

-- the record's first bytes, up to the count, come to the front of the buffer
abbrev pub delivered : Bytes → ℕ → Bytes → Answer
delivered r count buffer = accepted (length (take count r)) (fronted (take count r) buffer)

-- ---- the entry

abbrev pub mark_by : Bool → PositionMark
mark_by skip = cond skip Beyond At

-- a value of full length on path 0 names a record
abbrev pub named_key : Description → ℕ → Bytes → Option Bytes
named_key d path value = cond (path == 0) (cond (length value == key_len d) (Some value) None) None

abbrev pub opened_by : ℕ → ℕ → Entry
opened_by access exclusion = just_opened (unwrap_or (access_of access) ReadWrite) (unwrap_or (exclusion_of exclusion) Shared)

abbrev pub positioned : Description → Entry → Positioning → Entry
positioned d e p = record {
  access = e.access;
  exclusion = e.exclusion;
  path = p.path;
  mode = unwrap_or (positioning_of p.mode) Approximate;
  compare = p.compare;
  position = p.value;
  mark = mark_by p.skip;
  current = named_key d p.path p.value;
}

-- READ goes on to the string that it delivered
abbrev pub moved_to : Entry → Found → Entry
moved_to e f = record {
  access = e.access;
  exclusion = e.exclusion;
  path = e.path;
  mode = e.mode;
  compare = e.compare;
  position = f.string;
  mark = Beyond;
  current = Some f.key;
}

-- ---- locks

abbrev pub released_by : ℕ → Option ℕ → Option ℕ
released_by n holder = cond (given holder (λ m. nat_eq m n)) None holder

unfoldable pub others_locks : ℕ → List (Bytes × ℕ) → List (Bytes × ℕ)
others_locks n [] = []
others_locks n (p ∷ ps) = cond (p.1 == n) (others_locks n ps) (p ∷ others_locks n ps)

-- the number lets go of all that it holds
abbrev pub let_go : PlainFile → ℕ → PlainFile
let_go s n = with_locks s (released_by n s.file_lock) (others_locks n s.record_locks)

abbrev pub lock_taken : ℕ → Option Bytes → List (Bytes × ℕ) → List (Bytes × ℕ)
lock_taken n None locks = locks
lock_taken n (Some κ) locks = elim (under κ locks) [ None ↦ placed κ n locks | Some holder ↦ locks ]

abbrev pub lock_released : ℕ → Option Bytes → List (Bytes × ℕ) → List (Bytes × ℕ)
lock_released n None locks = locks
lock_released n (Some κ) locks = cond (anothers n (under κ locks)) locks (without κ locks)

-- holder, key length, key, and zeros up to 34 bytes
abbrev pub lock_entry : Bytes × ℕ → Bytes
lock_entry p = (p.1 ∷ length p.0 ∷ p.0) ++ replicate (32 - length p.0) 0

abbrev pub lock_list : List (Bytes × ℕ) → Bytes
lock_list [] = []
lock_list (p ∷ ps) = lock_entry p ++ lock_list ps

-- ---- the calls

abbrev pub read_next : PlainFile → ℕ → ℕ → Bytes → Option Found → PlainFile × Answer
read_next s n count buffer None = (s, accepted 0 buffer)
read_next s n count buffer (Some f) = (with_entry s n (Some (moved_to (own s n) f)), delivered f.bytes count buffer)

abbrev pub read_current : List (Bytes × Bytes) → ℕ → Bytes → Option Bytes → Answer
read_current ps count buffer None = accepted 0 buffer
read_current ps count buffer (Some κ) = elim (under κ ps) [ None ↦ accepted 0 buffer | Some r ↦ delivered r count buffer ]

unfoldable pub effect : Description → PlainFile → Call → PlainFile × Answer
effect d s (OPEN n a e) = (with_entry s n (Some (opened_by a e)), accepted 0 [])
effect d s (CLOSE n) = (with_entry (let_go s n) n None, accepted 0 [])
effect d s (KEYPOSITION n p m k c v) =
    (with_entry s n (Some (positioned d (own s n) (record { path = p; mode = m; skip = k; compare = c; value = v }))), accepted 0 [])
effect d s (READ n c b) = read_next s n c b (next_record d s n)
effect d s (READUPDATE n c b) = (s, read_current s.pairs c b (own s n).current)
effect d s (WRITE n c b) = (with_pairs s (written d s (WRITE n c b)), accepted c b)
effect d s (WRITEUPDATE n c b) = (with_pairs s (written d s (WRITEUPDATE n c b)), accepted c b)
effect d s (LOCKFILE n) = (with_locks s (Some n) s.record_locks, accepted 0 [])
effect d s (UNLOCKFILE n) = (let_go s n, accepted 0 [])
effect d s (LOCKREC n) = (with_locks s s.file_lock (lock_taken n (own s n).current s.record_locks), accepted 0 [])
effect d s (UNLOCKREC n) = (with_locks s s.file_lock (lock_released n (own s n).current s.record_locks), accepted 0 [])
effect d s (LOCKINFO n b) = (s, accepted (list_length s) (fronted (lock_list s.record_locks) b))

-- a refused call leaves the state and the buffer
abbrev pub settled_by : Description → PlainFile → Call → Option CallFault → PlainFile × Answer
settled_by d s c None = effect d s c
settled_by d s c (Some fault) = (s, refused fault (buffer c))

unfoldable pub step : Description → PlainFile → Call → PlainFile × Answer
step d s c = settled_by d s c (refusal d s c)

-- ---- a succession of calls

pub record Event : Type 0 where
  pub before : PlainFile
  pub call : Call
  pub answer : Answer
  pub after : PlainFile

abbrev pub event : Description → PlainFile → Call → Event
event d s c = record { before = s; call = c; answer = (step d s c).1; after = (step d s c).0 }

unfoldable pub trace : Description → PlainFile → List Call → List Event
trace d s [] = []
trace d s (c ∷ cs) = event d s c ∷ trace d (step d s c).0 cs
