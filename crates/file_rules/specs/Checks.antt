-- The tests that refuse a call, by name.
use Rattle.std.specs.Prelude.{ℕ, suc, ◌*◌, min, Bool, true, false, cond, not, ◌&&◌, ◌||◌, ltb, List, [], ◌∷◌, length, is_some, Some, None, Option, ◌==◌, nat_eq, nat_le, nat_lt}
use Rattle.byte_strings.specs.Bytes.{Bytes, same}
use Rattle.storage.specs.Pairs.{under}
use Rattle.storage.specs.Primary.{is_entry_sequenced, no_room, too_many_bytes}
use Rattle.file_rules.specs.declared.description.AlternateKey.{AlternateKey}
use Rattle.file_rules.specs.declared.description.Organization.{Organization}
use Rattle.file_rules.specs.declared.description.Organization.TheVariants.{Relative, EntrySequenced, KeySequenced}
use Rattle.file_rules.specs.declared.modes.AccessMode.{AccessMode}
use Rattle.file_rules.specs.declared.modes.ExclusionMode.{ExclusionMode}
use Rattle.file_rules.specs.declared.modes.PositioningMode.{PositioningMode}
use Rattle.file_rules.specs.declared.modes.PositioningMode.TheVariants.{Approximate, Generic, Exact}
use Rattle.file_rules.specs.Calls.{Call, Opening, Positioning, Open, Read, ReadUpdate, Write, WriteUpdate, LockFile, LockRec, UnlockRec, LockInfo, is, one_of, reads, writes, number, opening, positioning, count, buffer, new_record, replaces}
use Rattle.file_rules.specs.Descriptions.{Description, cut, end_of, kind_of, shape_of, field_length, string_length}
use Rattle.file_rules.specs.Files.{Entry, PlainFile, entry_of, own}
use Rattle.file_rules.specs.Keys.{needs_name, key_in_question, written}
use Rattle.file_rules.specs.Modes.{access_of, exclusion_of, positioning_of, may_read, may_write, excluding}
use Rattle.file_rules.specs.Paths.{value, fresh_rows}

-- there is one, and it passes
abbrev pub given : {A : Type 0} → Option A → (A → Bool) → Bool
given None test = false
given (Some x) test = test x

-- ---- 16: the file number

-- outside 1 to 8, or but for OPEN not open
abbrev pub not_open : PlainFile → Call → Bool
not_open s c = not (nat_le 1 (number c) && nat_le (number c) 8) || (not (is Open c) && not (is_some (entry_of s (number c))))

-- ---- 2: the access right

abbrev pub not_allowed : PlainFile → Call → Bool
not_allowed s c = (reads c && not (may_read (own s (number c)).access)) || (writes c && not (may_write (own s (number c)).access))

-- ---- 46: the path

abbrev pub no_such_path : Description → Call → Bool
no_such_path d c = given (positioning c) (λ p. ltb (length d.alternates) p.path)

-- ---- 21: codes, position and count

abbrev pub no_such_code : Opening → Bool
no_such_code o = not (is_some (access_of o.access)) || not (is_some (exclusion_of o.exclusion))

-- c is 0 in approximate mode, 1 to the lesser of field and value in generic, the field's length in exact mode
abbrev pub wrong_compare : PositioningMode → ℕ → ℕ → ℕ → Bool
wrong_compare Approximate field len c = not (c == 0)
wrong_compare Generic field len c = c == 0 || nat_lt (min field len) c
wrong_compare Exact field len c = not (c == field) || nat_lt len c

abbrev pub bad_position : Description → Positioning → Bool
bad_position d p =
    nat_lt (string_length d p.path) (length p.value)
    || elim (positioning_of p.mode) [ None ↦ true | Some m ↦ wrong_compare m (field_length d p.path) (length p.value) p.compare ]

abbrev pub cuts_key : Organization → ℕ → Bool
cuts_key Relative count = false
cuts_key EntrySequenced count = false
cuts_key (KeySequenced f) count = nat_lt count (end_of f)

-- above the longest record, or not 0 and cutting off the key of a key-sequenced file
abbrev pub bad_count : Description → ℕ → Bool
bad_count d count = nat_lt d.longest count || (not (count == 0) && cuts_key d.organization count)

-- a new record has at least one byte
abbrev pub bad_new_count : Description → ℕ → Bool
bad_new_count d count = count == 0 || bad_count d count

abbrev pub bad_argument : Description → Call → Bool
bad_argument d c =
    given (opening c) no_such_code
    || given (positioning c) (bad_position d)
    || (is Write c && bad_new_count d (count c))
    || (is WriteUpdate c && bad_count d (count c))

-- ---- 22: the buffer

-- LOCKINFO lists 34 bytes a lock
abbrev pub list_length : PlainFile → ℕ
list_length s = 34 * length s.record_locks

abbrev pub short_buffer : PlainFile → Call → Bool
short_buffer s c = nat_lt (length (buffer c)) (cond (is LockInfo c) (list_length s) (count c))

-- ---- 12: another open

abbrev pub excluded_by : Option AccessMode → Option ExclusionMode → Entry → Bool
excluded_by a e o = given a (λ access. given e (λ exclusion. excluding o.access o.exclusion access exclusion))

abbrev pub any_entry : List (Option Entry) → (Entry → Bool) → Bool
any_entry [] test = false
any_entry (e ∷ es) test = given e test || any_entry es test

abbrev pub in_use : PlainFile → Call → Bool
in_use s c = given (opening c) (λ o. is_some (entry_of s (number c)) || any_entry s.entries (excluded_by (access_of o.access) (exclusion_of o.exclusion)))

-- ---- 46: the current key

abbrev pub no_current_key : Description → PlainFile → Call → Bool
no_current_key d s c =
    (one_of (ReadUpdate ∷ WriteUpdate ∷ LockRec ∷ UnlockRec ∷ []) c || (is Write c && needs_name d)) && not (is_some (own s (number c)).current)

abbrev pub other_key : Organization → Bytes → Option Bytes → Bool
other_key Relative r current = false
other_key EntrySequenced r current = false
other_key (KeySequenced f) r current = not (given current (same (cut f r)))

-- the replacement of a key-sequenced record has another key field
abbrev pub alters_key : Description → PlainFile → Call → Bool
alters_key d s c = replaces c && other_key d.organization (new_record c) (own s (number c)).current

-- ---- 73: locks

abbrev pub anothers : ℕ → Option ℕ → Bool
anothers n holder = given holder (λ m. not (m == n))

abbrev pub file_locked : PlainFile → Call → Bool
file_locked s c = one_of (Read ∷ ReadUpdate ∷ Write ∷ WriteUpdate ∷ LockRec ∷ LockFile ∷ []) c && anothers (number c) s.file_lock

abbrev pub any_anothers : ℕ → List (Bytes × ℕ) → Bool
any_anothers n [] = false
any_anothers n (p ∷ ps) = not (p.1 == n) || any_anothers n ps

-- LOCKFILE meets another's record lock
abbrev pub records_locked : PlainFile → Call → Bool
records_locked s c = is LockFile c && any_anothers (number c) s.record_locks

abbrev pub key_locked : Description → PlainFile → Call → Bool
key_locked d s c = given (key_in_question d s c) (λ κ. anothers (number c) (under κ s.record_locks))

-- ---- 1 and 11: the record

abbrev pub subset_empty : Description → PlainFile → Call → Bool
subset_empty d s c = is Read c && not (is_some (key_in_question d s c))

-- a record stands under the key in question
abbrev pub stands : Description → PlainFile → Call → Bool
stands d s c = given (key_in_question d s c) (λ κ. is_some (under κ s.pairs))

abbrev pub no_record : Description → PlainFile → Call → Bool
no_record d s c = one_of (ReadUpdate ∷ WriteUpdate ∷ LockRec ∷ []) c && not (stands d s c)

-- ---- 31: a 33rd record lock

abbrev pub no_lock_space : Description → PlainFile → Call → Bool
no_lock_space d s c =
    is LockRec c && not (given (key_in_question d s c) (λ κ. is_some (under κ s.record_locks))) && nat_le 32 (length s.record_locks)

-- ---- 21 and 10: what a record may become

-- an entry-sequenced record keeps its length and stays
abbrev pub length_changes : Description → PlainFile → Call → Bool
length_changes d s c =
    is WriteUpdate c && is_entry_sequenced (kind_of d.organization)
    && not (given (key_in_question d s c) (λ κ. given (under κ s.pairs) (λ r. nat_eq (length r) (count c))))

abbrev pub key_present : Description → PlainFile → Call → Bool
key_present d s c = is Write c && stands d s c

-- ---- 10, layer 3: unique values

-- a record under another key than κ has the value v
abbrev pub held_elsewhere : AlternateKey → Bytes → Bytes → List (Bytes × Bytes) → Bool
held_elsewhere k κ v [] = false
held_elsewhere k κ v (p ∷ ps) = (not (same p.0 κ) && given (value k p.1) (same v)) || held_elsewhere k κ v ps

-- the record r under κ would share a unique value
abbrev pub shares : List (Bytes × Bytes) → Bytes → Bytes → AlternateKey → Bool
shares ps κ r k = k.unique && given (value k r) (λ v. held_elsewhere k κ v ps)

-- the lowest path, counted from i, whose key passes
abbrev pub lowest_path : ℕ → List AlternateKey → (AlternateKey → Bool) → Option ℕ
lowest_path i [] test = None
lowest_path i (k ∷ ks) test = cond (test k) (Some i) (lowest_path (suc i) ks test)

abbrev pub clash_under : Description → PlainFile → Bytes → Option Bytes → Option ℕ
clash_under d s r None = None
clash_under d s r (Some κ) = lowest_path 1 d.alternates (shares s.pairs κ r)

-- the path on which the record placed or replaced would clash
abbrev pub clash : Description → PlainFile → Call → Option ℕ
clash d s c = cond (is Write c || replaces c) (clash_under d s (new_record c) (key_in_question d s c)) None

-- ---- 45: room

abbrev pub no_record_room : Description → PlainFile → Call → Bool
no_record_room d s c =
    (is Write c && given (key_in_question d s c) (λ κ. no_room (shape_of d) s.pairs κ (new_record c)))
    || (replaces c && too_many_bytes (shape_of d) (written d s c))

abbrev pub no_row_room : Description → PlainFile → Call → Bool
no_row_room d s c = writes c && nat_lt d.row_limit (length (fresh_rows d (written d s c)))
