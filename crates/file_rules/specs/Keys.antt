-- Which key a call is about, and what a write leaves.
--     key_by               the key that a record is placed under
--     key_in_question      the key to be read, written or locked
--     written              the pairs after a write
use Rattle.std.specs.Prelude.{ℕ, suc, max, Bool, cond, List, [], ◌∷◌, length, Some, None, Option}
use Rattle.std.specs.Option.{option_map}
use Rattle.byte_strings.specs.Bytes.{Bytes, same}
use Rattle.storage.specs.Pairs.{placed, replaced, without}
use Rattle.storage.specs.Primary.{is_relative, record_number, number_key}
use Rattle.file_rules.specs.declared.description.Organization.{Organization}
use Rattle.file_rules.specs.declared.description.Organization.TheVariants.{Relative, EntrySequenced, KeySequenced}
use Rattle.file_rules.specs.Calls.{Call, OPEN, CLOSE, KEYPOSITION, READ, READUPDATE, WRITE, WRITEUPDATE, LOCKFILE, UNLOCKFILE, LOCKREC, UNLOCKREC, LOCKINFO, Write, is, new_record, replaces}
use Rattle.file_rules.specs.Descriptions.{Description, cut, kind_of}
use Rattle.file_rules.specs.Files.{PlainFile, own}
use Rattle.file_rules.specs.Subsets.{Found, next_record}

-- FFFFFFFF hexadecimal, which tells WRITE to append
abbrev pub append_key : Bytes
append_key = 255 ∷ 255 ∷ 255 ∷ 255 ∷ []

-- one above the highest record number present, or 0
abbrev pub next_number : List (Bytes × Bytes) → ℕ
next_number [] = 0
next_number (p ∷ ps) = max (suc (record_number p.0)) (next_number ps)

-- in a relative file under the key that names the place
abbrev pub key_by : Organization → List (Bytes × Bytes) → Bytes → Bytes → Bytes
key_by Relative ps named r = cond (same named append_key) (number_key (next_number ps)) named
key_by EntrySequenced ps named r = number_key (length ps)
key_by (KeySequenced f) ps named r = cut f r

-- only a relative file asks for a current key
abbrev pub needs_name : Description → Bool
needs_name d = is_relative (kind_of d.organization)

unfoldable pub new_key : Description → PlainFile → ℕ → Bytes → Option Bytes
new_key d s n r =
    cond (needs_name d) (option_map (λ named. key_by d.organization s.pairs named r) (own s n).current) (Some (key_by d.organization s.pairs [] r))

unfoldable pub key_in_question : Description → PlainFile → Call → Option Bytes
key_in_question d s (OPEN n a e) = None
key_in_question d s (CLOSE n) = None
key_in_question d s (KEYPOSITION n p m k c v) = None
key_in_question d s (READ n c b) = option_map (λ (f : Found). f.key) (next_record d s n)
key_in_question d s (READUPDATE n c b) = (own s n).current
key_in_question d s (WRITE n c b) = new_key d s n (new_record (WRITE n c b))
key_in_question d s (WRITEUPDATE n c b) = (own s n).current
key_in_question d s (LOCKFILE n) = None
key_in_question d s (UNLOCKFILE n) = None
key_in_question d s (LOCKREC n) = (own s n).current
key_in_question d s (UNLOCKREC n) = None
key_in_question d s (LOCKINFO n b) = None

abbrev pub written_under : Call → List (Bytes × Bytes) → Option Bytes → List (Bytes × Bytes)
written_under c ps None = ps
written_under c ps (Some κ) =
    cond (is Write c) (placed κ (new_record c) ps) (cond (replaces c) (replaced κ (new_record c) ps) (without κ ps))

unfoldable pub written : Description → PlainFile → Call → List (Bytes × Bytes)
written d s c = written_under c s.pairs (key_in_question d s c)
