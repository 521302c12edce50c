-- What every call keeps of the state.
use Rattle.std.specs.Prelude.{◌≡◌, ℕ, ◌≤◌, true, List, length, Some, None, Option}
use Rattle.std.specs.List.{AllByRecursion}
use Rattle.byte_strings.specs.Bytes.{Bytes}
use Rattle.storage.specs.Pairs.{Ascending, keys, total, under}
use Rattle.file_rules.specs.declared.description.AlternateKey.{AlternateKey}
use Rattle.file_rules.specs.Calls.{Call}
use Rattle.file_rules.specs.Descriptions.{Description, key_len, nth_key, field_length, string_length}
use Rattle.file_rules.specs.Files.{Entry, PlainFile}
use Rattle.file_rules.specs.Paths.{value, fresh_rows}
use Rattle.file_rules.specs.Steps.{step}

-- where there is one, the fact holds of it
abbrev pub IfAny : {A : Type 0} → (A → Type 0) → Option A → Type 0
IfAny P None = Unit {0}
IfAny P (Some x) = P x

pub record EntryFits (d : Description) (e : Entry) : Type 0 where
  pub path : e.path ≤ length d.alternates
  pub compare : e.compare ≤ field_length d e.path
  pub position : length e.position ≤ string_length d e.path
  pub current : IfAny (λ κ. length κ ≡ key_len d) e.current

-- 1 to the longest record's bytes, under a key of the right length
pub record PairFits (d : Description) (p : Bytes × Bytes) : Type 0 where
  pub keyed : length p.0 ≡ key_len d
  pub some : 1 ≤ length p.1
  pub short : length p.1 ≤ d.longest

-- on a key of the right length, held by a file number
pub record LockFits (d : Description) (p : Bytes × ℕ) : Type 0 where
  pub keyed : length p.0 ≡ key_len d
  pub low : 1 ≤ p.1
  pub high : p.1 ≤ 8

-- no value of a unique key stands in two records
abbrev pub UniqueOnce : List AlternateKey → List (Bytes × Bytes) → Type 0
UniqueOnce ks ps =
    (i : ℕ) (k : AlternateKey) → nth_key ks i ≡ Some k → k.unique ≡ true →
    (κ η r t v : Bytes) → under κ ps ≡ Some r → under η ps ≡ Some t → value k r ≡ Some v → value k t ≡ Some v → κ ≡ η

pub record Sound (d : Description) (s : PlainFile) : Type 0 where
  pub ordered : Ascending (keys s.pairs)
  pub pairs : AllByRecursion (PairFits d) s.pairs
  pub unique : UniqueOnce d.alternates s.pairs
  pub records : length s.pairs ≤ d.record_limit
  pub bytes : total s.pairs ≤ d.byte_limit
  pub rows : length (fresh_rows d s.pairs) ≤ d.row_limit
  pub eight : length s.entries ≡ 8
  pub entries : AllByRecursion (IfAny (EntryFits d)) s.entries
  pub locked : Ascending (keys s.record_locks)
  pub few : length s.record_locks ≤ 32
  pub locks : AllByRecursion (LockFits d) s.record_locks

abbrev pub StaysSound : Type 0
StaysSound = (d : Description) (s : PlainFile) (c : Call) → Sound d s → Sound d (step d s c).0
