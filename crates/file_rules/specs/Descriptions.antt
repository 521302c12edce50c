-- The description of a file.
--     cut                       the bytes of a field in a record
--     kind_of, key_length       what an organization makes of the kind and of the primary key
--     shape_of                  what the primary file of such a file states
--     field_length, string_length     of a path: its field, and its path strings; the field of path 0 is the primary key
--     described                 the description that code holds
use Rattle.std.specs.Prelude.{ℕ, zero, suc, ◌+◌, List, [], ◌∷◌, take, drop, Some, None, Option}
use Rattle.byte_strings.specs.Bytes.{Bytes}
use Rattle.storage.specs.declared.shape.FileKind.{FileKind}
use Rattle.storage.specs.declared.shape.FileKind.TheVariants as kind
use Rattle.storage.specs.declared.shape.PrimaryShape.{PrimaryShape}
use Rattle.file_rules.specs.declared.description.KeyField.{KeyField}
use Rattle.file_rules.specs.declared.description.AlternateKey.{AlternateKey}
use Rattle.file_rules.specs.declared.description.FileDescription.{FileDescription}
use Rattle.file_rules.specs.declared.description.Organization.{Organization}
use Rattle.file_rules.specs.declared.description.Organization.TheVariants.{Relative, EntrySequenced, KeySequenced}

pub record Description : Type 0 where
  pub organization : Organization
  pub longest : ℕ
  pub alternates : List AlternateKey
  pub record_limit : ℕ
  pub byte_limit : ℕ
  pub row_limit : ℕ

abbrev pub cut : KeyField → Bytes → Bytes
cut f r = take f.len (drop f.offset r)

abbrev pub end_of : KeyField → ℕ
end_of f = f.offset + f.len

abbrev pub kind_of : Organization → FileKind
kind_of Relative = kind.Relative
kind_of EntrySequenced = kind.EntrySequenced
kind_of (KeySequenced f) = kind.KeySequenced

-- a record number has four bytes
abbrev pub key_length : Organization → ℕ
key_length Relative = 4
key_length EntrySequenced = 4
key_length (KeySequenced f) = f.len

abbrev pub key_len : Description → ℕ
key_len d = key_length d.organization

abbrev pub shape_of : Description → PrimaryShape
shape_of d = record { kind = kind_of d.organization; key_len = key_len d; max_record_len = d.longest; record_limit = d.record_limit; byte_limit = d.byte_limit }

-- the alternate key of path i + 1
abbrev pub nth_key : List AlternateKey → ℕ → Option AlternateKey
nth_key [] i = None
nth_key (k ∷ ks) zero = Some k
nth_key (k ∷ ks) (suc i) = nth_key ks i

abbrev pub field_length : Description → ℕ → ℕ
field_length d zero = key_len d
field_length d (suc i) = elim (nth_key d.alternates i) [ None ↦ 0 | Some k ↦ k.field.len ]

abbrev pub string_length : Description → ℕ → ℕ
string_length d zero = key_len d
string_length d (suc i) = field_length d (suc i) + key_len d

abbrev pub described : FileDescription → Description
described d = record {
  organization = d.organization;
  longest = d.max_record_len;
  alternates = d.alternate_keys.now;
  record_limit = d.record_limit;
  byte_limit = d.byte_limit;
  row_limit = d.row_limit;
}
