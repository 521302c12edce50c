-- The bounds that a description keeps.
use Rattle.std.specs.Prelude.{ℕ, Bool, true, not, ◌&&◌, List, [], ◌∷◌, length, nat_le}
use Rattle.std.specs.List.{list_all}
use Rattle.byte_strings.specs.Bytes.{same}
use Rattle.file_rules.specs.declared.description.KeyField.{KeyField}
use Rattle.file_rules.specs.declared.description.AlternateKey.{AlternateKey}
use Rattle.file_rules.specs.declared.description.Organization.{Organization}
use Rattle.file_rules.specs.declared.description.Organization.TheVariants.{Relative, EntrySequenced, KeySequenced}
use Rattle.file_rules.specs.declared.fault.CallFault.{CallFault}
use Rattle.file_rules.specs.declared.fault.CallFault.TheVariants.{IllegalCount}
use Rattle.file_rules.specs.Descriptions.{Description, end_of}

abbrev pub from_to : ℕ → ℕ → ℕ → Bool
from_to low high n = nat_le low n && nat_le n high

-- 1 to 32 bytes, that end within the longest record
abbrev pub field_fits : ℕ → KeyField → Bool
field_fits longest f = from_to 1 32 f.len && nat_le (end_of f) longest

abbrev pub key_fits : ℕ → Organization → Bool
key_fits longest Relative = true
key_fits longest EntrySequenced = true
key_fits longest (KeySequenced f) = field_fits longest f

-- the two bytes of the specifier are not both 0
abbrev pub alternate_fits : ℕ → AlternateKey → Bool
alternate_fits longest k = not (same k.specifier (0 ∷ 0 ∷ [])) && nat_le k.field.offset 254 && field_fits longest k.field

-- no two have the same specifier
abbrev pub specifiers_differ : List AlternateKey → Bool
specifiers_differ [] = true
specifiers_differ (j ∷ ks) = list_all (λ k. not (same j.specifier k.specifier)) ks && specifiers_differ ks

-- at most four
abbrev pub table_fits : ℕ → List AlternateKey → Bool
table_fits longest ks = nat_le (length ks) 4 && list_all (alternate_fits longest) ks && specifiers_differ ks

abbrev pub within_bounds : Description → Bool
within_bounds d =
    from_to 1 255 d.longest
    && (key_fits d.longest d.organization && table_fits d.longest d.alternates)
    && (from_to 1 4096 d.record_limit && from_to 1 1044480 d.byte_limit && from_to 1 16384 d.row_limit)

abbrev pub bound_checks : Description → List (Bool × CallFault)
bound_checks d = (not (within_bounds d), IllegalCount) ∷ []
