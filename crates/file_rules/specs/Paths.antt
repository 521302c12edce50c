-- Path strings and rows of a record, and the fresh key build.
--     value            of an alternate key in a record: its field, where that lies wholly in the record and is not made
--                      of the null byte alone
--     path_string      on path 0 the primary key, on another the value followed by the primary key
--     row              the specifier followed by the path string
--     fresh_rows       all rows of all records, strictly ascending
use Rattle.std.specs.Prelude.{ℕ, zero, suc, Bool, false, cond, not, ◌&&◌, List, [], ◌∷◌, ◌++◌, length, Some, None, Option, nat_eq, nat_le}
use Rattle.std.specs.Option.{option_map}
use Rattle.std.specs.List.{list_all}
use Rattle.byte_strings.specs.Bytes.{Bytes, below}
use Rattle.file_rules.specs.declared.description.AlternateKey.{AlternateKey}
use Rattle.file_rules.specs.Descriptions.{Description, cut, end_of, nth_key}

abbrev pub made_of : Option ℕ → Bytes → Bool
made_of None field = false
made_of (Some null) field = list_all (λ b. nat_eq b null) field

unfoldable pub value : AlternateKey → Bytes → Option Bytes
value k r = cond (nat_le (end_of k.field) (length r) && not (made_of k.null_byte (cut k.field r))) (Some (cut k.field r)) None

abbrev pub alternate_string : Option AlternateKey → Bytes → Bytes → Option Bytes
alternate_string None κ r = None
alternate_string (Some k) κ r = option_map (λ v. v ++ κ) (value k r)

-- the path string of the record r under the primary key κ
unfoldable pub path_string : Description → ℕ → Bytes → Bytes → Option Bytes
path_string d zero κ r = Some κ
path_string d (suc i) κ r = alternate_string (nth_key d.alternates i) κ r

abbrev pub row : AlternateKey → Bytes → Bytes → Option Bytes
row k κ r = option_map (λ v. k.specifier ++ (v ++ κ)) (value k r)

abbrev pub and_then : Option Bytes → List Bytes → List Bytes
and_then None rows = rows
and_then (Some x) rows = x ∷ rows

abbrev pub record_rows : List AlternateKey → Bytes → Bytes → List Bytes
record_rows [] κ r = []
record_rows (k ∷ ks) κ r = and_then (row k κ r) (record_rows ks κ r)

abbrev pub all_rows : List AlternateKey → List (Bytes × Bytes) → List Bytes
all_rows ks [] = []
all_rows ks (p ∷ ps) = record_rows ks p.0 p.1 ++ all_rows ks ps

-- put in at its place, unless it stands there
abbrev pub sorted_in : Bytes → List Bytes → List Bytes
sorted_in x [] = x ∷ []
sorted_in x (y ∷ ys) = cond (below y x) (y ∷ sorted_in x ys) (cond (below x y) (x ∷ y ∷ ys) (y ∷ ys))

abbrev pub sorted : List Bytes → List Bytes
sorted [] = []
sorted (x ∷ xs) = sorted_in x (sorted xs)

unfoldable pub fresh_rows : Description → List (Bytes × Bytes) → List Bytes
fresh_rows d ps = sorted (all_rows d.alternates ps)
