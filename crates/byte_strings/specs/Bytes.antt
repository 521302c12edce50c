-- Byte strings and their order.
--     order          unsigned bytes from the first on; a proper prefix comes first
--     below          the first comes before the second
--     same           byte for byte the same
--     fronted        a buffer whose front takes bytes, cut to its length
use Rattle.std.specs.Prelude.{ℕ, Bool, List, ◌++◌, length, take, drop}
use Rattle.std.specs.declared.cmp.Ordering.{Ordering}
use Rattle.std.specs.Cmp.Lexicographic.{slice_cmp}
use Rattle.std.specs.Ordering.{is_lt, nat_cmp}
use Rattle.std.specs.Str.{bytes_eq}

abbrev pub Bytes : Type 0
Bytes = List ℕ

unfoldable pub order : Bytes → Bytes → Ordering
order x y = slice_cmp nat_cmp x y

unfoldable pub below : Bytes → Bytes → Bool
below x y = is_lt (order x y)

unfoldable pub same : Bytes → Bytes → Bool
same x y = bytes_eq x y

abbrev pub fronted : Bytes → Bytes → Bytes
fronted bytes buffer = take (length buffer) bytes ++ drop (length bytes) buffer
