-- The rows of a table, and what a search for a string answers of them. Assumes nothing.
use Rattle.std.proofs.Common.{◌≡◌, ℕ, suc, ◌+◌, ◌<◌, false, cond, T, List, [], ◌∷◌, map, length, take, Ok, Err, arith}
use Rattle.std.proofs.lemmas.List.{length-take}
use Rattle.std.proofs.lemmas.Bool.Decides.{nat_tests}
use Rattle.byte_strings.specs.declared.string.ByteString.{ByteString}
use Rattle.byte_strings.specs.Bytes.{Bytes, order}
use Rattle.byte_strings.specs.Texts.{text}
use Rattle.ordered_table.specs.Entries.{entries}
use Rattle.ordered_table.specs.Table.{holds, place, searched}
use Rattle.storage.specs.Pairs.{short}
use Rattle.storage.proofs.Long.{holds-long, place-long}
use Rattle.row_table.specs.declared.table.RowTable.{RowTable}
use Rattle.row_table.specs.Tables.{rows, rows_ascend}

all_short : (ss : List (ByteString 66)) → T (short 66 (map text ss))
all_short [] = tt
all_short (s ∷ ss) =
    let within = s.within in
    let n = length-take s.len s.bytes in
    let ih = all_short ss in
    grind (arith, nat_tests)

-- a string that is longer than any row is not there, and comes right behind its front
module _ (t : RowTable) (string : Bytes) (long : 66 < length string) where
  pub long_absent : holds order (rows t) string ≡ false
  long_absent = holds-long 66 string long (rows t) (all_short (entries t.rows))

  behind : place order (rows t) string ≡ cond (holds order (rows t) (take 66 string)) (suc (place order (rows t) (take 66 string))) (place order (rows t) (take 66 string))
  behind = place-long 66 string long (rows t) (rows_ascend t) (all_short (entries t.rows))

  pub long_found : (at : ℕ) → Ok at ≡ searched order (rows t) (take 66 string) → Err (at + 1) ≡ searched order (rows t) string
  long_found at e = let absent = long_absent in let place = behind in grind arith

  pub long_missed : (at : ℕ) → Err at ≡ searched order (rows t) (take 66 string) → Err at ≡ searched order (rows t) string
  long_missed at e = let absent = long_absent in let place = behind in grind arith
