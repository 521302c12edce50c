use Rattle.std.proofs.Common.{◌≡◌, T, map, take, vec_items}
use Rattle.byte_strings.specs.Texts.{text}
use Rattle.storage.specs.Pairs.{keys, short}
use Rattle.row_listing.proofs.list_rows.Given as goal

abbrev pub invariant-loop : goal.invariant-loop
invariant-loop g l =
    T (short 66 (keys (g.R.OrderedReading.pairs l.file)))
    → map text (vec_items l.rows) ≡ take l.counter (keys (g.R.OrderedReading.pairs l.file))
