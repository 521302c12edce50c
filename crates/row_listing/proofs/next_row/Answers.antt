use Rattle.std.proofs.Common.{ℕ, replicate, arith}
use Rattle.std.proofs.lemmas.List.{length-replicate}
use Rattle.storage.specs.Pairs.{keys, next}
use Rattle.row_listing.proofs.Steps.{cut_key}
use Rattle.row_listing.proofs.next_row.Goals as goal

pub returns : goal.returns
returns g c =
    let o = next c.args.mark c.args.from.now (keys (g.R.OrderedReading.pairs c.args.file.now)) in
    let cut = cut_key o (replicate 66 0) c.find-there.new.key c.find-there.result.0 c.find-there.result.1 c.min.result c.front_of.result in
    let n = length-replicate {A = ℕ} 66 0 in
    grind arith
