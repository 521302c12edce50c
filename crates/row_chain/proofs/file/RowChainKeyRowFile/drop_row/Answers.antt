use Rattle.std.proofs.Common.{sym, arith}
use Rattle.byte_strings.specs.Bytes.{order}
use Rattle.ordered_table.specs.Table.{place}
use Rattle.ordered_table.proofs.Edits.{ascending_cut}
use Rattle.storage.proofs.Bare.{drop_absent, drop_done, drop_leaves}
use Rattle.row_chain.specs.Chains.{rows}
use Rattle.row_chain.proofs.Seats.{before_within}
use Rattle.row_chain.proofs.Unlinks.{index_lt, seat_within, taken_out}
use Rattle.row_chain.proofs.file.RowChainKeyRowFile.drop_row.Goals as goal

pub returns-in_default-clause-value : goal.returns-in_default-clause-value
returns-in_default-clause-value c = grind (arith, drop_absent)

pub unlink-requires : goal.unlink-requires
unlink-requires c =
    let self = c.args.self.now in
    let row = c.args.row.now in
    let seat = c.in-Ok.seat in
    let here = c.in-Ok.ensures in
    let l = index_lt self.linked row seat self.whole here.seat (sym here.found) in
    let at = seat_within self.linked row seat self.whole here.seat (sym here.found) in
    let before = before_within self.linked self.whole seat.index seat.before here.seat.before in
    grind arith

pub invariant_of-self : goal.invariant_of-self
invariant_of-self c =
    let self = c.args.self.now in
    let chain = self.linked in
    let row = c.args.row.now in
    let here = c.in-Ok.ensures in
    let new = taken_out chain row c.in-Ok.seat self.whole here.seat (sym here.found) self.within c.unlink.new.self c.unlink.ensures in
    let cut = ascending_cut order (rows chain) (place order (rows chain) row) self.ascending in
    record { within = grind arith; whole = new.1; ascending = rw new.2 cut }

pub returns : goal.returns
returns c =
    let self = c.args.self.now in
    let chain = self.linked in
    let row = c.args.row.now in
    let here = c.in-Ok.ensures in
    let held = sym here.found in
    let new = taken_out chain row c.in-Ok.seat self.whole here.seat held self.within c.unlink.new.self c.unlink.ensures in
    let done = drop_done (rows chain) row held in
    let leaves = drop_leaves (rows chain) row self.ascending held in
    grind arith
