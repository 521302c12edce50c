use Rattle.std.proofs.Common.{[], arith, rules}
use Rattle.std.proofs.lemmas.Option.{slice_get-get_or, slice_get_past}
use Rattle.storage.proofs.Places.{next-at}
use Rattle.row_chain.specs.Chains.{rows}
use Rattle.row_chain.proofs.Seats.{length-rows, at_within, row_at}
use Rattle.row_chain.proofs.chain.RowChain.next.Goals as goal

pub bounds-slots-seat : goal.bounds-slots-seat
bounds-slots-seat c =
    let self = c.args.self.now in
    let seat = c.seek_next-seat in
    at_within self.linked self.whole seat.result.index seat.result.at seat.ensures.at c.if-seat-self.false

pub offset_bounds-slots-seat : goal.offset_bounds-slots-seat
offset_bounds-slots-seat c = let l = bounds-slots-seat c in search rules

pub returns-then-seat-self : goal.returns-then-seat-self
returns-then-seat-self c =
    let self = c.args.self.now in
    let n = length-rows self.linked in
    let seat = c.seek_next-seat in
    let at = next-at c.args.mark c.args.from.now (rows self.linked) self.ascending in
    grind (arith, slice_get_past)

pub returns : goal.returns
returns c =
    let self = c.args.self.now in
    let rs = rows self.linked in
    let n = length-rows self.linked in
    let seat = c.seek_next-seat in
    let l = c.if-seat-self.false in
    let within = at_within self.linked self.whole seat.result.index seat.result.at seat.ensures.at l in
    let row = row_at self.linked seat.result.index seat.result.at c.index-slots-seat.result seat.ensures.at within l in
    let at = next-at c.args.mark c.args.from.now rs self.ascending in
    let there = slice_get-get_or rs seat.result.index [] in
    grind arith
