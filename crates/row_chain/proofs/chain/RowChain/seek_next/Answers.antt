use Rattle.std.proofs.Common.{Some, ap, sym, add-one, rules}
use Rattle.row_chain.proofs.Seats.{next-at}
use Rattle.row_chain.proofs.Unlinks.{index_lt, seat_within}
use Rattle.row_chain.proofs.chain.RowChain.seek_next.Goals as goal

pub overflow_add-result : goal.overflow_add-result
overflow_add-result c =
    let self = c.args.self.now in
    let here = c.in-Ok-Beyond.ensures in
    let l = index_lt self.linked c.args.from.now c.in-Ok-Beyond.seat self.whole here.seat (sym here.found) in
    let w = self.within in
    search rules

pub bounds-self-seat : goal.bounds-self-seat
bounds-self-seat c =
    let self = c.args.self.now in
    let here = c.in-Ok-Beyond.ensures in
    seat_within self.linked c.args.from.now c.in-Ok-Beyond.seat self.whole here.seat (sym here.found)

pub offset_bounds-self-seat : goal.offset_bounds-self-seat
offset_bounds-self-seat c = let l = bounds-self-seat c in search rules

pub returns-in-Ok-Beyond-clause-before : goal.returns-in-Ok-Beyond-clause-before
returns-in-Ok-Beyond-clause-before c = rw (add-one c.in-Ok-Beyond.seat.index) (ap Some c.in-Ok-Beyond.ensures.seat.at)

pub returns-in-Ok-Beyond-clause-at : goal.returns-in-Ok-Beyond-clause-at
returns-in-Ok-Beyond-clause-at c =
    let self = c.args.self.now in
    let seat = c.in-Ok-Beyond.seat in
    let here = c.in-Ok-Beyond.ensures in
    let within = seat_within self.linked c.args.from.now seat self.whole here.seat (sym here.found) in
    rw (add-one seat.index) (next-at self.linked seat.index seat.at c.index-self-seat.result here.seat.at within)
