use Rattle.std.proofs.Common.{length, sym, arith}
use Rattle.std.proofs.lemmas.List.{take_all}
use Rattle.byte_strings.proofs.TotalOrder.{total_order}
use Rattle.ordered_table.proofs.Edits.{ascending_put}
use Rattle.storage.proofs.Bare.{row_passed, add_present, add_full, add_done, add_leaves}
use Rattle.row_chain.specs.Chains.{rows}
use Rattle.row_chain.proofs.Seats.{length-rows, before_within}
use Rattle.row_chain.proofs.Splices.{index_le, fresh_within, spliced_in}
use Rattle.row_chain.proofs.file.RowChainKeyRowFile.add.Goals as goal

pub returns-in_default-clause-value : goal.returns-in_default-clause-value
returns-in_default-clause-value c =
    let legal = row_passed c.args.row.now tt c.in_ok-check_row.ensures in
    grind (arith, add_present)

pub returns-then-self-clause-value : goal.returns-then-self-clause-value
returns-then-self-clause-value c =
    let legal = row_passed c.args.row.now tt c.in_ok-check_row.ensures in
    let n = length-rows c.args.self.now.linked in
    grind (arith, add_full)

pub splice-requires-clause-fresh : goal.splice-requires-clause-fresh
splice-requires-clause-fresh c =
    let self = c.args.self.now in
    fresh_within self.linked c.args.row.now c.in-Err.seat self.whole c.if-self.false c.in-Err.ensures.seat

pub splice-requires-clause-before : goal.splice-requires-clause-before
splice-requires-clause-before c =
    let self = c.args.self.now in
    let seat = c.in-Err.seat in
    let seated = c.in-Err.ensures.seat in
    before_within self.linked self.whole seat.index seat.before seated.before (index_le self.linked c.args.row.now seat self.whole c.if-self.false seated)

pub invariant_of-self : goal.invariant_of-self
invariant_of-self c =
    let self = c.args.self.now in
    let chain = self.linked in
    let row = c.args.row.now in
    let here = c.in-Err.ensures in
    let spliced = rw (c.front_of.ensures, take_all 66 row (row_passed row tt c.in_ok-check_row.ensures).1) at c.splice.ensures in
    let new = spliced_in chain row c.in-Err.seat self.whole c.if-self.false here.seat c.splice.new.self spliced in
    let put = ascending_put total_order (rows chain) row self.ascending (sym here.found) in
    record { within = omega (arith, new.0, spliced.count_after); whole = new.1; ascending = rw new.2 put }

pub returns : goal.returns
returns c =
    let self = c.args.self.now in
    let chain = self.linked in
    let row = c.args.row.now in
    let here = c.in-Err.ensures in
    let legal = row_passed row tt c.in_ok-check_row.ensures in
    let spliced = rw (c.front_of.ensures, take_all 66 row legal.1) at c.splice.ensures in
    let new = spliced_in chain row c.in-Err.seat self.whole c.if-self.false here.seat c.splice.new.self spliced in
    let n = length-rows chain in
    let done = add_done (rows chain) row (length chain.slots.now) legal.0 in
    let leaves = add_leaves (rows chain) row in
    grind arith
