use Rattle.std.proofs.Common.{Less, Equal, Greater, arith, rules}
use Rattle.row_chain.proofs.Seeks.{within, order-at, reached_on, seated_equal, seated_greater, seated_end}
use Rattle.row_chain.proofs.chain.RowChain.seek.Goals as goal

pub bounds-slots-at : goal.bounds-slots-at
bounds-slots-at c = within c.loop-index.invariant c.args.self.now.whole c.loop-index-test.true

pub offset_bounds-slots-at : goal.offset_bounds-slots-at
offset_bounds-slots-at c = let l = bounds-slots-at c in search rules

pub loop-index-preserved : goal.loop-index-preserved
loop-index-preserved c =
    let here = c.loop-index.invariant in
    let whole = c.args.self.now.whole in
    let l = c.loop-index-test.true in
    let slot = c.index-slots-at in
    reached_on here whole l slot.result slot.is
    (order-at here whole l slot.result slot.is c.as_slice.result.now Less c.as_slice.ensures c.in-Less.ensures.value)

pub returns-in-Equal : goal.returns-in-Equal
returns-in-Equal c =
    let here = c.loop-index.invariant in
    let self = c.args.self.now in
    let l = c.loop-index-test.true in
    let slot = c.index-slots-at in
    let compared = order-at here self.whole l slot.result slot.is c.as_slice.result.now Equal c.as_slice.ensures c.in-Equal.ensures.value in
    let s = seated_equal here self.ascending l compared in
    grind arith

pub returns-in-Greater : goal.returns-in-Greater
returns-in-Greater c =
    let here = c.loop-index.invariant in
    let self = c.args.self.now in
    let l = c.loop-index-test.true in
    let slot = c.index-slots-at in
    let compared = order-at here self.whole l slot.result slot.is c.as_slice.result.now Greater c.as_slice.ensures c.in-Greater.ensures.value in
    let s = seated_greater here self.ascending l compared in
    grind arith

pub returns : goal.returns
returns c =
    let here = c.loop-index.invariant in
    let s = seated_end here c.args.self.now.ascending (omega arith) in
    grind arith
