use Rattle.std.proofs.Common.{refl, ◌+◌, length, zero-le, arith}
use Rattle.std.proofs.lemmas.List.{get_or-set_same, get_or-set_other}
use Rattle.row_chain.specs.Links.{links, walk}
use Rattle.row_chain.proofs.Fresh.{all_once}
use Rattle.row_chain.proofs.Slots.{length-links, links-set}
use Rattle.row_chain.proofs.chain.RowChain.over.Goals as goal

pub loop-i-preserved : goal.loop-i-preserved
loop-i-preserved c k h =
    let slots = c.loop-i.slots in
    let i = c.loop-i.i in
    let n = length-links slots in
    let before = c.loop-i.invariant k in
    let other = get_or-set_other (links slots) i k (i + 1) 0 in
    let same = get_or-set_same (links slots) i (i + 1) 0 in
    grind (arith, links-set)

pub invariant_of-result : goal.invariant_of-result
unfolding walk
invariant_of-result c =
    let slots = c.loop-i.slots in
    record { within = zero-le; whole = all_once (links slots) (length slots) (λ k h. c.loop-i.invariant k (omega arith)); ascending = tt }

pub returns-clause-rows : goal.returns-clause-rows
unfolding walk
returns-clause-rows c = refl
