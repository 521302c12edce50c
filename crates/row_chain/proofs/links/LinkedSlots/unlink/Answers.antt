use Rattle.std.proofs.Common.{get_or, refl, arith}
use Rattle.row_chain.specs.declared.slot.Slot.{Slot}
use Rattle.row_chain.proofs.Slots.{texts-kept, links-set, link_at}
use Rattle.row_chain.proofs.links.LinkedSlots.unlink.Goals as goal

pub returns : goal.returns
returns c =
    let self = c.args.self.now in
    let slots = self.slots.now in
    let seat = c.args.seat in
    let d = c.index-self-seat.result in
    let slot : Slot = record { row = (get_or slots seat.at c.index-self-seat-2.result).row; next = self.free } in
    let link = link_at slots seat.at d c.requires.at in
    let e = c.relink.ensures in
    let texts = texts-kept slots seat.at c.index-self-seat-2.result c.requires.at slot refl in
    let links = links-set slots seat.at slot in
    grind arith
