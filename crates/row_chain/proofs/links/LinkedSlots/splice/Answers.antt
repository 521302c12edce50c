use Rattle.std.proofs.Common.{arith}
use Rattle.row_chain.specs.declared.slot.Slot.{Slot}
use Rattle.row_chain.proofs.Slots.{texts-set, links-set, link_at}
use Rattle.row_chain.proofs.links.LinkedSlots.splice.Goals as goal

pub returns : goal.returns
returns c =
    let self = c.args.self.now in
    let slots = self.slots.now in
    let seat = c.args.seat in
    let slot : Slot = record { row = c.args.row; next = seat.at } in
    let e = c.relink.ensures in
    let texts = texts-set slots self.free slot in
    let links = links-set slots self.free slot in
    let link = link_at slots self.free c.index-self-fresh.result c.requires.fresh in
    grind arith
