use Rattle.std.proofs.Common.{refl}
use Rattle.row_chain.proofs.Slots.{links-set, texts-kept}
use Rattle.row_chain.proofs.links.LinkedSlots.relink.Goals as goal

pub returns-in-Some : goal.returns-in-Some
returns-in-Some c =
    let self = c.args.self.now in
    let slots = self.slots.now in
    let slot = c.in-Some.slot in
    let is = c.in-Some.is in
    let within = rw is at c.requires in
    record {
      texts_after = texts-kept slots slot c.index-self-slot.result within _ refl;
      links_after = rw is (links-set slots slot _);
      head_after = rw is refl;
      free_after = refl;
      count_after = refl;
    }
