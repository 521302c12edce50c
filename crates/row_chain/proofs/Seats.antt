-- What stands at a place in the chain of the rows. Assumes nothing.
use Rattle.std.proofs.Common.{◌≡◌, ℕ, zero, suc, ◌-◌, ◌<◌, ◌≤◌, List, [], ◌++◌, length, get_or, Option, arith}
use Rattle.std.proofs.lemmas.List.{length-map, get_or-map}
use Rattle.byte_strings.specs.Texts.{text}
use Rattle.row_chain.specs.declared.links.LinkedSlots.{LinkedSlots}
use Rattle.row_chain.specs.declared.slot.Slot.{Slot}
use Rattle.row_chain.specs.Chains.{used, unused, rows, Once, Whole}
use Rattle.row_chain.specs.Links.{texts, links, follow, slot_before, Among}
use Rattle.std.proofs.lemmas.Bool.Decides.{nat_tests}
use Rattle.row_chain.proofs.Counts.{times-append, times-cons}
use Rattle.row_chain.proofs.Slots.{text_at, link_at}
use Rattle.row_chain.proofs.Walks.{follow-next, length-walk, walk_at, get_or-walk}

module _ (chain : LinkedSlots) where
  abbrev slots : List Slot
  slots = chain.slots.now

  abbrev ns : List ℕ
  ns = links slots

  pub length-rows : length (rows chain) ≡ chain.count
  length-rows = let n = length-walk ns chain.head chain.count in grind (arith, length-map)

  pub whole_from : (size : ℕ) (xs ys : List ℕ) → length slots ≡ size → used chain ≡ xs → unused chain ≡ ys → Once size (xs ++ ys) → Whole chain
  whole_from size xs ys n u f once j = let h = once j in cc

  module _ (whole : Whole chain) where
    follow_within : (i : ℕ) → i < chain.count → follow ns chain.head i < length slots
    follow_within i l =
        let split = walk_at ns chain.head i (chain.count - suc i) chain.count in
        let h = whole (follow ns chain.head i) in
        grind (arith, nat_tests, times-append, times-cons)

    pub at_within : (i at : ℕ) → at ≡ follow ns chain.head i → i < chain.count → at < length slots
    at_within i at is l = rw is (follow_within i l)

    pub before_within : (i : ℕ) (before : Option ℕ) → before ≡ slot_before ns chain.head i → i ≤ chain.count → Among (length slots) before
    before_within zero before is l = rw is tt
    before_within (suc i) before is l = rw is (follow_within i l)

  module _ (i at : ℕ) (slot : Slot) (is : at ≡ follow ns chain.head i) (within : at < length slots) where
    pub row_at : i < chain.count → get_or (rows chain) i [] ≡ text (get_or slots at slot).row
    row_at l =
        let n = length-walk ns chain.head chain.count in
        let read = get_or-map (λ (j : ℕ). get_or (texts slots) j []) (used chain) i 0 [] in
        let there = get_or-walk ns chain.head i chain.count l in
        let held = text_at slots at slot within in
        grind arith

    pub next-at : (get_or slots at slot).next ≡ follow ns chain.head (suc i)
    next-at =
        let link = link_at slots at slot within in
        let on = follow-next ns chain.head i in
        cc
