-- The chain after a row has been spliced in. Assumes nothing.
use Rattle.std.proofs.Common.{◌≡◌, ℕ, suc, ◌-◌, ◌<◌, ◌≤◌, List, [], ◌∷◌, ◌++◌, length, get_or, set, refl, ap, arith}
use Rattle.std.specs.List.{insert}
use Rattle.std.proofs.lemmas.List.{get_or-set_same, get_or-set_other, length-map, drop_at, take_at}
use Rattle.byte_strings.specs.Bytes.{Bytes, order}
use Rattle.byte_strings.specs.Texts.{text}
use Rattle.ordered_table.specs.Table.{place}
use Rattle.ordered_table.proofs.Edits.{map-inserted}
use Rattle.ordered_table.proofs.Places.{place_le}
use Rattle.row_chain.specs.declared.links.LinkedSlots.{LinkedSlots}
use Rattle.row_chain.specs.declared.seat.Seat.{Seat}
use Rattle.row_chain.specs.declared.slot.Slot.{Slot}
use Rattle.row_chain.specs.Chains.{used, unused, rows_at, rows, times, Once, Whole}
use Rattle.row_chain.specs.Links.{texts, links, walk, redirected, new_head}
use Rattle.row_chain.specs.Seats.{Seated, Spliced}
use Rattle.row_chain.proofs.Counts.{not_in, times-append, alone, once_earlier}
use Rattle.row_chain.proofs.Relinks.{rejoined}
use Rattle.row_chain.proofs.Seats.{length-rows, whole_from}
use Rattle.row_chain.proofs.Slots.{length-links, length-after}
use Rattle.row_chain.proofs.Walks.{length-walk, walk-on, walk_past, walk_through}

inserted_at : (xs ys : List ℕ) (i x : ℕ) → length xs ≡ i → insert (xs ++ ys) i x ≡ xs ++ x ∷ ys
inserted_at xs ys i x e = λ t. take_at xs ys i e t ++ x ∷ drop_at xs ys i e t

-- a text that is not looked at does not matter
rows_past : (held : List Bytes) (x : ℕ) (row : Bytes) (places : List ℕ) → times x places ≡ 0 → rows_at (set held x row) places ≡ rows_at held places
rows_past held x row [] h = refl
rows_past held x row (i ∷ places) h =
    let apart = not_in x i places h in
    let other = get_or-set_other held x i row [] in
    let ih = rows_past held x row places in
    grind arith

module _ (chain : LinkedSlots) (row : Bytes) (seat : Seat) (whole : Whole chain) (room : chain.count < length chain.slots.now) (seated : Seated chain row seat) where
  abbrev slots : List Slot
  slots = chain.slots.now

  abbrev ns : List ℕ
  ns = links slots

  abbrev fresh : ℕ
  fresh = chain.free

  -- the slots before the seat, those from it on, and the free ones that are left
  abbrev front : List ℕ
  front = walk ns chain.head seat.index

  abbrev back : List ℕ
  back = walk ns seat.at (chain.count - seat.index)

  abbrev left : ℕ
  left = length slots - suc chain.count

  abbrev others : List ℕ
  others = walk ns (get_or ns fresh 0) left

  pub index_le : seat.index ≤ chain.count
  index_le = let p = place_le order (rows chain) row in let n = length-rows chain in let i = seated.index in omega arith

  split : used chain ≡ front ++ back
  split =
      let l = index_le in
      let m = chain.count - seat.index in
      let on = walk-on ns chain.head seat.index m chain.count (omega arith) in
      let at = seated.at in
      cc

  parts : Once (length slots) ((front ++ back) ++ fresh ∷ others)
  unfolding walk
  parts j =
      let e : suc left ≡ length slots - chain.count = omega arith in
      let s = split in
      let h = whole j in
      let f = ap (walk ns fresh) e in
      cc

  apart : (fresh < length slots) × (times fresh front ≡ 0) × (times fresh back ≡ 0) × (times fresh others ≡ 0)
  apart = alone fresh front back others (length slots) parts

  pub fresh_within : fresh < length slots
  fresh_within = apart.0

  module _ (after : LinkedSlots) (s : Spliced chain seat row after) where
    abbrev new_links : List ℕ
    new_links = redirected seat.before fresh (set ns fresh seat.at)

    as_many : length after.slots.now ≡ length slots
    as_many = length-after slots after.slots.now seat.before fresh fresh seat.at s.links_after

    once : Once (length slots) ((front ++ fresh ∷ back) ++ others)
    once = once_earlier fresh front back others (length slots) parts

    walks : (walk new_links (new_head seat.before fresh chain.head) (suc chain.count) ≡ front ++ fresh ∷ back) × (walk new_links (get_or ns fresh 0) left ≡ others)
    walks =
        let n = length-links slots in
        let l = index_le in
        let m = chain.count - seat.index in
        let within : fresh < length ns = let a = apart.0 in omega arith in
        rejoined (length slots) ns chain.head seat.index seat.before fresh seat.at fresh (suc m) (suc chain.count) (get_or ns fresh 0) left (fresh ∷ back) others (omega arith) (omega arith) seated.before apart.1
        (walk_through ns fresh seat.at m within apart.2)
        (walk_past ns fresh seat.at (get_or ns fresh 0) left apart.3).0
        once

    used-after : used after ≡ front ++ fresh ∷ back
    used-after = rw (s.links_after, s.head_after, s.count_after) walks.0

    unused-after : unused after ≡ others
    unused-after =
        let n = as_many in
        let c = s.count_after in
        let e : length after.slots.now - after.count ≡ left = omega arith in
        rw (e, s.links_after, s.free_after) walks.1

    whole_after : Whole after
    whole_after = whole_from after (length slots) (front ++ fresh ∷ back) others as_many used-after unused-after once

    rows-after : rows after ≡ insert (rows chain) (place order (rows chain) row) row
    rows-after =
        let held = texts slots in
        let n = length-map slots (λ (z : Slot). text z.row) in
        let at = apart in
        let parted = split in
        let none : times fresh (used chain) ≡ 0 = grind (arith, times-append) in
        let way = used-after in
        let put = inserted_at front back seat.index fresh (length-walk ns chain.head seat.index) in
        let mapped = map-inserted (λ (i : ℕ). get_or (set held fresh row) i []) (used chain) seat.index fresh in
        let past = rows_past held fresh row (used chain) none in
        let there = get_or-set_same held fresh row [] in
        let texts_after = s.texts_after in
        let index = seated.index in
        grind arith

    pub spliced_in : (length after.slots.now ≡ length slots) × Whole after × (rows after ≡ insert (rows chain) (place order (rows chain) row) row)
    spliced_in = (as_many, whole_after, rows-after)
