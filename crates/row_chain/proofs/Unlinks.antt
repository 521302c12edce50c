-- The chain after a row has been taken out. Assumes nothing.
use Rattle.std.proofs.Common.{◌≡◌, ℕ, suc, pred, ◌-◌, ◌<◌, ◌≤◌, true, List, [], ◌∷◌, ◌++◌, length, get_or, set, refl, arith}
use Rattle.std.specs.List.{remove}
use Rattle.byte_strings.specs.Bytes.{Bytes, order}
use Rattle.ordered_table.specs.Table.{holds, place}
use Rattle.ordered_table.proofs.Edits.{map-removed}
use Rattle.ordered_table.proofs.Places.{place_lt}
use Rattle.row_chain.specs.declared.links.LinkedSlots.{LinkedSlots}
use Rattle.row_chain.specs.declared.seat.Seat.{Seat}
use Rattle.row_chain.specs.declared.slot.Slot.{Slot}
use Rattle.row_chain.specs.Chains.{used, unused, rows, times, Once, Whole}
use Rattle.row_chain.specs.Links.{texts, links, walk, redirected, new_head}
use Rattle.row_chain.specs.Seats.{Seated, Unlinked}
use Rattle.row_chain.proofs.Counts.{alone, once_later}
use Rattle.row_chain.proofs.Relinks.{rejoined}
use Rattle.row_chain.proofs.Seats.{length-rows, whole_from}
use Rattle.row_chain.proofs.Slots.{length-links, length-after}
use Rattle.row_chain.proofs.Walks.{length-walk, walk_at, walk_past, walk_through}

removed_at : (xs ys : List ℕ) (x : ℕ) → remove (xs ++ x ∷ ys) (length xs) ≡ xs ++ ys
removed_at [] ys x = refl
removed_at (z ∷ zs) ys x = let ih = removed_at zs ys x in cc

module _ (chain : LinkedSlots) (row : Bytes) (seat : Seat) (whole : Whole chain) (seated : Seated chain row seat) (held : holds order (rows chain) row ≡ true) where
  abbrev slots : List Slot
  slots = chain.slots.now

  abbrev ns : List ℕ
  ns = links slots

  -- the slots before the seat, those behind it, and the free ones
  abbrev front : List ℕ
  front = walk ns chain.head seat.index

  abbrev next : ℕ
  next = get_or ns seat.at 0

  abbrev behind : List ℕ
  behind = walk ns next (chain.count - suc seat.index)

  pub index_lt : seat.index < chain.count
  index_lt = let p = place_lt order (rows chain) row held in let n = length-rows chain in let i = seated.index in omega arith

  split : used chain ≡ front ++ seat.at ∷ behind
  split =
      let l = index_lt in
      let m = chain.count - suc seat.index in
      let at = seated.at in
      let through = walk_at ns chain.head seat.index m chain.count (omega arith) in
      cc

  parts : Once (length slots) ((front ++ behind) ++ seat.at ∷ unused chain)
  parts =
      once_later seat.at front behind (unused chain) (length slots) (λ j. let s = split in let h = whole j in cc)

  apart : (seat.at < length slots) × (times seat.at front ≡ 0) × (times seat.at behind ≡ 0) × (times seat.at (unused chain) ≡ 0)
  apart = alone seat.at front behind (unused chain) (length slots) parts

  pub seat_within : seat.at < length slots
  seat_within = apart.0

  module _ (within : chain.count ≤ length slots) (after : LinkedSlots) (u : Unlinked chain seat after) where
    abbrev new_links : List ℕ
    new_links = redirected seat.before next (set ns seat.at chain.free)

    abbrev left : ℕ
    left = length slots - chain.count

    as_many : length after.slots.now ≡ length slots
    as_many = length-after slots after.slots.now seat.before next seat.at chain.free u.links_after

    walks : (walk new_links (new_head seat.before next chain.head) (pred chain.count) ≡ front ++ behind) × (walk new_links seat.at (suc left) ≡ seat.at ∷ unused chain)
    walks =
        let n = length-links slots in
        let l = index_lt in
        let m = chain.count - suc seat.index in
        let lt : seat.at < length ns = let a = apart.0 in omega arith in
        rejoined (length slots) ns chain.head seat.index seat.before seat.at chain.free next m (pred chain.count) seat.at (suc left) behind (seat.at ∷ unused chain) (omega arith) (omega arith) seated.before apart.1
        (walk_past ns seat.at chain.free next m apart.2).0
        (walk_through ns seat.at chain.free left lt apart.3)
        parts

    used-after : used after ≡ front ++ behind
    used-after = rw (u.links_after, u.head_after, u.count_after) walks.0

    unused-after : unused after ≡ seat.at ∷ unused chain
    unused-after =
        let n = as_many in
        let c = u.count_after in
        let l = index_lt in
        let e : length after.slots.now - after.count ≡ suc left = omega arith in
        rw (e, u.links_after, u.free_after) walks.1

    whole_after : Whole after
    whole_after =
        whole_from after (length slots) (front ++ behind) (seat.at ∷ unused chain) as_many used-after unused-after parts

    rows-after : rows after ≡ remove (rows chain) (place order (rows chain) row)
    rows-after =
        let cut = removed_at front behind seat.at in
        let n = length-walk ns chain.head seat.index in
        let parted = split in
        let way : used after ≡ remove (used chain) seat.index = rw used-after cc in
        rw (u.texts_after, way, ← seated.index) (map-removed (λ (i : ℕ). get_or (texts slots) i []) (used chain) seat.index)

    pub taken_out : (length after.slots.now ≡ length slots) × Whole after × (rows after ≡ remove (rows chain) (place order (rows chain) row))
    taken_out = (as_many, whole_after, rows-after)
