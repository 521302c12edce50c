-- A search along the chain comes to the row's seat. Assumes nothing.
use Rattle.std.proofs.Common.{◌≡◌, ℕ, ◌+◌, ◌<◌, ◌≤◌, true, false, [], length, get_or, Some, Ordering, Less, Equal, Greater, ap, add-one, below_more, arith}
use Rattle.byte_strings.specs.Bytes.{Bytes, order}
use Rattle.byte_strings.specs.Texts.{text}
use Rattle.byte_strings.proofs.TotalOrder.{total_order}
use Rattle.ordered_table.specs.Table.{Ascending, holds}
use Rattle.ordered_table.proofs.Places.{found_at, missing_at, greater_on}
use Rattle.row_chain.specs.declared.links.LinkedSlots.{LinkedSlots}
use Rattle.row_chain.specs.declared.seat.Seat.{Seat}
use Rattle.row_chain.specs.declared.slot.Slot.{Slot}
use Rattle.row_chain.specs.Chains.{rows, Whole}
use Rattle.row_chain.specs.Links.{links, follow, slot_before}
use Rattle.row_chain.specs.Seats.{Seated}
use Rattle.row_chain.proofs.Seats.{length-rows, at_within, row_at, next-at}

-- the search has come to a seat: all rows before it come before the row
pub record Reached (chain : LinkedSlots) (row : Bytes) (seat : Seat) : Type 0 where
  pub before : seat.before ≡ slot_before (links chain.slots.now) chain.head seat.index
  pub at : seat.at ≡ follow (links chain.slots.now) chain.head seat.index
  pub below : (k : ℕ) → k < seat.index → order (get_or (rows chain) k []) row ≡ Less

module _ {chain : LinkedSlots} {row : Bytes} {seat : Seat} (here : Reached chain row seat) where
  module _ (whole : Whole chain) (l : seat.index < chain.count) where
    pub within : seat.at < length chain.slots.now
    within = at_within chain whole seat.index seat.at here.at l

    module _ (slot : Slot) (read : slot ≡ get_or chain.slots.now seat.at slot) where
      -- how the row there compares
      pub order-at : (key : Bytes) (r : Ordering) → key ≡ text slot.row → r ≡ order key row → order (get_or (rows chain) seat.index []) row ≡ r
      order-at key r told said = let at = row_at chain seat.index seat.at slot here.at within l in grind arith

      pub reached_on : order (get_or (rows chain) seat.index []) row ≡ Less → Reached chain row (record { index = seat.index + 1; before = Some seat.at; at = slot.next })
      reached_on less =
          let on = add-one seat.index in
          record {
            before = rw on (ap Some here.at);
            at = rw (on, read) (next-at chain seat.index seat.at slot here.at within);
            below = below_more _ _ here.below less;
          }

  module _ (up : Ascending order (rows chain)) where
    pub seated_equal : seat.index < chain.count → order (get_or (rows chain) seat.index []) row ≡ Equal → (true ≡ holds order (rows chain) row) × Seated chain row seat
    seated_equal l e =
        let n = length-rows chain in
        let there = found_at total_order (rows chain) row [] seat.index up in
        grind arith

    missing : seat.index ≤ chain.count → ((k : ℕ) → seat.index ≤ k → k < length (rows chain) → order (get_or (rows chain) k []) row ≡ Greater) → (false ≡ holds order (rows chain) row) × Seated chain row seat
    missing l above =
        let n = length-rows chain in
        let there = missing_at order (rows chain) row [] seat.index (omega arith) here.below above in
        grind arith

    pub seated_greater : seat.index < chain.count → order (get_or (rows chain) seat.index []) row ≡ Greater → (false ≡ holds order (rows chain) row) × Seated chain row seat
    seated_greater l e = missing (omega arith) (greater_on total_order (rows chain) row [] seat.index up e)

    pub seated_end : seat.index ≡ chain.count → (false ≡ holds order (rows chain) row) × Seated chain row (record { index = chain.count; before = seat.before; at = seat.at })
    seated_end e =
        let n = length-rows chain in
        let there = missing (omega arith) (λ k h b. absurd (omega arith)) in
        grind arith
