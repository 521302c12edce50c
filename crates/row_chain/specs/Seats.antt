-- Seats in the chain of the rows, and what a change at a seat leaves.
--     Seated                          where a row stands, or would stand
--     Relinked, Spliced, Unlinked     what led to a seat leads to another slot; a row put in; a row taken out
use Rattle.std.specs.Prelude.{◌≡◌, ℕ, suc, pred, Option, slice_index, slice_set}
use Rattle.byte_strings.specs.Bytes.{Bytes, order}
use Rattle.ordered_table.specs.Table.{place}
use Rattle.row_chain.specs.declared.links.LinkedSlots.{LinkedSlots}
use Rattle.row_chain.specs.declared.seat.Seat.{Seat}
use Rattle.row_chain.specs.Chains.{rows}
use Rattle.row_chain.specs.Links.{texts, links, follow, slot_before, redirected, new_head}

pub record Seated (chain : LinkedSlots) (row : Bytes) (seat : Seat) : Type 0 where
  pub index : seat.index ≡ place order (rows chain) row
  pub before : seat.before ≡ slot_before (links chain.slots.now) chain.head seat.index
  pub at : seat.at ≡ follow (links chain.slots.now) chain.head seat.index

pub record Relinked (chain : LinkedSlots) (before : Option ℕ) (to : ℕ) (after : LinkedSlots) : Type 0 where
  pub texts_after : texts after.slots.now ≡ texts chain.slots.now
  pub links_after : links after.slots.now ≡ redirected before to (links chain.slots.now)
  pub head_after : after.head ≡ new_head before to chain.head
  pub free_after : after.free ≡ chain.free
  pub count_after : after.count ≡ chain.count

-- the row goes into the first free slot, and that slot into the seat
pub record Spliced (chain : LinkedSlots) (seat : Seat) (row : Bytes) (after : LinkedSlots) : Type 0 where
  pub texts_after : texts after.slots.now ≡ slice_set (texts chain.slots.now) chain.free row
  pub links_after : links after.slots.now ≡ redirected seat.before chain.free (slice_set (links chain.slots.now) chain.free seat.at)
  pub head_after : after.head ≡ new_head seat.before chain.free chain.head
  pub free_after : after.free ≡ slice_index (links chain.slots.now) chain.free
  pub count_after : after.count ≡ suc chain.count

-- the slot leaves the seat, and becomes the first free one
pub record Unlinked (chain : LinkedSlots) (seat : Seat) (after : LinkedSlots) : Type 0 where
  pub texts_after : texts after.slots.now ≡ texts chain.slots.now
  pub links_after : links after.slots.now ≡ redirected seat.before (slice_index (links chain.slots.now) seat.at) (slice_set (links chain.slots.now) seat.at chain.free)
  pub head_after : after.head ≡ new_head seat.before (slice_index (links chain.slots.now) seat.at) chain.head
  pub free_after : after.free ≡ seat.at
  pub count_after : after.count ≡ pred chain.count
