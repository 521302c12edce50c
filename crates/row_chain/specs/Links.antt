-- The links of slots, each the number of the slot that comes next.
--     texts, links             the rows in the slots, and their links
--     follow                   the slot that i links lead to
--     walk                     the n slots from one on
--     slot_before              the slot whose link leads to the i-th of a chain; to the first leads the head
--     Among                    a slot, if there is any, is one of the first n
--     redirected, new_head     the links and the head, once what led to a slot leads to another
use Rattle.std.specs.Prelude.{ℕ, zero, suc, ◌<◌, List, [], ◌∷◌, map, Some, None, Option, slice_index, slice_set}
use Rattle.byte_strings.specs.Bytes.{Bytes}
use Rattle.byte_strings.specs.Texts.{text}
use Rattle.row_chain.specs.declared.slot.Slot.{Slot}

abbrev pub texts : List Slot → List Bytes
texts slots = map (λ slot. text slot.row) slots

abbrev pub links : List Slot → List ℕ
links slots = map (λ slot. slot.next) slots

module _ (ns : List ℕ) where
  abbrev pub follow : ℕ → ℕ → ℕ
  follow a zero = a
  follow a (suc i) = follow (slice_index ns a) i

  unfoldable pub walk : ℕ → ℕ → List ℕ
  walk a zero = []
  walk a (suc n) = a ∷ walk (slice_index ns a) n

  abbrev pub slot_before : ℕ → ℕ → Option ℕ
  slot_before head zero = None
  slot_before head (suc i) = Some (follow head i)

abbrev pub Among : ℕ → Option ℕ → Type 0
Among n None = Unit {0}
Among n (Some slot) = slot < n

abbrev pub redirected : Option ℕ → ℕ → List ℕ → List ℕ
redirected None to ns = ns
redirected (Some before) to ns = slice_set ns before to

abbrev pub new_head : Option ℕ → ℕ → ℕ → ℕ
new_head None to head = to
new_head (Some before) to head = head
