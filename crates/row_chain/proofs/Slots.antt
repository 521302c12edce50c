-- What a write to one slot leaves of the rows and of the links. Assumes nothing.
use Rattle.std.proofs.Common.{◌≡◌, ℕ, ◌<◌, List, [], length, get_or, set, Option, arith}
use Rattle.std.proofs.lemmas.List.{length-map, length-set, map-set, get_or-map, set-get_or}
use Rattle.byte_strings.specs.Texts.{text}
use Rattle.row_chain.specs.declared.slot.Slot.{Slot}
use Rattle.row_chain.specs.Links.{texts, links, redirected}

module _ (slots : List Slot) where
  pub length-links : length (links slots) ≡ length slots
  length-links = length-map slots (λ (s : Slot). s.next)

  module _ (i : ℕ) where
    pub texts-set : (slot : Slot) → texts (set slots i slot) ≡ set (texts slots) i (text slot.row)
    texts-set slot = map-set (λ (s : Slot). text s.row) slots i slot

    pub links-set : (slot : Slot) → links (set slots i slot) ≡ set (links slots) i slot.next
    links-set slot = map-set (λ (s : Slot). s.next) slots i slot

    module _ (d : Slot) (within : i < length slots) where
      pub text_at : get_or (texts slots) i [] ≡ text (get_or slots i d).row
      text_at = get_or-map (λ (s : Slot). text s.row) slots i d [] within

      pub link_at : get_or (links slots) i 0 ≡ (get_or slots i d).next
      link_at = get_or-map (λ (s : Slot). s.next) slots i d 0 within

      pub texts-kept : (slot : Slot) → slot.row ≡ (get_or slots i d).row → texts (set slots i slot) ≡ texts slots
      texts-kept slot e =
          let same = texts-set slot in
          let held = text_at in
          grind (arith, set-get_or)

length-redirected : (before : Option ℕ) (to : ℕ) (ns : List ℕ) → length (redirected before to ns) ≡ length ns
length-redirected before to ns = grind (arith, length-set)

-- slots whose links differ in two places are as many
pub length-after : (slots after : List Slot) (before : Option ℕ) (to x v : ℕ) → links after ≡ redirected before to (set (links slots) x v) → length after ≡ length slots
length-after slots after before to x v e = grind (arith, length-links, length-redirected, length-set)
