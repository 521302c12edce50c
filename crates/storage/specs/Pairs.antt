-- A list of pairs, a key and what stands under it, with the keys strictly ascending.
--     Ascending, short      the keys ascend strictly; none is longer than n bytes
--     keys, total           the keys in their order; the number of all bytes under them
--     under                 what stands under a key
--     next                  the lowest key at or above a string, or strictly above it
--     placed, replaced, without     the list with a pair put in at its place, changed or taken out
use Rattle.std.specs.Prelude.{ℕ, ◌+◌, Bool, cond, not, List, [], ◌∷◌, map, length, Some, None, Option, nat_le}
use Rattle.std.specs.List.{list_all}
use Rattle.ordered_table.specs.Table as table
use Rattle.byte_strings.specs.Bytes.{Bytes, order, below, same}
use Rattle.storage.specs.declared.mark.PositionMark.{PositionMark}
use Rattle.storage.specs.declared.mark.PositionMark.TheVariants.{At, Beyond}

abbrev pub Ascending : List Bytes → Type 0
Ascending ks = table.Ascending order ks

abbrev pub short : ℕ → List Bytes → Bool
short n ks = list_all (λ k. nat_le (length k) n) ks

unfoldable pub total : List (Bytes × Bytes) → ℕ
total [] = 0
total (p ∷ ps) = length p.1 + total ps

abbrev pub reached : PositionMark → Bytes → Bytes → Bool
reached At from k = not (below k from)
reached Beyond from k = below from k

-- in an ascending list the first key that is reached is the lowest
unfoldable pub next : PositionMark → Bytes → List Bytes → Option Bytes
next mark from [] = None
next mark from (k ∷ ks) = cond (reached mark from k) (Some k) (next mark from ks)

module _ {A : Type 0} where
  abbrev pub keys : List (Bytes × A) → List Bytes
  keys ps = map (λ p. p.0) ps

  unfoldable pub under : Bytes → List (Bytes × A) → Option A
  under κ [] = None
  under κ (p ∷ ps) = cond (same p.0 κ) (Some p.1) (under κ ps)

  -- before the first pair with a higher key
  unfoldable pub placed : Bytes → A → List (Bytes × A) → List (Bytes × A)
  placed κ a [] = (κ, a) ∷ []
  placed κ a (p ∷ ps) = cond (below κ p.0) ((κ, a) ∷ p ∷ ps) (p ∷ placed κ a ps)

  unfoldable pub replaced : Bytes → A → List (Bytes × A) → List (Bytes × A)
  replaced κ a [] = []
  replaced κ a (p ∷ ps) = cond (same p.0 κ) ((κ, a) ∷ ps) (p ∷ replaced κ a ps)

  unfoldable pub without : Bytes → List (Bytes × A) → List (Bytes × A)
  without κ [] = []
  without κ (p ∷ ps) = cond (same p.0 κ) (without κ ps) (p ∷ without κ ps)
