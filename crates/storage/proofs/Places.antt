-- Pairs by the place that a key has in the ordered table of the keys. Assumes nothing.
use Rattle.std.proofs.Common.{◌≡◌, true, false, T, List, [], ◌∷◌, Less, refl, arith}
use Rattle.std.specs.List.{slice_get, insert, remove}
use Rattle.byte_strings.specs.Bytes.{Bytes, order, below}
use Rattle.byte_strings.proofs.TotalOrder.{total_order, equal_is, same_order}
use Rattle.ordered_table.specs.Table.{holds, place}
use Rattle.ordered_table.proofs.Edits.{beyond, all_above, none_beyond}
use Rattle.storage.specs.declared.mark.PositionMark.{PositionMark}
use Rattle.storage.specs.declared.mark.PositionMark.TheVariants.{At, Beyond}
use Rattle.storage.specs.Places.{next_place}
use Rattle.storage.specs.Pairs.{Ascending, next, keys, placed, without}

-- ---- pairs under keys

module _ {A : Type 0} where
  -- a pair under a new key goes in at the key's place
  pub placed_at : (κ : Bytes) (a : A) (ps : List (Bytes × A)) → holds order (keys ps) κ ≡ false → placed κ a ps ≡ insert ps (place order (keys ps) κ) (κ, a)
  unfolding placed holds place below
  placed_at κ a [] h = refl
  placed_at κ a (p ∷ ps) h =
      let flip = total_order.antisymm κ p.0 in
      let ih : holds order (keys ps) κ ≡ false → placed κ a ps ≡ insert ps (place order (keys ps) κ) (κ, a) = placed_at κ a ps in
      grind arith

  pub without-none : (κ : Bytes) (ps : List (Bytes × A)) → holds order (keys ps) κ ≡ false → without κ ps ≡ ps
  unfolding without holds
  without-none κ [] h = refl
  without-none κ (p ∷ ps) h =
      let ih : holds order (keys ps) κ ≡ false → without κ ps ≡ ps = without-none κ ps in
      grind (arith, same_order)

  -- the pair under a key comes out at the key's place
  pub without_at : (κ : Bytes) (ps : List (Bytes × A)) → Ascending (keys ps) → holds order (keys ps) κ ≡ true → without κ ps ≡ remove ps (place order (keys ps) κ)
  unfolding without holds place
  without_at κ [] up h = cc
  without_at κ (p ∷ ps) up h =
      let flip = total_order.antisymm κ p.0 in
      let equal = equal_is p.0 κ in
      let above = λ (l : order κ p.0 ≡ Less). all_above total_order κ p.0 l (keys ps) in
      let none = none_beyond total_order κ (keys ps) in
      let ih : Ascending (keys ps) → holds order (keys ps) κ ≡ true → without κ ps ≡ remove ps (place order (keys ps) κ) = without_at κ ps in
      grind (arith, same_order, without-none)

-- all the keys are above: the first is the next
first_beyond : (x : Bytes) (ks : List Bytes) → T (beyond total_order x ks) → next Beyond x ks ≡ slice_get ks 0
unfolding next below
first_beyond x [] a = refl
first_beyond x (k ∷ ks) a = grind arith

pub next-at : (mark : PositionMark) (x : Bytes) (ks : List Bytes) → Ascending ks → next mark x ks ≡ slice_get ks (next_place mark (holds order ks x) (place order ks x))
unfolding next holds place below
next-at At x [] up = refl
next-at Beyond x [] up = refl
next-at At x (k ∷ ks) up =
    let ih : Ascending ks → next At x ks ≡ slice_get ks (place order ks x) = next-at At x ks in
    grind arith
next-at Beyond x (k ∷ ks) up =
    let flip = total_order.antisymm x k in
    let equal = equal_is k x in
    let above = λ (l : order x k ≡ Less). all_above total_order x k l ks in
    let none = none_beyond total_order x ks in
    let first = first_beyond x ks in
    let ih : Ascending ks → next Beyond x ks ≡ slice_get ks (next_place Beyond (holds order ks x) (place order ks x)) = next-at Beyond x ks in
    grind arith
