-- Keys of at most n bytes, and a sought string that is longer: it is not among them, and its place is right behind
-- that of its front. Assumes nothing.
use Rattle.std.proofs.Common.{◌≡◌, ℕ, suc, ◌<◌, false, cond, T, List, [], ◌∷◌, length, take, Less, refl, arith}
use Rattle.std.proofs.lemmas.Bool.Decides.{nat_tests}
use Rattle.byte_strings.specs.Bytes.{Bytes, order}
use Rattle.byte_strings.proofs.LongProbes.{order-long}
use Rattle.byte_strings.proofs.TotalOrder.{total_order, equal_is}
use Rattle.ordered_table.specs.Table.{holds, place}
use Rattle.ordered_table.proofs.Edits.{beyond, all_above, none_beyond}
use Rattle.storage.specs.Pairs.{Ascending, short}

module _ (n : ℕ) (x : Bytes) (long : n < length x) where
  abbrev front : Bytes
  front = take n x

  pub holds-long : (ks : List Bytes) → T (short n ks) → holds order ks x ≡ false
  unfolding holds
  holds-long [] s = refl
  holds-long (k ∷ ks) s =
      let compared = order-long n k x in
      let ih = holds-long ks in
      grind (arith, nat_tests)

  -- what is beyond the front is beyond the whole
  place-beyond : (ks : List Bytes) → T (short n ks) → T (beyond total_order front ks) → place order ks x ≡ 0
  unfolding place
  place-beyond [] s a = refl
  place-beyond (k ∷ ks) s a =
      let compared = order-long n k x in
      let flipped = total_order.antisymm k front in
      grind (arith, nat_tests)

  pub place-long : (ks : List Bytes) → Ascending ks → T (short n ks) → place order ks x ≡ cond (holds order ks front) (suc (place order ks front)) (place order ks front)
  unfolding holds place
  place-long [] up s = refl
  place-long (k ∷ ks) up s =
      let compared = order-long n k x in
      let flipped = total_order.antisymm front k in
      let equal = equal_is k front in
      let above = λ (l : order front k ≡ Less). all_above total_order front k l ks in
      let none = none_beyond total_order front ks in
      let after = place-beyond ks in
      let ih = place-long ks in
      grind (arith, nat_tests)
