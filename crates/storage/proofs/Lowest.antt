-- What is found in an ascending list is the lowest key that is reached. Assumes nothing.
use Rattle.std.proofs.Common.{◌≡◌, true, false, T, List, [], ◌∷◌, Some, None, arith}
use Rattle.byte_strings.specs.Bytes.{Bytes, below}
use Rattle.byte_strings.proofs.TotalOrder.{total_order, is_same, same_is, below_irrefl}
use Rattle.ordered_table.proofs.Edits.{beyond}
use Rattle.storage.specs.declared.mark.PositionMark.{PositionMark}
use Rattle.storage.specs.Laws.{has, LowestFound}
use Rattle.storage.specs.Pairs.{Ascending, reached, next}

-- what comes after a key is not below it
above : (k x : Bytes) (ks : List Bytes) → T (beyond total_order k ks) → has x ks ≡ true → below x k ≡ false
unfolding below
above k x [] a h = cc
above k x (y ∷ ys) a h =
    let flipped = total_order.antisymm y k in
    let equal = same_is y x in
    let ih = above k x ys in
    grind arith

-- ---- the first that is reached

module _ (mark : PositionMark) (from : Bytes) where
  none : (ks : List Bytes) → next mark from ks ≡ None → (x : Bytes) → has x ks ≡ true → reached mark from x ≡ false
  unfolding next
  none [] e x h = cc
  none (k ∷ ks) e x h =
      let equal = same_is k x in
      let ih = λ (o : next mark from ks ≡ None). none ks o x in
      grind arith

  one_of_them : (ks : List Bytes) (x : Bytes) → next mark from ks ≡ Some x → has x ks ≡ true
  unfolding next
  one_of_them [] x e = cc
  one_of_them (k ∷ ks) x e =
      let own = is_same k x in
      let ih = one_of_them ks x in
      grind arith

  is_reached : (ks : List Bytes) (x : Bytes) → next mark from ks ≡ Some x → reached mark from x ≡ true
  unfolding next
  is_reached [] x e = cc
  is_reached (k ∷ ks) x e = let ih = is_reached ks x in grind arith

  lowest : (ks : List Bytes) → Ascending ks → (x : Bytes) → next mark from ks ≡ Some x → (y : Bytes) → has y ks ≡ true → reached mark from y ≡ true → below y x ≡ false
  unfolding next
  lowest [] up x e y h r = cc
  lowest (k ∷ ks) up x e y h r =
      let equal = same_is k y in
      let itself = below_irrefl k in
      let after = above k y ks in
      let ih = λ (u : Ascending ks) (o : next mark from ks ≡ Some x). lowest ks u x o y in
      grind arith

pub finds_lowest : (mark : PositionMark) (from : Bytes) (ks : List Bytes) → Ascending ks → LowestFound mark from ks
finds_lowest mark from ks up =
    record {
      none = none mark from ks;
      one_of_them = one_of_them mark from ks;
      is_reached = is_reached mark from ks;
      lowest = lowest mark from ks up;
    }
