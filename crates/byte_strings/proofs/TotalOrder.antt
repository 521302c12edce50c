-- The order of byte strings is total, and what its tests say. Assumes nothing.
use Rattle.std.proofs.Common.{◌≡◌, true, false, ◌⊎◌, Less, Equal, sym, ap, ◌∙◌, arith}
use Rattle.std.specs.Cmp.{IsTotalOrder, tied_itself}
use Rattle.std.specs.Cmp.Lexicographic.{nat_list_cmp_total, nat_list_eq_equiv, texts_ties}
use Rattle.std.specs.Ordering.{is_lt, is_eq}
use Rattle.std.proofs.lemmas.Slice.Eq.{bytes_eq-Decides}
use Rattle.byte_strings.specs.Bytes.{Bytes, order, below, same}

pub total_order : IsTotalOrder order
unfolding order
total_order = nat_list_cmp_total

-- ---- equal in the order means the same bytes

pub same_is : (x y : Bytes) → same x y ≡ true → x ≡ y
unfolding same
same_is x y h = (bytes_eq-Decides x y).0 h

pub is_same : (x y : Bytes) → x ≡ y → same x y ≡ true
unfolding same
is_same x y h = (bytes_eq-Decides x y).1 h

pub same_order : (x y : Bytes) → is_eq (order x y) ≡ same x y
unfolding same order
same_order x y = sym (texts_ties x y)

pub equal_is : (x y : Bytes) → order x y ≡ Equal → x ≡ y
equal_is x y h = same_is x y (sym (same_order x y) ∙ ap is_eq h)

pub order-itself : (x : Bytes) → order x x ≡ Equal
order-itself = tied_itself total_order

pub same-flip : (x y : Bytes) → same x y ≡ false → same y x ≡ false
unfolding same
same-flip x y h = nat_list_eq_equiv.symm y x ∙ h

-- ---- `below`

pub below_less : (x y : Bytes) → below x y ≡ true → order x y ≡ Less
unfolding below
below_less x y h = grind arith

pub less_below : (x y : Bytes) → order x y ≡ Less → below x y ≡ true
unfolding below
less_below x y h = ap is_lt h

pub below-trans : (x y z : Bytes) → below x y ≡ true → below y z ≡ true → below x z ≡ true
below-trans x y z h k = less_below x z (total_order.trans x y z (below_less x y h) (below_less y z k))

pub below_irrefl : (x : Bytes) → below x x ≡ false
unfolding below
below_irrefl x = ap is_lt (order-itself x)

pub below-asym : (x y : Bytes) → below y x ≡ true → below x y ≡ false
below-asym x y h = grind (arith, below-trans, below_irrefl)

pub below_neither : (x y : Bytes) → below x y ≡ false → below y x ≡ false → x ≡ y
unfolding below
below_neither x y h k =
    let flipped = total_order.antisymm x y in
    grind (arith, equal_is)

-- above what is not below
pub below-after : (x y z : Bytes) → below y x ≡ false → below y z ≡ true → below x z ≡ true
below-after x y z h l = grind (arith, below-trans, below_neither)

pub not_below_trans : (x y z : Bytes) → below y x ≡ false → below x z ≡ false → below y z ≡ false
not_below_trans x y z h k = grind (arith, below-after)

pub same_cases : (x y : Bytes) → (x ≡ y) ⊎ (same x y ≡ false)
same_cases x y = grind (arith, same_is)

pub below_not_same : (x y : Bytes) → below x y ≡ true → same x y ≡ false
below_not_same x y h = grind (arith, same_is x y, below_irrefl y)
