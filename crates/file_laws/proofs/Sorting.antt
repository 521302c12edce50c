-- What a list of byte strings has: sorting keeps it, and an ascending list is told by it. Assumes nothing.
use Rattle.std.proofs.Common.{◌≡◌, Bool, true, false, cond, ◌||◌, T, ◌⊎◌, List, [], ◌∷◌, ◌++◌, Less, sym, refl, ap, ◌∙◌, subst, inl, inr, ⊎_elim, true≢false, arith}
use Rattle.std.specs.Ordering.{is_lt}
use Rattle.std.specs.List.Sorted.{IsStrictlySortedBy}
use Rattle.std.specs.List.{AllByRecursion, list_all}
use Rattle.std.proofs.lemmas.Bool.{or_cases}
use Rattle.byte_strings.specs.Bytes.{Bytes, order, below, same}
use Rattle.byte_strings.proofs.TotalOrder.{same_is, is_same, same-flip, total_order, below_less, less_below, below_neither, below_not_same}
use Rattle.ordered_table.specs.Table.{is_strictly_sorted_by}
use Rattle.ordered_table.proofs.Edits.{both, left, right, is_less, less_test}
use Rattle.storage.specs.Laws.{has}
use Rattle.storage.specs.Pairs.{Ascending}
use Rattle.file_rules.specs.Paths.{sorted_in, sorted}
use Rattle.file_laws.proofs.Members.{all_weaker}

-- ---- has

pub has_cases : (k x : Bytes) (ks : List Bytes) → has x (k ∷ ks) ≡ true → (k ≡ x) ⊎ (has x ks ≡ true)
has_cases k x ks h = ⊎_elim (λ s. inl (same_is k x s)) inr (or_cases (same k x) (has x ks) h)

pub has-itself : (x : Bytes) (xs : List Bytes) → has x (x ∷ xs) ≡ true
has-itself x xs = ap (λ b. b || has x xs) (is_same x x refl)

pub has-append : (x : Bytes) (xs ys : List Bytes) → has x (xs ++ ys) ≡ (has x xs || has x ys)
has-append x [] ys = refl
has-append x (k ∷ xs) ys = let h = has-append x xs ys in grind arith

has-sorted_in : (x y : Bytes) (ys : List Bytes) → has x (sorted_in y ys) ≡ (same y x || has x ys)
has-sorted_in x y [] = refl
has-sorted_in x y (z ∷ zs) = let h = has-sorted_in x y zs in grind (arith, below_neither)

pub has-sorted : (x : Bytes) (xs : List Bytes) → has x (sorted xs) ≡ has x xs
has-sorted x [] = refl
has-sorted x (y ∷ xs) = has-sorted_in x y (sorted xs) ∙ ap (λ b. same y x || b) (has-sorted x xs)

-- ---- ascending

-- as a test and as a fact
before_test : (x : Bytes) (ys : List Bytes) → AllByRecursion (λ y. order x y ≡ Less) ys → T (list_all (λ y. is_lt (order x y)) ys)
before_test x [] a = tt
before_test x (y ∷ ys) a =
    both (is_lt (order x y)) (list_all (λ z. is_lt (order x z)) ys) (less_test (order x y) a.0) (before_test x ys a.1)

before_fact : (x : Bytes) (ys : List Bytes) → T (list_all (λ y. is_lt (order x y)) ys) → AllByRecursion (λ y. order x y ≡ Less) ys
before_fact x [] t = tt
before_fact x (y ∷ ys) t = (
  is_less (order x y) (left (is_lt (order x y)) (list_all (λ z. is_lt (order x z)) ys) t),
  before_fact x ys (right (is_lt (order x y)) (list_all (λ z. is_lt (order x z)) ys) t),
)

pub test_from_sorted : (xs : List Bytes) → IsStrictlySortedBy order xs → Ascending xs
unfolding IsStrictlySortedBy
test_from_sorted [] s = tt
test_from_sorted (x ∷ xs) s =
    both (list_all (λ y. is_lt (order x y)) xs) (is_strictly_sorted_by order xs) (before_test x xs s.0) (test_from_sorted xs s.1)

pub sorted_from_test : (xs : List Bytes) → Ascending xs → IsStrictlySortedBy order xs
unfolding IsStrictlySortedBy
sorted_from_test [] t = tt
sorted_from_test (x ∷ xs) t = (
  before_fact x xs (left (list_all (λ y. is_lt (order x y)) xs) (is_strictly_sorted_by order xs) t),
  sorted_from_test xs (right (list_all (λ y. is_lt (order x y)) xs) (is_strictly_sorted_by order xs) t),
)

-- x comes before all of them
abbrev Before : Bytes → List Bytes → Type 0
Before x ys = AllByRecursion (λ y. order x y ≡ Less) ys

before_sorted_in : (k x : Bytes) (ys : List Bytes) → order k x ≡ Less → Before k ys → Before k (sorted_in x ys)
before_sorted_in k x [] h a = (h, tt)
before_sorted_in k x (y ∷ ys) h a = let i = before_sorted_in k x ys h a.1 in grind arith

earlier : (x y : Bytes) (zs : List Bytes) → order x y ≡ Less → Before y zs → Before x zs
earlier x y zs h a = all_weaker (λ z. order y z ≡ Less) (λ z. order x z ≡ Less) (λ z. total_order.trans x y z h) zs a

sorted_in_sorted : (x : Bytes) (ys : List Bytes) → IsStrictlySortedBy order ys → IsStrictlySortedBy order (sorted_in x ys)
unfolding IsStrictlySortedBy
sorted_in_sorted x [] s = (tt, tt)
sorted_in_sorted x (y ∷ ys) s = go (below y x) (below x y) refl refl (sorted_in_sorted x ys s.1)
  where
    go : (b c : Bool) → below y x ≡ b → below x y ≡ c → IsStrictlySortedBy order (sorted_in x ys) → IsStrictlySortedBy order (cond b (y ∷ sorted_in x ys) (cond c (x ∷ y ∷ ys) (y ∷ ys)))
    go true c p q i = (before_sorted_in y x ys (below_less y x p) s.0, i)
    go false true p q i = ((below_less x y q, earlier x y ys (below_less x y q) s.0), s)
    go false false p q i = s

sorted_sorted : (xs : List Bytes) → IsStrictlySortedBy order (sorted xs)
unfolding IsStrictlySortedBy
sorted_sorted [] = tt
sorted_sorted (x ∷ xs) = sorted_in_sorted x (sorted xs) (sorted_sorted xs)

pub sorted_ascends : (xs : List Bytes) → Ascending (sorted xs)
sorted_ascends xs = test_from_sorted (sorted xs) (sorted_sorted xs)

-- ---- told by what it has

-- x is not among those that it comes before
absent : (x : Bytes) (ys : List Bytes) → Before x ys → has x ys ≡ false
absent x [] a = refl
absent x (y ∷ ys) a =
    let i = absent x ys a.1 in
    let s = same-flip x y (below_not_same x y (less_below x y a.0)) in
    grind arith

-- each list has the head of the other, and none of them further on
heads : (x y : Bytes) (xs ys : List Bytes) → Before x xs → Before y ys → has x (y ∷ ys) ≡ true → has y (x ∷ xs) ≡ true → x ≡ y
heads x y xs ys a b h k =
    let l : below x y ≡ true → has x (y ∷ ys) ≡ false = λ l. absent x (y ∷ ys) (below_less x y l, earlier x y ys (below_less x y l) b) in
    let m : below y x ≡ true → has y (x ∷ xs) ≡ false = λ l. absent y (x ∷ xs) (below_less y x l, earlier y x xs (below_less y x l) a) in
    let e = below_neither x y in
    grind arith

tails : (x : Bytes) (xs ys : List Bytes) → Before x xs → Before x ys → ((z : Bytes) → has z (x ∷ xs) ≡ has z (x ∷ ys)) → (z : Bytes) → has z xs ≡ has z ys
tails x xs ys a b h z = let k = h z in grind (arith, same_is, absent)

same_lists : (xs ys : List Bytes) → IsStrictlySortedBy order xs → IsStrictlySortedBy order ys → ((z : Bytes) → has z xs ≡ has z ys) → xs ≡ ys
unfolding IsStrictlySortedBy
same_lists [] [] s t h = refl
same_lists [] (y ∷ ys) s t h = absurd (true≢false (sym (h y ∙ has-itself y ys)))
same_lists (x ∷ xs) [] s t h = absurd (true≢false (sym (has-itself x xs) ∙ h x))
same_lists (x ∷ xs) (y ∷ ys) s t h =
    let e = heads x y xs ys s.0 t.0 (sym (h x) ∙ has-itself x xs) (h y ∙ has-itself y ys) in
    let b : Before x ys = subst (λ z. Before z ys) (sym e) t.0 in
    let i = same_lists xs ys s.1 t.1 (tails x xs ys s.0 b (λ z. h z ∙ ap (λ w. has z (w ∷ ys)) (sym e))) in
    λ j. e j ∷ i j

-- two ascending lists that have the same are one
pub only_one : (rows others : List Bytes) → Ascending rows → Ascending others → ((x : Bytes) → has x rows ≡ has x others) → rows ≡ others
only_one rows others a b h = same_lists rows others (sorted_from_test rows a) (sorted_from_test others b) h
