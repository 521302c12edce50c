-- Members of a list: pairs and what stands under their keys, and what a filter keeps. Assumes nothing.
use Rattle.std.proofs.Common.{◌≡◌, Bool, true, false, T, ◌⊎◌, List, [], ◌∷◌, is_some, Some, None, filter, Option, sym, refl, ap, subst, inl, inr, true≢false, arith}
use Rattle.std.proofs.lemmas.Option.{none-some}
use Rattle.std.specs.Ordering.{is_lt}
use Rattle.std.specs.List.{AllByRecursion}
use Rattle.ordered_table.specs.Table.{is_strictly_sorted_by}
use Rattle.byte_strings.specs.Bytes.{Bytes, order, below, same}
use Rattle.byte_strings.proofs.TotalOrder.{total_order, same_is, is_same, below_not_same, less_below}
use Rattle.ordered_table.proofs.Edits.{left, right, is_less, beyond}
use Rattle.storage.specs.Pairs.{Ascending, keys, under}

abbrev pub In : {A : Type 0} → A → List A → Type 0
In x [] = ⊥
In x (y ∷ ys) = (y ≡ x) ⊎ In x ys

pub some_of : {A : Type 0} (o : Option A) → is_some o ≡ true → (x : A) × (o ≡ Some x)
some_of None h = absurd (true≢false (sym h))
some_of (Some x) h = (x, refl)

pub none_of : {A : Type 0} (o : Option A) → is_some o ≡ false → o ≡ None
none_of None h = refl
none_of (Some x) h = absurd (true≢false h)

pub all_in : {A : Type 0} (P : A → Type 0) (x : A) (l : List A) → AllByRecursion P l → In x l → P x
all_in P x [] h i = absurd i
all_in P x (y ∷ ys) h (inl e) = subst P e h.0
all_in P x (y ∷ ys) h (inr i) = all_in P x ys h.1 i

-- `All-weaker` of std, for the fact by recursion
pub all_weaker : {A : Type 0} (P Q : A → Type 0) → ((x : A) → P x → Q x) → (l : List A) → AllByRecursion P l → AllByRecursion Q l
all_weaker P Q f [] h = tt
all_weaker P Q f (x ∷ xs) h = (f x h.0, all_weaker P Q f xs h.1)

-- ---- pairs under keys

pub in_from_under : {A : Type 0} (κ : Bytes) (a : A) (ps : List (Bytes × A)) → under κ ps ≡ Some a → In (κ, a) ps
unfolding under
in_from_under κ a [] h = absurd (none-some a h)
in_from_under κ a (p ∷ ps) h =
    let k = in_from_under κ a ps in
    let here : same p.0 κ ≡ true → p.1 ≡ a → p ≡ (κ, a) = λ e q i. (same_is p.0 κ e i, q i) in
    grind arith

-- what follows a key in an ascending list stands above it
pub above_first : {A : Type 0} (κ : Bytes) (p : Bytes × A) (ps : List (Bytes × A)) → T (beyond total_order κ (keys ps)) → In p ps → below κ p.0 ≡ true
above_first κ p [] h i = absurd i
above_first κ p (q ∷ ps) h (inl e) =
    subst (λ z. below κ z.0 ≡ true) e (less_below κ q.0 (is_less (order κ q.0) (left (is_lt (order κ q.0)) (beyond total_order κ (keys ps)) h)))
above_first κ p (q ∷ ps) h (inr i) = above_first κ p ps (right (is_lt (order κ q.0)) (beyond total_order κ (keys ps)) h) i

pub under-from-in : {A : Type 0} (p : Bytes × A) (ps : List (Bytes × A)) → Ascending (keys ps) → In p ps → under p.0 ps ≡ Some p.1
unfolding under
under-from-in p [] h i = absurd i
under-from-in p (q ∷ ps) h (inl e) = rw (is_same q.0 p.0 (ap (λ z. z.0) e)) (ap (λ z. Some z.1) e)
under-from-in p (q ∷ ps) h (inr i) =
    let up = above_first q.0 p ps (left (beyond total_order q.0 (keys ps)) (is_strictly_sorted_by order (keys ps)) h) i in
    rw (below_not_same q.0 p.0 up) (under-from-in p ps (right (beyond total_order q.0 (keys ps)) (is_strictly_sorted_by order (keys ps)) h) i)

-- ---- what a filter keeps

module _ {A : Type 0} (t : A → Bool) where
  pub kept_in : (l : List A) (x : A) → In x (filter t l) → In x l × (t x ≡ true)
  kept_in [] x h = absurd h
  kept_in (y ∷ ys) x h = let k : In x (filter t ys) → In x ys × (t x ≡ true) = kept_in ys x in grind arith

  pub in_kept : (l : List A) (x : A) → In x l → t x ≡ true → In x (filter t l)
  in_kept [] x h e = h
  in_kept (y ∷ ys) x h e = let k : In x ys → In x (filter t ys) = λ i. in_kept ys x i e in grind arith
