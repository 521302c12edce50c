-- Where an entry stands among entries that ascend. Assumes nothing.
use Rattle.std.proofs.Common.{◌≡◌, ℕ, zero, suc, ◌+◌, ◌<◌, ◌≤◌, true, false, T, List, [], ◌∷◌, map, length, get_or, Ok, Err, Result, Ordering, Less, Equal, Greater, refl, zero-le, arith, MatchResult}
use Rattle.std.specs.Cmp.{IsTotalOrder, alike_right}
use Rattle.std.specs.Ordering.{is_lt, is_eq, ordering_index}
use Rattle.std.specs.List.Sorted.{IsBinarySearchResult, IsNonDecreasingBy}
use Rattle.std.specs.List.{list_all, find}
use Rattle.std.specs.Option.{option_map}
use Rattle.std.specs.Result.{result_ok}
use Rattle.std.proofs.lemmas.List.Sorted.{searchable_from_sorted}
use Rattle.ordered_table.specs.Table.{Ascending, is_strictly_sorted_by, holds, place, searched, insertion, removal}
use Rattle.ordered_table.proofs.Edits.{beyond, all_above, none_beyond}

module _ {E : Type 0} (cmp : E → E → Ordering) where
  before_each : (x : E) (ys : List E) (j : ℕ) (d : E) → T (list_all (λ y. is_lt (cmp x y)) ys) → j < length ys → cmp x (get_or ys j d) ≡ Less
  before_each x [] j d a l = absurd (omega arith)
  before_each x (y ∷ ys) zero d a l = grind arith
  before_each x (y ∷ ys) (suc j) d a l = let ih = before_each x ys j d in grind arith

  pub ordered : (xs : List E) (i j : ℕ) (d : E) → Ascending cmp xs → i < j → j < length xs → cmp (get_or xs i d) (get_or xs j d) ≡ Less
  ordered (y ∷ ys) zero (suc j) d up h l = let each = before_each y ys j d in grind arith
  ordered (y ∷ ys) (suc i) (suc j) d up h l = let ih = ordered ys i j d in grind arith
  ordered xs i j d up h l = absurd (omega arith)

  pub place_is : (xs : List E) (x d : E) (i : ℕ) → i ≤ length xs → ((k : ℕ) → k < i → cmp (get_or xs k d) x ≡ Less) → (i < length xs → is_lt (cmp (get_or xs i d) x) ≡ false) → place cmp xs x ≡ i
  unfolding place
  place_is [] x d i h b a = omega arith
  place_is (y ∷ ys) x d zero h b a = grind arith
  place_is (y ∷ ys) x d (suc i) h b a =
      let first = b 0 in
      let ih = place_is ys x d i (omega arith) (λ k l. b (suc k) (omega arith)) (λ l. a (omega arith)) in
      grind arith

  pub holds-some : (xs : List E) (x d : E) (i : ℕ) → i < length xs → cmp (get_or xs i d) x ≡ Equal → holds cmp xs x ≡ true
  unfolding holds
  holds-some [] x d i l h = absurd (omega arith)
  holds-some (y ∷ ys) x d zero l h = grind arith
  holds-some (y ∷ ys) x d (suc i) l h = let ih = holds-some ys x d i in grind arith

  pub holds-none : (xs : List E) (x d : E) → ((k : ℕ) → k < length xs → is_eq (cmp (get_or xs k d) x) ≡ false) → holds cmp xs x ≡ false
  unfolding holds
  holds-none [] x d n = refl
  holds-none (y ∷ ys) x d n =
      let first = n 0 in
      let ih = holds-none ys x d (λ k l. n (suc k) (omega arith)) in
      grind arith

  pub place_le : (xs : List E) (x : E) → place cmp xs x ≤ length xs
  unfolding place
  place_le [] x = omega arith
  place_le (y ∷ ys) x = let ih = place_le ys x in grind arith

  pub place_lt : (xs : List E) (x : E) → holds cmp xs x ≡ true → place cmp xs x < length xs
  unfolding place holds
  place_lt [] x h = cc
  place_lt (y ∷ ys) x h = let ih = place_lt ys x in grind arith

  -- no entry equals x where those below i come before it and the others after
  pub missing_at : (xs : List E) (x d : E) (i : ℕ) → i ≤ length xs → ((k : ℕ) → k < i → cmp (get_or xs k d) x ≡ Less) → ((k : ℕ) → i ≤ k → k < length xs → cmp (get_or xs k d) x ≡ Greater) → (holds cmp xs x ≡ false) × (place cmp xs x ≡ i)
  missing_at xs x d i le b a =
      let first = a i in
      (holds-none xs x d (λ k l. let before = b k in let after = a k in grind arith), place_is xs x d i le b (grind arith))

module _ {E : Type 0} {R : E → E → Ordering} (o : IsTotalOrder R) where
  -- an entry that equals x stands at x's place
  pub found_at : (xs : List E) (x d : E) (i : ℕ) → Ascending R xs → i < length xs → R (get_or xs i d) x ≡ Equal → (holds R xs x ≡ true) × (place R xs x ≡ i)
  found_at xs x d i up l h =
      let before : (k : ℕ) → k < i → R (get_or xs k d) x ≡ Less =
      λ k lt. let alike = alike_right o (get_or xs i d) x (get_or xs k d) h in let less = ordered R xs k i d up lt l in cc in
      (holds-some R xs x d i l h, place_is R xs x d i (omega arith) before (grind arith))

  -- from an entry that comes after x on, all do
  pub greater_on : (xs : List E) (x d : E) (i : ℕ) → Ascending R xs → R (get_or xs i d) x ≡ Greater → (k : ℕ) → i ≤ k → k < length xs → R (get_or xs k d) x ≡ Greater
  greater_on xs x d i up g k le l =
      let first = o.antisymm x (get_or xs i d) in
      let later = ordered R xs i k d up in
      let through = o.trans x (get_or xs i d) (get_or xs k d) in
      let back = o.antisymm (get_or xs k d) x in
      grind arith

  rises : (xs : List E) (x : E) → Ascending R xs → IsNonDecreasingBy (λ y. ordering_index (R y x)) xs
  rises xs x up =
      searchable_from_sorted o (λ y. y) xs x
      (λ k d _ l. let before = ordered R xs k (k + 1) d up in let swapped = o.antisymm (get_or xs (k + 1) d) (get_or xs k d) in grind arith)

  -- what a binary search located is what the search is to answer
  pub located_is : (xs : List E) (x : E) (r : Result ℕ ℕ) → Ascending R xs → MatchResult r (λ i. i < length xs) (λ i. i ≤ length xs) → IsBinarySearchResult (λ y. R y x) xs r → r ≡ searched R xs x
  located_is xs x (Ok i) up b h = let found = found_at xs x x i up b (h x) in grind arith
  located_is xs x (Err i) up b h =
      let p = h (rises xs x up) in
      let missing = missing_at R xs x x i b (λ k l. p.0 k x zero-le l) (λ k le l. p.1 k x le l) in
      grind arith

  -- the first entry that equals x is the one that a search answers
  pub find-searched : (xs : List E) (x d : E) → Ascending R xs → find (λ y. is_eq (R y x)) xs ≡ option_map (λ i. get_or xs i d) (result_ok (searched R xs x))
  unfolding holds place
  find-searched [] x d up = refl
  find-searched (y ∷ ys) x d up =
      let ih = find-searched ys x d in
      let swapped = o.antisymm x y in
      let above : R x y ≡ Less → T (beyond o y ys) → T (beyond o x ys) = λ e. all_above o x y e ys in
      let none = none_beyond o x ys in
      grind arith

-- entries ordered by a key: the table of the entries and that of their keys
module _ {E K : Type 0} (key : E → K) (cmp : K → K → Ordering) where
  abbrev pub by_key : E → E → Ordering
  by_key x y = cmp (key x) (key y)

  pub holds-keys : (xs : List E) (x : E) → holds by_key xs x ≡ holds cmp (map key xs) (key x)
  unfolding holds
  holds-keys [] x = refl
  holds-keys (y ∷ ys) x = let ih = holds-keys ys x in cc

  pub place-keys : (xs : List E) (x : E) → place by_key xs x ≡ place cmp (map key xs) (key x)
  unfolding place
  place-keys [] x = refl
  place-keys (y ∷ ys) x = let ih = place-keys ys x in cc

  pub searched-keys : (xs : List E) (x : E) → searched by_key xs x ≡ searched cmp (map key xs) (key x)
  searched-keys xs x = let there = holds-keys xs x in let at = place-keys xs x in cc

  pub insertion-keys : (cells used : ℕ) (xs : List E) (x : E) → insertion by_key cells used xs x ≡ insertion cmp cells used (map key xs) (key x)
  insertion-keys cells used xs x = let there = holds-keys xs x in let at = place-keys xs x in cc

  pub removal-keys : (xs : List E) (x : E) → removal by_key xs x ≡ removal cmp (map key xs) (key x)
  removal-keys xs x = let there = holds-keys xs x in let at = place-keys xs x in cc

  pass_keys : (x : E) (ys : List E) → list_all (λ y. is_lt (by_key x y)) ys ≡ list_all (λ k. is_lt (cmp (key x) k)) (map key ys)
  pass_keys x [] = refl
  pass_keys x (y ∷ ys) = let ih = pass_keys x ys in cc

  pub sorted_keys : (xs : List E) → is_strictly_sorted_by by_key xs ≡ is_strictly_sorted_by cmp (map key xs)
  sorted_keys [] = refl
  sorted_keys (x ∷ xs) = let passed = pass_keys x xs in let ih = sorted_keys xs in cc
