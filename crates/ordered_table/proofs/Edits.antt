-- Entries that ascend, when one goes in at its place or comes out. Assumes nothing.
use Rattle.std.proofs.Common.{◌≡◌, ℕ, zero, suc, Bool, true, false, ◌&&◌, T, List, [], ◌∷◌, map, Ordering, Less, refl, arith}
use Rattle.std.specs.Cmp.{IsTotalOrder}
use Rattle.std.specs.Ordering.{is_lt}
use Rattle.std.specs.List.{insert, remove, list_all}
use Rattle.ordered_table.specs.Table.{Ascending, holds, place}

-- ---- tests

pub both : (a b : Bool) → T a → T b → T (a && b)
both a b p q = grind arith

pub left : (a b : Bool) → T (a && b) → T a
left a b p = grind arith

pub right : (a b : Bool) → T (a && b) → T b
right a b p = grind arith

pub passes : (b : Bool) → T b → b ≡ true
passes b p = grind arith

pub is_less : (o : Ordering) → T (is_lt o) → o ≡ Less
is_less o h = grind arith

pub less_test : (o : Ordering) → o ≡ Less → T (is_lt o)
less_test o e = grind arith

module _ {E : Type 0} (p : E → Bool) where
  pub all_put : (xs : List E) (i : ℕ) (x : E) → T (list_all p xs) → T (p x) → T (list_all p (insert xs i x))
  all_put xs zero x a b = grind arith
  all_put [] (suc i) x a b = grind arith
  all_put (y ∷ ys) (suc i) x a b = let ih = all_put ys i x in grind arith

  pub all_cut : (xs : List E) (i : ℕ) → T (list_all p xs) → T (list_all p (remove xs i))
  all_cut [] zero a = tt
  all_cut [] (suc i) a = tt
  all_cut (y ∷ ys) zero a = grind arith
  all_cut (y ∷ ys) (suc i) a = let ih = all_cut ys i in grind arith

-- ---- the order

module _ {E : Type 0} {R : E → E → Ordering} (o : IsTotalOrder R) where
  -- x comes before all of them
  abbrev pub beyond : E → List E → Bool
  beyond x ys = list_all (λ y. is_lt (R x y)) ys

  -- what comes after an entry comes after each earlier one
  pub all_above : (x y : E) → R x y ≡ Less → (zs : List E) → T (beyond y zs) → T (beyond x zs)
  all_above x y e [] a = tt
  all_above x y e (z ∷ zs) a =
      let ih = all_above x y e zs in
      let through = o.trans x y z e in
      grind arith

  -- x is not among entries that it comes before
  pub none_beyond : (x : E) (ys : List E) → T (beyond x ys) → holds R ys x ≡ false
  unfolding holds
  none_beyond x [] a = refl
  none_beyond x (y ∷ ys) a =
      let ih = none_beyond x ys in
      let swapped = o.antisymm y x in
      grind arith

  pub ascending_put : (xs : List E) (x : E) → Ascending R xs → holds R xs x ≡ false → Ascending R (insert xs (place R xs x) x)
  unfolding holds place
  ascending_put [] x a h = tt
  ascending_put (y ∷ ys) x a h =
      let ih = ascending_put ys x in
      let put = all_put (λ z. is_lt (R y z)) ys (place R ys x) x in
      let swapped = o.antisymm x y in
      let above : R x y ≡ Less → T (beyond y ys) → T (beyond x ys) = λ e. all_above x y e ys in
      grind arith

module _ {E : Type 0} (cmp : E → E → Ordering) where
  pub ascending_cut : (xs : List E) (i : ℕ) → Ascending cmp xs → Ascending cmp (remove xs i)
  ascending_cut [] zero a = tt
  ascending_cut [] (suc i) a = tt
  ascending_cut (y ∷ ys) zero a = grind arith
  ascending_cut (y ∷ ys) (suc i) a =
      let ih = ascending_cut ys i in
      let cut = all_cut (λ z. is_lt (cmp y z)) ys i in
      grind arith

module _ {X Y : Type 0} (f : X → Y) where
  pub map-inserted : (xs : List X) (i : ℕ) (x : X) → map f (insert xs i x) ≡ insert (map f xs) i (f x)
  map-inserted xs zero x = refl
  map-inserted [] (suc i) x = refl
  map-inserted (y ∷ ys) (suc i) x = let ih = map-inserted ys i x in cc

  pub map-removed : (xs : List X) (i : ℕ) → map f (remove xs i) ≡ remove (map f xs) i
  map-removed [] zero = refl
  map-removed [] (suc i) = refl
  map-removed (y ∷ ys) zero = refl
  map-removed (y ∷ ys) (suc i) = let ih = map-removed ys i in cc
