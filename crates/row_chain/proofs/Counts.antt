-- How often a number stands in a list, and lists with each number below n once. Assumes nothing.
use Rattle.std.proofs.Common.{◌≡◌, ℕ, ◌+◌, ◌<◌, cond, eqb, List, [], ◌∷◌, ◌++◌, sym, refl, ◌∙◌, arith}
use Rattle.std.proofs.lemmas.List.Sums.{sum_by-cons, sum_by-append}
use Rattle.std.proofs.lemmas.Bool.Decides.{nat_tests}
use Rattle.row_chain.specs.Chains.{times, Once}

module _ (i : ℕ) where
  pub times_none : times i [] ≡ 0
  unfolding times
  times_none = refl

  pub times-cons : (x : ℕ) (xs : List ℕ) → times i (x ∷ xs) ≡ cond (eqb i x) 1 0 + times i xs
  unfolding times
  times-cons x xs = sum_by-cons (λ y. cond (eqb i y) 1 0) x xs

  pub times-append : (xs ys : List ℕ) → times i (xs ++ ys) ≡ times i xs + times i ys
  unfolding times
  times-append xs ys = sum_by-append (λ y. cond (eqb i y) 1 0) xs ys

  -- a number that is not in a list is not its first, and not in the rest
  pub not_in : (x : ℕ) (xs : List ℕ) → times i (x ∷ xs) ≡ 0 → (x ≡ i → ⊥) × (times i xs ≡ 0)
  not_in x xs h = let e = times-cons x xs in grind (arith, nat_tests)

module _ (x : ℕ) (xs ys zs : List ℕ) where
  -- a number counts the same in the second list as in the third
  pub times-moved : (i : ℕ) → times i ((xs ++ x ∷ ys) ++ zs) ≡ times i ((xs ++ ys) ++ x ∷ zs)
  times-moved i = grind (arith, times-append, times-cons)

  pub once_later : (n : ℕ) → Once n ((xs ++ x ∷ ys) ++ zs) → Once n ((xs ++ ys) ++ x ∷ zs)
  once_later n h i = sym (times-moved i) ∙ h i

  pub once_earlier : (n : ℕ) → Once n ((xs ++ ys) ++ x ∷ zs) → Once n ((xs ++ x ∷ ys) ++ zs)
  once_earlier n h i = times-moved i ∙ h i

  -- what stands there once is below n, and nowhere else
  pub alone : (n : ℕ) → Once n ((xs ++ ys) ++ x ∷ zs) → (x < n) × (times x xs ≡ 0) × (times x ys ≡ 0) × (times x zs ≡ 0)
  alone n h = let e = h x in grind (arith, nat_tests, times-append, times-cons)
