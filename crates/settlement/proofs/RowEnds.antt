-- What stands at the end of a row: the key, and before it the region.
use Rattle.std.proofs.Common.{◌≡◌, ℕ, ◌-◌, List, ◌++◌, ◌∷◌, length, take, drop, subst, arith, length-append}
use Rattle.std.proofs.Math.Seq.{take-append_seam, drop-append_seam}
use Rattle.settlement.specs.Delivery.{row_of}

-- of two lists one behind the other, the length without the second's is the first's
front_length : (xs ys : List ℕ) (n : ℕ) → length ys ≡ n → length xs ≡ length (xs ++ ys) - n
front_length xs ys n is = omega (arith, length-append xs ys)

module _ (region key : List ℕ) (six : length key ≡ 6) where
  pub key_at_end : drop (length (row_of region key) - 6) (row_of region key) ≡ key
  key_at_end =
      let front = 82 ∷ 71 ∷ region in
      subst (λ n. drop n (front ++ key) ≡ key) (front_length front key 6 six) (drop-append_seam front key)

  pub front_of_row : take (length (row_of region key) - 6) (row_of region key) ≡ 82 ∷ 71 ∷ region
  front_of_row =
      let front = 82 ∷ 71 ∷ region in
      subst (λ n. take n (front ++ key) ≡ front) (front_length front key 6 six) (take-append_seam front key)
