-- A string that is longer than another compares with it as its front does, and comes after where the front is equal.
-- Assumes nothing.
use Rattle.std.proofs.Common.{◌≡◌, ℕ, zero, suc, ◌<◌, ◌≤◌, [], ◌∷◌, length, take, Ordering, Less, Equal, Greater, refl, arith}
use Rattle.byte_strings.specs.Bytes.{Bytes, order}

-- how a string compares with a longer one whose front it compares with so
abbrev pub with_more : Ordering → Ordering
with_more Less = Less
with_more Equal = Less
with_more Greater = Greater

pub order-long : (n : ℕ) (k x : Bytes) → length k ≤ n → n < length x → order k x ≡ with_more (order k (take n x))
unfolding order
order-long zero [] (y ∷ ys) a b = refl
order-long (suc n) [] (y ∷ ys) a b = refl
order-long (suc n) (z ∷ zs) (y ∷ ys) a b = let ih = order-long n zs ys in grind arith
order-long n k x a b = absurd (omega arith)
