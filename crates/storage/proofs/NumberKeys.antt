-- Record numbers and their keys. Assumes nothing.
use Rattle.std.proofs.Common.{◌≡◌, ℕ, suc, ◌+◌, ◌*◌, ◌^◌, ◌<◌, ◌≤◌, min, ltb, [], ◌∷◌, length, get_or, Ordering, refl, ◌∙◌, arith}
use Rattle.std.specs.Ordering.{ordering_then, nat_cmp}
use Rattle.std.proofs.lemmas.Bool.Decides.{nat_tests}
use Rattle.byte_strings.specs.Bytes.{Bytes, order, below}
use Rattle.storage.specs.Primary.{number_from, record_number, number_key}

-- a number only grows by the bytes that follow
pub number_grows : (n : ℕ) (bs : Bytes) → n ≤ number_from n bs
unfolding number_from
number_grows n [] = omega arith
number_grows n (b ∷ bs) = let ih = number_grows (n * 256 + b) bs in omega arith

-- cut to a highest number, it may be cut before the bytes that follow as well
pub number_cut : (n most : ℕ) (bs : Bytes) → min (number_from (min n most) bs) most ≡ min (number_from n bs) most
number_cut n most bs = grind (arith, number_grows)

-- one byte more, by a product and a sum that stop at the highest number
pub number_step : (n b most : ℕ) (bs : Bytes) → min (number_from (min (min (n * 256) most + b) most) bs) most ≡ min (number_from n (b ∷ bs)) most
unfolding number_from
number_step n b most bs =
    let e : min (min (n * 256) most + b) most ≡ min (n * 256 + b) most = omega arith in
    rw e (number_cut (n * 256 + b) most bs)

-- ---- a number below 2 ^ 32 and its key of four bytes

pub number_of_key : (n : ℕ) → n < 2 ^ 32 → record_number (number_key n) ≡ n
unfolding number_from
number_of_key n h = omega arith

-- every byte of a slice is below 256
abbrev pub ByteSized : Bytes → Type 0
ByteSized key = (i : ℕ) → get_or key i 0 < 256

digits : (a b c d n : ℕ) → a < 256 → b < 256 → c < 256 → d < 256 → n ≡ (((0 * 256 + a) * 256 + b) * 256 + c) * 256 + d → (number_key n ≡ a ∷ b ∷ c ∷ d ∷ []) × (n < 2 ^ 32)
digits a b c d n h i j k e = grind arith

four_bytes : (key : Bytes) → length key ≡ 4 → ByteSized key → (number_key (record_number key) ≡ key) × (record_number key < 2 ^ 32)
unfolding number_from
four_bytes (a ∷ b ∷ c ∷ d ∷ []) e h = digits a b c d (record_number (a ∷ b ∷ c ∷ d ∷ [])) (h 0) (h 1) (h 2) (h 3) refl
four_bytes key e h = absurd (omega arith)

pub key_of_number : (key : Bytes) → length key ≡ 4 → ByteSized key → number_key (record_number key) ≡ key
key_of_number key e h = (four_bytes key e h).0

pub number_bounded : (key : Bytes) → length key ≡ 4 → ByteSized key → record_number key < 2 ^ 32
number_bounded key e h = (four_bytes key e h).1

-- ---- keys of one length are in the order of their numbers

then_rank : (m n x y : ℕ) (o : Ordering) → x < 256 → y < 256 → ordering_then (nat_cmp m n) (ordering_then (nat_cmp x y) o) ≡ ordering_then (nat_cmp (m * 256 + x) (n * 256 + y)) o
then_rank m n x y o h k = grind (arith, nat_tests)

order_from : (m n : ℕ) (xs ys : Bytes) → length xs ≡ length ys → ByteSized xs → ByteSized ys → ordering_then (nat_cmp m n) (order xs ys) ≡ nat_cmp (number_from m xs) (number_from n ys)
unfolding order number_from
order_from m n [] [] e h k = grind (arith, nat_tests)
order_from m n (x ∷ xs) (y ∷ ys) e h k =
    then_rank m n x y (order xs ys) (h 0) (k 0)
    ∙ order_from (m * 256 + x) (n * 256 + y) xs ys (omega arith) (λ i. h (suc i)) (λ i. k (suc i))
order_from m n xs ys e h k = absurd (omega arith)

pub below-by-number : (xs ys : Bytes) → length xs ≡ length ys → ByteSized xs → ByteSized ys → below xs ys ≡ ltb (record_number xs) (record_number ys)
unfolding below
below-by-number xs ys e h k = let compared = order_from 0 0 xs ys e h k in grind (arith, nat_tests)

pub key_sized : (n : ℕ) → ByteSized (number_key n)
key_sized n i = grind arith

pub number_keys_ascend : (m n : ℕ) → m < 2 ^ 32 → n < 2 ^ 32 → below (number_key m) (number_key n) ≡ ltb m n
number_keys_ascend m n h k =
    let compared = below-by-number (number_key m) (number_key n) refl (key_sized m) (key_sized n) in
    grind (arith, number_of_key)
