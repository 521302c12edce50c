-- From one key of an ascending list to the next. Assumes nothing.
use Rattle.std.proofs.Common.{◌≡◌, ℕ, zero, suc, ◌+◌, ◌-◌, ◌<◌, min, Bool, T, List, [], ◌∷◌, ◌++◌, map, length, get_or, take, drop, Some, None, Option, Bor, refl, ap, arith}
use Rattle.std.specs.Bool.{then_some}
use Rattle.std.specs.List.{slice_get}
use Rattle.std.specs.Option.{option_copied, option_map}
use Rattle.std.proofs.lemmas.List.{length-map, length-take, take_all, take_at, take_more, take-take, get_or-take, map_push}
use Rattle.std.proofs.lemmas.Option.{slice_get-get_or, slice_get-map, slice_get_past}
use Rattle.std.proofs.lemmas.Bool.Decides.{nat_tests}
use Rattle.byte_strings.specs.declared.string.ByteString.{ByteString}
use Rattle.byte_strings.specs.Bytes.{Bytes, order, below}
use Rattle.byte_strings.specs.Texts.{text}
use Rattle.byte_strings.proofs.TotalOrder.{total_order, order-itself}
use Rattle.ordered_table.proofs.Places.{found_at}
use Rattle.storage.specs.declared.mark.PositionMark.TheVariants.{At, Beyond}
use Rattle.storage.specs.Pairs.{Ascending, next, short}
use Rattle.storage.specs.Reading.{found, filled}
use Rattle.row_listing.specs.Keys.{key_after}
use Rattle.storage.proofs.Places.{next-at}

-- ---- a key that came into a buffer of a row's length

pub cut_key : (o : Option Bytes) (buffer filling : Bytes) (there : Bool) (len n : ℕ) (row : ByteString 66) → length buffer ≡ 66 → (there, len) ≡ found o → n ≡ min len 66 → filling ≡ filled o buffer → text row ≡ take 66 (take (n - 0) filling) → option_map text (then_some there row) ≡ option_map (take 66) o
cut_key None buffer filling there len n row l s e b r = grind arith
cut_key (Some k) buffer filling there len n row l s e b r =
    let m = length-take (length buffer) k in
    let cut = take_at (take (length buffer) k) (drop (length k) buffer) (n - 0) in
    let twice = take-take 66 66 k in
    grind arith

-- ---- the list

pub first_key : (ks : List Bytes) → next At [] ks ≡ slice_get ks 0
unfolding next below order
first_key [] = refl
first_key ([] ∷ ks) = refl
first_key ((b ∷ bs) ∷ ks) = refl

pub next-key : (ks : List Bytes) (i : ℕ) → Ascending ks → i < length ks → next Beyond (get_or ks i []) ks ≡ slice_get ks (suc i)
next-key ks i up l =
    let x = get_or ks i [] in
    let there = found_at total_order ks x [] i up l (order-itself x) in
    let at = next-at Beyond x ks up in
    grind arith

-- a key that is no longer than a row is not cut
pub whole_key : (ks : List Bytes) (i : ℕ) → T (short 66 ks) → i < length ks → take 66 (get_or ks i []) ≡ get_or ks i []
whole_key [] i h l = absurd (omega arith)
whole_key (k ∷ ks) zero h l = take_all 66 k (grind (arith, nat_tests))
whole_key (k ∷ ks) (suc i) h l = let ih = whole_key ks i in grind arith

text-copied : (last : Option (Bor (ByteString 66))) → option_map (λ row. text row.now) last ≡ option_map text (option_copied last)
text-copied last = grind arith

-- after the last of the rows so far comes the next key
pub follows : (ks : List Bytes) (rows : List (ByteString 66)) (i : ℕ) (lent : List (ByteString 66)) (last : Option (Bor (ByteString 66))) → Ascending ks → map text rows ≡ take i ks → i < length ks → lent ≡ rows → option_copied last ≡ slice_get lent (length lent - 1) → key_after (option_map (λ row. text row.now) last) ks ≡ Some (get_or ks i [])
follows ks rows zero lent last up listed l same e =
    let copied = text-copied last in
    let n = length-map rows (λ (row : ByteString 66). text row) in
    let none = slice_get_past rows (length rows - 1) in
    let first = first_key ks in
    let there = slice_get-get_or ks 0 [] in
    grind arith
follows ks rows (suc j) lent last up listed l same e =
    let copied = text-copied last in
    let n = length-map rows (λ (row : ByteString 66). text row) in
    let m = ap length listed in
    let k = length-take (suc j) ks in
    let before : length rows - 1 ≡ j = omega arith in
    let mapped = slice_get-map (λ (row : ByteString 66). text row) rows j in
    let so_far = slice_get-get_or (take (suc j) ks) j [] (omega arith) in
    let kept = get_or-take (suc j) ks j [] (omega arith) in
    let following = next-key ks j up (omega arith) in
    let there = slice_get-get_or ks (suc j) [] l in
    cc

pub listed_more : (ks : List Bytes) (rows : List (ByteString 66)) (i : ℕ) → T (short 66 ks) → map text rows ≡ take i ks → i < length ks → (row : ByteString 66) (more : List (ByteString 66)) → text row ≡ take 66 (get_or ks i []) → more ≡ rows ++ row ∷ [] → map text more ≡ take (i + 1) ks
listed_more ks rows i h listed l row more r e =
    let whole = whole_key ks i h l in
    let pushed = map_push text rows row in
    let longer = take_more ks i [] l in
    cc
