-- The number of pairs and the total of their bytes after a pair was put in, changed or taken out. Assumes nothing.
use Rattle.std.proofs.Common.{◌≡◌, ℕ, suc, ◌+◌, ◌-◌, ◌≤◌, true, List, [], ◌∷◌, length, Option, None, Some, refl, arith}
use Rattle.std.specs.Option.{option_map}
use Rattle.byte_strings.specs.Bytes.{Bytes, same}
use Rattle.byte_strings.proofs.TotalOrder.{total_order, same_is}
use Rattle.ordered_table.proofs.Edits.{none_beyond}
use Rattle.storage.specs.Pairs.{Ascending, keys, total, under, placed, replaced, without}
use Rattle.storage.proofs.Places.{without-none}

-- a length known means a record there
pub of_length : (o : Option Bytes) (n : ℕ) → option_map length o ≡ Some n → (old : Bytes) × (o ≡ Some old) × (length old ≡ n)
of_length None n h = cc
of_length (Some old) n h = (old, refl, cc)

pub rest_ascending : {A : Type 0} (p : Bytes × A) (ps : List (Bytes × A)) → Ascending (keys (p ∷ ps)) → Ascending (keys ps)
rest_ascending p ps up = grind arith

-- ---- how many pairs there are

module _ {A : Type 0} (κ : Bytes) where
  pub length-placed : (a : A) (ps : List (Bytes × A)) → length (placed κ a ps) ≡ suc (length ps)
  unfolding placed
  length-placed a [] = refl
  length-placed a (p ∷ ps) = let ih = length-placed a ps in grind arith

  pub length-replaced : (a : A) (ps : List (Bytes × A)) → length (replaced κ a ps) ≡ length ps
  unfolding replaced
  length-replaced a [] = refl
  length-replaced a (p ∷ ps) = let ih = length-replaced a ps in grind arith

  -- behind the first pair with the key no other has it
  pub alone : (p : Bytes × A) (ps : List (Bytes × A)) → Ascending (keys (p ∷ ps)) → same p.0 κ ≡ true → without κ ps ≡ ps
  alone p ps up s =
      let equal = same_is p.0 κ in
      let none = none_beyond total_order κ (keys ps) in
      grind (arith, without-none)

  pub length_without : (old : A) (ps : List (Bytes × A)) → Ascending (keys ps) → under κ ps ≡ Some old → length (without κ ps) + 1 ≡ length ps
  unfolding under without
  length_without old [] up h = cc
  length_without old (p ∷ ps) up h =
      let one = alone p ps up in
      let ih : Ascending (keys ps) → under κ ps ≡ Some old → length (without κ ps) + 1 ≡ length ps = length_without old ps in
      grind arith

-- ---- the total of their bytes

module _ (κ : Bytes) where
  pub total-placed : (r : Bytes) (ps : List (Bytes × Bytes)) → total (placed κ r ps) ≡ length r + total ps
  unfolding placed total
  total-placed r [] = refl
  total-placed r (p ∷ ps) = let ih = total-placed r ps in grind arith

  -- no record is longer than all of them together
  pub total_holds : (old : Bytes) (ps : List (Bytes × Bytes)) → under κ ps ≡ Some old → length old ≤ total ps
  unfolding under total
  total_holds old [] h = cc
  total_holds old (p ∷ ps) h =
      let ih : under κ ps ≡ Some old → length old ≤ total ps = total_holds old ps in
      grind arith

  pub total-replaced : (r old : Bytes) (ps : List (Bytes × Bytes)) → under κ ps ≡ Some old → total (replaced κ r ps) + length old ≡ total ps + length r
  unfolding under replaced total
  total-replaced r old [] h = cc
  total-replaced r old (p ∷ ps) h =
      let ih : under κ ps ≡ Some old → total (replaced κ r ps) + length old ≡ total ps + length r = total-replaced r old ps in
      grind arith

  -- the same by taking away the old length
  pub total_changed : (r : Bytes) (n : ℕ) (ps : List (Bytes × Bytes)) → option_map length (under κ ps) ≡ Some n → total (replaced κ r ps) ≡ length r + (total ps - n)
  total_changed r n ps h =
      let old : (old : Bytes) × (under κ ps ≡ Some old) × (length old ≡ n) = grind arith in
      let changed = total-replaced r old.0 ps old.1 in
      let within = total_holds old.0 ps old.1 in
      omega arith

  pub total_without : (old : Bytes) (ps : List (Bytes × Bytes)) → Ascending (keys ps) → under κ ps ≡ Some old → total (without κ ps) + length old ≡ total ps
  unfolding under without total
  total_without old [] up h = cc
  total_without old (p ∷ ps) up h =
      let one = alone κ p ps up in
      let ih : Ascending (keys ps) → under κ ps ≡ Some old → total (without κ ps) + length old ≡ total ps = total_without old ps in
      grind arith
