-- Lists of pairs after a pair was put in, changed or taken out: what holds of each pair, lengths and totals. Assumes
-- nothing.
use Rattle.std.proofs.Common.{◌≡◌, ℕ, ◌≤◌, T, List, [], ◌∷◌, length, Some, arith}
use Rattle.std.specs.Ordering.{is_lt}
use Rattle.std.specs.List.{AllByRecursion}
use Rattle.ordered_table.specs.Table.{is_strictly_sorted_by}
use Rattle.std.proofs.lemmas.Bool.Decides.{nat_tests}
use Rattle.byte_strings.specs.Bytes.{Bytes, order}
use Rattle.byte_strings.proofs.TotalOrder.{total_order}
use Rattle.ordered_table.proofs.Edits.{both, left, right, beyond}
use Rattle.storage.specs.Pairs.{Ascending, keys, total, under, placed, replaced, without}
use Rattle.file_rules.specs.Steps.{others_locks}

module _ {A : Type 0} (κ : Bytes) (P : Bytes × A → Type 0) where
  pub all_placed : (a : A) (ps : List (Bytes × A)) → P (κ, a) → AllByRecursion P ps → AllByRecursion P (placed κ a ps)
  unfolding placed
  all_placed a [] h k = (h, tt)
  all_placed a (p ∷ ps) h k = let i = all_placed a ps h k.1 in grind arith

  pub all_replaced : (a : A) (ps : List (Bytes × A)) → P (κ, a) → AllByRecursion P ps → AllByRecursion P (replaced κ a ps)
  unfolding replaced
  all_replaced a [] h k = tt
  all_replaced a (p ∷ ps) h k = let i = all_replaced a ps h k.1 in grind arith

  pub all_without : (ps : List (Bytes × A)) → AllByRecursion P ps → AllByRecursion P (without κ ps)
  unfolding without
  all_without [] k = tt
  all_without (p ∷ ps) k = let i = all_without ps k.1 in grind arith

module _ {A : Type 0} (κ : Bytes) where
  pub length_without : (ps : List (Bytes × A)) → length (without κ ps) ≤ length ps
  unfolding without
  length_without [] = omega arith
  length_without (p ∷ ps) = let h = length_without ps in grind arith

pub total_without : (κ : Bytes) (ps : List (Bytes × Bytes)) → total (without κ ps) ≤ total ps
unfolding without total
total_without κ [] = omega arith
total_without κ (p ∷ ps) = let h = total_without κ ps in grind arith

-- ---- the locks of others

module _ (n : ℕ) where
  pub all_others : (P : Bytes × ℕ → Type 0) (ps : List (Bytes × ℕ)) → AllByRecursion P ps → AllByRecursion P (others_locks n ps)
  unfolding others_locks
  all_others P [] k = tt
  all_others P (p ∷ ps) k = let h = all_others P ps k.1 in grind arith

  pub length_others : (ps : List (Bytes × ℕ)) → length (others_locks n ps) ≤ length ps
  unfolding others_locks
  length_others [] = omega arith
  length_others (p ∷ ps) = let h = length_others ps in grind arith

  beyond_others : (κ : Bytes) (ps : List (Bytes × ℕ)) → T (beyond total_order κ (keys ps)) → T (beyond total_order κ (keys (others_locks n ps)))
  unfolding others_locks
  beyond_others κ [] h = h
  beyond_others κ (p ∷ ps) h = let i = beyond_others κ ps (right (is_lt (order κ p.0)) (beyond total_order κ (keys ps)) h) in grind (arith, left, both)

  pub ascending_others : (ps : List (Bytes × ℕ)) → Ascending (keys ps) → Ascending (keys (others_locks n ps))
  unfolding others_locks
  ascending_others [] h = h
  ascending_others (p ∷ ps) h =
      let i = ascending_others ps (right (beyond total_order p.0 (keys ps)) (is_strictly_sorted_by order (keys ps)) h) in
      let o = beyond_others p.0 ps (left (beyond total_order p.0 (keys ps)) (is_strictly_sorted_by order (keys ps)) h) in
      grind (arith, both)

-- the locks that another's release leaves
pub under-others : (κ : Bytes) (n m : ℕ) (ps : List (Bytes × ℕ)) → (m ≡ n → ⊥) → under κ ps ≡ Some n → under κ (others_locks m ps) ≡ Some n
unfolding under others_locks
under-others κ n m [] a h = h
under-others κ n m (p ∷ ps) a h = let k : under κ ps ≡ Some n → under κ (others_locks m ps) ≡ Some n = under-others κ n m ps a in grind (arith, nat_tests)
