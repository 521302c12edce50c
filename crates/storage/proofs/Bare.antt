-- What a file of rows answers and leaves, by the list of its rows. Assumes nothing.
use Rattle.std.proofs.Common.{◌≡◌, ℕ, ◌<◌, ◌≤◌, Bool, true, false, cond, ◌||◌, eqb, ltb, leb, List, [], ◌∷◌, length, Some, None, Ok, Err, Result, refl, arith}
use Rattle.std.proofs.Math.Seq.{take-nil}
use Rattle.std.specs.List.{insert, remove}
use Rattle.std.proofs.lemmas.List.{length-map}
use Rattle.std.proofs.lemmas.Bool.Decides.{nat_tests}
use Rattle.byte_strings.specs.Bytes.{Bytes, order}
use Rattle.byte_strings.proofs.TotalOrder.{same_order}
use Rattle.ordered_table.specs.Table.{holds, place}
use Rattle.ordered_table.proofs.Edits.{map-inserted, map-removed}
use Rattle.storage.specs.declared.faults.RowFault.{RowFault}
use Rattle.storage.specs.declared.faults.RowFault.TheVariants.{AlreadyExists, NotFound, FileFull}
use Rattle.storage.specs.Checks.{first, settled}
use Rattle.storage.specs.Pairs.{Ascending, total, under, placed, without}
use Rattle.storage.specs.Reading.{fetched, filled}
use Rattle.storage.specs.Rows.{bare, keys_bare, bare_ascending, row_checks, add_checks, drop_checks}
use Rattle.storage.proofs.Places.{placed_at, without_at}

pub total-bare : (rows : List Bytes) → total (bare rows) ≡ 0
unfolding total
total-bare [] = refl
total-bare (row ∷ rows) = let ih = total-bare rows in omega arith

pub length-bare : (rows : List Bytes) → length (bare rows) ≡ length rows
length-bare rows = length-map rows (λ (row : Bytes). (row, []))

under-bare : (rows : List Bytes) (x : Bytes) → under x (bare rows) ≡ cond (holds order rows x) (Some []) None
unfolding under holds
under-bare [] x = refl
under-bare (row ∷ rows) x = let ih = under-bare rows x in grind (arith, same_order)

-- a row that passed its check
pub row_passed : (x : Bytes) (u : Unit {0}) → Ok u ≡ settled (first (row_checks x)) → ((eqb (length x) 0 || ltb 66 (length x)) ≡ false) × (length x ≤ 66)
row_passed x u e = grind (arith, nat_tests)

module _ (rows : List Bytes) (x : Bytes) where
  -- ---- fetching

  pub fetch_held : (buffer : Bytes) → holds order rows x ≡ true → (Ok 0 ≡ fetched (under x (bare rows)) (length buffer)) × (buffer ≡ filled (under x (bare rows)) buffer)
  fetch_held buffer h =
      let e = under-bare rows x in
      let nothing = take-nil {A = ℕ} (length buffer) in
      grind arith

  pub fetch_absent : (buffer : Bytes) → holds order rows x ≡ false → (Err (record {}) ≡ fetched (under x (bare rows)) (length buffer)) × (buffer ≡ filled (under x (bare rows)) buffer)
  fetch_absent buffer h = let e = under-bare rows x in grind arith

  -- ---- adding

  abbrev outcome : Bool → Bool → Result (Unit {0}) RowFault
  outcome there full = cond there (Err AlreadyExists) (cond full (Err FileFull) (Ok tt))

  abbrev ill_formed : Bool
  ill_formed = eqb (length x) 0 || ltb 66 (length x)

  -- a row of the right length, by what the ordered table says of it
  pub add_is : (limit : ℕ) → ill_formed ≡ false → settled (first (add_checks limit (bare rows) x)) ≡ outcome (holds order rows x) (leb limit (length rows))
  add_is limit e =
      let u = under-bare rows x in
      let n = length-bare rows in
      grind arith

  pub add_present : (limit : ℕ) → ill_formed ≡ false → holds order rows x ≡ true → settled (first (add_checks limit (bare rows) x)) ≡ Err AlreadyExists
  add_present limit e h = let is = add_is limit e in grind arith

  pub add_full : (limit : ℕ) → ill_formed ≡ false → holds order rows x ≡ false → limit ≤ length rows → settled (first (add_checks limit (bare rows) x)) ≡ Err FileFull
  add_full limit e h l = let is = add_is limit e in grind (arith, nat_tests)

  pub add_done : (limit : ℕ) → ill_formed ≡ false → holds order rows x ≡ false → length rows < limit → settled (first (add_checks limit (bare rows) x)) ≡ Ok tt
  add_done limit e h l = let is = add_is limit e in grind (arith, nat_tests)

  pub add_leaves : holds order rows x ≡ false → bare (insert rows (place order rows x) x) ≡ placed x [] (bare rows)
  add_leaves h =
      let same = keys_bare rows in
      let at = placed_at x [] (bare rows) in
      let put = map-inserted {Y = Bytes × Bytes} (λ (row : Bytes). (row, [])) rows (place order rows x) x in
      grind arith

  -- ---- dropping

  pub drop_absent : holds order rows x ≡ false → settled (first (drop_checks (bare rows) x)) ≡ Err NotFound
  drop_absent h = let e = under-bare rows x in grind arith

  pub drop_done : holds order rows x ≡ true → settled (first (drop_checks (bare rows) x)) ≡ Ok tt
  drop_done h = let e = under-bare rows x in grind arith

  pub drop_leaves : Ascending rows → holds order rows x ≡ true → bare (remove rows (place order rows x)) ≡ without x (bare rows)
  drop_leaves up h =
      let same = keys_bare rows in
      let at = without_at x (bare rows) (bare_ascending rows up) in
      let cut = map-removed {Y = Bytes × Bytes} (λ (row : Bytes). (row, [])) rows (place order rows x) in
      grind arith
