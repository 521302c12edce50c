-- What a table of rows answers and holds after the ordered table took an entry in or out. Assumes nothing.
use Rattle.std.proofs.Common.{◌≡◌, ℕ, ◌≤◌, false, ◌||◌, eqb, ltb, List, [], map, length, take, Some, None, Ok, Err, sym, ap, ◌∙◌, arith}
use Rattle.std.specs.List.{insert, remove}
use Rattle.std.proofs.lemmas.List.{length-map, take_all}
use Rattle.byte_strings.specs.declared.string.ByteString.{ByteString}
use Rattle.byte_strings.specs.Bytes.{Bytes, order}
use Rattle.byte_strings.specs.Texts.{text}
use Rattle.ordered_table.specs.declared.fault.InsertFault.{InsertFault}
use Rattle.ordered_table.specs.Entries.{entries}
use Rattle.ordered_table.specs.Table.{insertion, removal}
use Rattle.ordered_table.proofs.Edits.{map-inserted, map-removed}
use Rattle.ordered_table.proofs.Outcomes.{insertion_accepted, removal_accepted, removal_refused}
use Rattle.ordered_table.proofs.Places.{by_key, insertion-keys, removal-keys}
use Rattle.storage.specs.declared.faults.RowFault.TheVariants.{NotFound}
use Rattle.storage.specs.Checks.{first, settled}
use Rattle.storage.specs.Faults.{row_fault}
use Rattle.storage.specs.Pairs.{placed, without}
use Rattle.storage.specs.Rows.{bare, add_checks, drop_checks}
use Rattle.storage.proofs.Bare.{add_is, add_done, add_leaves, drop_absent, drop_done, drop_leaves}
use Rattle.row_table.specs.declared.table.RowTable.{RowTable}
use Rattle.row_table.specs.Tables.{rows, limit_of, rows_ascend}

-- the entry holds the row
module _ (t : RowTable) (row : Bytes) (entry : ByteString 66) (is : text entry ≡ take 66 row) (fits : length row ≤ 66) where
  whole : text entry ≡ row
  whole = is ∙ take_all 66 row fits

  inserting : insertion (by_key text order) (limit_of t) (length (entries t.rows)) (entries t.rows) entry ≡ insertion order (limit_of t) (length (rows t)) (rows t) row
  inserting =
      let keys = insertion-keys text order (limit_of t) (length (entries t.rows)) (entries t.rows) entry in
      let n = length-map (entries t.rows) text in
      let same = whole in
      cc

  removing : removal (by_key text order) (entries t.rows) entry ≡ removal order (rows t) row
  removing = let keys = removal-keys text order (entries t.rows) entry in let same = whole in cc

  module _ (ok : (eqb (length row) 0 || ltb 66 (length row)) ≡ false) where
    pub not_added : (f : InsertFault) → Err f ≡ insertion (by_key text order) (limit_of t) (length (entries t.rows)) (entries t.rows) entry → Err (row_fault f) ≡ settled (first (add_checks (limit_of t) (bare (rows t)) row))
    not_added f v =
        let answer = inserting in
        let refused = add_is (rows t) row (limit_of t) ok in
        grind arith

    pub added : (at : ℕ) → Ok at ≡ insertion (by_key text order) (limit_of t) (length (entries t.rows)) (entries t.rows) entry → (Ok tt ≡ settled (first (add_checks (limit_of t) (bare (rows t)) row))) × (bare (map text (insert (entries t.rows) at entry)) ≡ placed row [] (bare (rows t)))
    added at v =
        let f = insertion_accepted order (rows t) row (limit_of t) (length (rows t)) at (v ∙ inserting) in
        let done = add_done (rows t) row (limit_of t) ok in
        let leaves = add_leaves (rows t) row in
        let mapped = map-inserted text (entries t.rows) at entry in
        let same = whole in
        grind arith

  pub not_dropped : None ≡ removal (by_key text order) (entries t.rows) entry → Err NotFound ≡ settled (first (drop_checks (bare (rows t)) row))
  not_dropped v = sym (drop_absent (rows t) row (removal_refused order (rows t) row (v ∙ removing)))

  pub dropped : (at : ℕ) → Some at ≡ removal (by_key text order) (entries t.rows) entry → (Ok tt ≡ settled (first (drop_checks (bare (rows t)) row))) × (bare (map text (remove (entries t.rows) at)) ≡ without row (bare (rows t)))
  dropped at v =
      let f = removal_accepted order (rows t) row at (v ∙ removing) in
      let done = drop_done (rows t) row in
      let leaves = drop_leaves (rows t) row (rows_ascend t) in
      let mapped = map-removed text (entries t.rows) at in
      grind arith

  -- the two halves of it, as the check asks for them
  module _ (at : ℕ) (v : Some at ≡ removal (by_key text order) (entries t.rows) entry) where
    pub drop_answered : Ok tt ≡ settled (first (drop_checks (bare (rows t)) row))
    drop_answered = (dropped at v).0

    pub held_after_drop : (es : List (ByteString 66)) → es ≡ remove (entries t.rows) at → bare (map text es) ≡ without row (bare (rows t))
    held_after_drop es e = ap (λ xs. bare (map text xs)) e ∙ (dropped at v).1
