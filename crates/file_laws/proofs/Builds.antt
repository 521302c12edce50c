-- The fresh key build is what it says, and a record that comes, goes or changes alters it by its own rows. Assumes nothing.
use Rattle.std.proofs.Common.{◌≡◌, ◌-◌, Bool, true, false, not, ◌&&◌, ◌||◌, ◌⊎◌, List, [], length, drop, is_some, Some, None, Option, sym, ap, ◌∙◌, inl, inr, ⊎_elim, true≢false, arith}
use Rattle.std.proofs.Math.Bool.{and-true}
use Rattle.std.specs.List.{AllByRecursion}
use Rattle.byte_strings.specs.Bytes.{Bytes, same}
use Rattle.byte_strings.proofs.TotalOrder.{is_same, same_cases}
use Rattle.storage.specs.Laws.{has}
use Rattle.storage.specs.Pairs.{Ascending, keys, under, placed, replaced, without}
use Rattle.storage.proofs.OwnPair.{placed_here, replaced_here, removed_here, placed_elsewhere, replaced_elsewhere, removed_elsewhere, placed_ascending, replaced_ascending, removed_ascending}
use Rattle.file_rules.specs.declared.description.AlternateKey.{AlternateKey}
use Rattle.file_rules.specs.Descriptions.{Description}
use Rattle.file_rules.specs.Paths.{record_rows, all_rows, fresh_rows}
use Rattle.file_laws.specs.Builds.{RowOf, Fresh, KeysLike, BuildLaw}
use Rattle.file_laws.proofs.Members.{all_in, in_from_under}
use Rattle.file_laws.proofs.Rows.{OfRecord, path_of_row, row_on_path, row_ends, record_of_row, row_of_record}
use Rattle.file_laws.proofs.Sorting.{has-sorted, sorted_ascends, only_one}

module _ (d : Description) where
  pub has-fresh : (ps : List (Bytes × Bytes)) (x : Bytes) → has x (fresh_rows d ps) ≡ has x (all_rows d.alternates ps)
  unfolding fresh_rows
  has-fresh ps x = has-sorted x (all_rows d.alternates ps)

  pub fresh_ascends : (ps : List (Bytes × Bytes)) → Ascending (fresh_rows d ps)
  unfolding fresh_rows
  fresh_ascends ps = sorted_ascends (all_rows d.alternates ps)

  with_path : (ps : List (Bytes × Bytes)) (x : Bytes) → OfRecord d.alternates ps x → RowOf d ps x
  with_path ps x w =
      let p = path_of_row w.key w.bytes x d.alternates w.one_of_its in
      record { path = p.0; alternate = p.1; key = w.key; bytes = w.bytes; named = p.2; present = w.present; is = p.3 }

  without_path : (ps : List (Bytes × Bytes)) (x : Bytes) → RowOf d ps x → OfRecord d.alternates ps x
  without_path ps x w =
      record { key = w.key; bytes = w.bytes; present = w.present; one_of_its = row_on_path w.key w.bytes x d.alternates w.path w.alternate w.named w.is }

  pub fresh : (ps : List (Bytes × Bytes)) → Ascending (keys ps) → Fresh d ps (fresh_rows d ps)
  fresh ps a =
      record {
        ascending = fresh_ascends ps;
        no_others = λ x h. with_path ps x (record_of_row d.alternates x ps a (sym (has-fresh ps x) ∙ h));
        all_of_them = λ x w. has-fresh ps x ∙ row_of_record d.alternates x ps (without_path ps x w);
      }

-- ---- what stands under one key changes

-- the rows of what stands under κ
abbrev pub rows_under : List AlternateKey → Bytes → Option Bytes → List Bytes
rows_under ks κ None = []
rows_under ks κ (Some r) = record_rows ks κ r

module _ (ks : List AlternateKey) (κ x : Bytes) where
  own_row : (o : Option Bytes) (ps : List (Bytes × Bytes)) → under κ ps ≡ o → has x (rows_under ks κ o) ≡ true → OfRecord ks ps x
  own_row None ps e h = absurd (true≢false (sym h))
  own_row (Some r) ps e h = record { key = κ; bytes = r; present = e; one_of_its = h }

  own_row_ends : (o : Option Bytes) → has x (rows_under ks κ o) ≡ true → drop (length x - length κ) x ≡ κ
  own_row_ends o h = grind (arith, row_ends)

  -- a row of a present record is a row under κ, or of a record elsewhere
  here_or_elsewhere : (o : Option Bytes) (ps : List (Bytes × Bytes)) → under κ ps ≡ o → (w : OfRecord ks ps x) → (has x (rows_under ks κ o) ≡ true) ⊎ (same κ w.key ≡ false)
  here_or_elsewhere o ps e w = let c = same_cases κ w.key in grind arith

  -- and the record elsewhere has a key as long as κ, so that its rows are no rows under κ
  elsewhere : (o : Option Bytes) (ps : List (Bytes × Bytes)) → AllByRecursion (λ p. length p.0 ≡ length κ) ps → (w : OfRecord ks ps x) → same κ w.key ≡ false → has x (rows_under ks κ o) ≡ false
  elsewhere o ps long w other =
      let as_long : length w.key ≡ length κ = all_in (λ p. length p.0 ≡ length κ) (w.key, w.bytes) ps long (in_from_under w.key w.bytes ps w.present) in
      let ends = row_ends ks w.key w.bytes x w.one_of_its in
      grind (arith, own_row_ends, is_same)

-- the rows after are the new and those before that are not old
balance : (after new before old : Bool) → (new ≡ true → after ≡ true) → (after ≡ true → (new ≡ true) ⊎ ((before ≡ true) × (old ≡ false))) → (before ≡ true → (old ≡ true) ⊎ (after ≡ true)) → after ≡ (new || (before && not old))
balance after new before old f g h = grind arith

-- only what stands under κ differs from ps to qs
module _ (d : Description) (κ : Bytes) (old new : Option Bytes) (ps qs : List (Bytes × Bytes)) where
  pub rows_change : KeysLike κ ps → Ascending (keys qs) → under κ ps ≡ old → under κ qs ≡ new → ((η : Bytes) → same κ η ≡ false → under η qs ≡ under η ps) → (x : Bytes) →
      has x (fresh_rows d qs) ≡ (has x (rows_under d.alternates κ new) || (has x (fresh_rows d ps) && not (has x (rows_under d.alternates κ old))))
  rows_change like ordered was is others x =
      has-fresh d qs x
      ∙ (balance (has x (all_rows ks qs)) (has x (rows_under ks κ new)) (has x (all_rows ks ps)) (has x (rows_under ks κ old))
      (λ h. row_of_record ks x qs (own_row ks κ x new qs is h))
      (λ h.
      let w = record_of_row ks x qs ordered h in
      ⊎_elim inl (λ o. let v = moved qs ps w (sym (others w.key o)) in inr (row_of_record ks x ps v, elsewhere ks κ x old ps like.long v o)) (here_or_elsewhere ks κ x new qs is w))
      (λ h.
      let w = record_of_row ks x ps like.ordered h in
      ⊎_elim inl (λ o. inr (row_of_record ks x qs (moved ps qs w (others w.key o)))) (here_or_elsewhere ks κ x old ps was w))
      ∙ ap (λ b. has x (rows_under ks κ new) || (b && not (has x (rows_under ks κ old)))) (sym (has-fresh d ps x)))
    where
      ks : List AlternateKey
      ks = d.alternates

      moved : (ps qs : List (Bytes × Bytes)) (w : OfRecord ks ps x) → under w.key qs ≡ under w.key ps → OfRecord ks qs x
      moved ps qs w e = record { key = w.key; bytes = w.bytes; present = e ∙ w.present; one_of_its = w.one_of_its }

pub build_law : (d : Description) → BuildLaw d
build_law d =
    record {
      fresh = fresh d;
      only_one = only_one;
      places =
          λ κ r ps like none x.
          rows_change d κ None (Some r) ps (placed κ r ps) like (placed_ascending κ r ps like.ordered none) none (placed_here κ r ps none) (λ η o. placed_elsewhere κ η o r ps) x
          ∙ ap (λ b. has x (record_rows d.alternates κ r) || b) (and-true (has x (fresh_rows d ps)));
      removes =
          λ κ r ps like e x.
          rows_change d κ (Some r) None ps (without κ ps) like (removed_ascending κ ps like.ordered) e (removed_here κ ps) (λ η o. removed_elsewhere κ η o ps) x;
      replaces =
          λ κ old new ps like e x.
          rows_change d κ (Some old) (Some new) ps (replaced κ new ps) like (replaced_ascending κ new ps like.ordered) e (replaced_here κ new ps (ap is_some e)) (λ η o. replaced_elsewhere κ η o new ps) x;
    }
