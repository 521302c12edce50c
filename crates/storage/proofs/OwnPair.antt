-- Placing, replacing and removing alter what stands under their own key, and nothing else. Assumes nothing.
use Rattle.std.proofs.Common.{◌≡◌, ℕ, false, true, List, [], ◌∷◌, Option, is_some, Some, None, Ok, sym, refl, subst, arith}
use Rattle.byte_strings.specs.Bytes.{Bytes, order, same}
use Rattle.byte_strings.proofs.TotalOrder.{is_same, same_is, same_order, total_order}
use Rattle.ordered_table.specs.Table.{holds, place}
use Rattle.ordered_table.proofs.Edits.{ascending_put, ascending_cut, map-inserted, map-removed}
use Rattle.storage.specs.Checks.{first, settled}
use Rattle.storage.specs.Laws.{OwnPairChanged, OrderKept}
use Rattle.storage.specs.Pairs.{Ascending, keys, under, placed, replaced, without}
use Rattle.storage.specs.Rows.{add_checks, drop_checks}
use Rattle.storage.proofs.Places.{placed_at, without_at, without-none}

pub is_none : {A : Type 0} (o : Option A) → is_some o ≡ false → o ≡ None
is_none o h = grind arith

-- ---- under the own key

module _ {A : Type 0} (κ : Bytes) where
  pub placed_here : (a : A) (ps : List (Bytes × A)) → under κ ps ≡ None → under κ (placed κ a ps) ≡ Some a
  unfolding under placed
  placed_here a [] h = let own = is_same κ κ refl in grind arith
  placed_here a (p ∷ ps) h =
      let own = is_same κ κ refl in
      let ih : under κ ps ≡ None → under κ (placed κ a ps) ≡ Some a = placed_here a ps in
      grind arith

  pub replaced_here : (a : A) (ps : List (Bytes × A)) → is_some (under κ ps) ≡ true → under κ (replaced κ a ps) ≡ Some a
  unfolding under replaced
  replaced_here a [] h = cc
  replaced_here a (p ∷ ps) h =
      let own = is_same κ κ refl in
      let ih : is_some (under κ ps) ≡ true → under κ (replaced κ a ps) ≡ Some a = replaced_here a ps in
      grind arith

  pub removed_here : (ps : List (Bytes × A)) → under κ (without κ ps) ≡ None
  unfolding under without
  removed_here [] = refl
  removed_here (p ∷ ps) = let ih = removed_here ps in grind arith

-- ---- under another key

module _ {A : Type 0} (κ η : Bytes) (other : same κ η ≡ false) where
  pub placed_elsewhere : (a : A) (ps : List (Bytes × A)) → under η (placed κ a ps) ≡ under η ps
  unfolding under placed
  placed_elsewhere a [] = grind arith
  placed_elsewhere a (p ∷ ps) = let ih = placed_elsewhere a ps in grind arith

  pub replaced_elsewhere : (a : A) (ps : List (Bytes × A)) → under η (replaced κ a ps) ≡ under η ps
  unfolding under replaced
  replaced_elsewhere a [] = refl
  replaced_elsewhere a (p ∷ ps) = let ih = replaced_elsewhere a ps in grind (arith, same_is)

  pub removed_elsewhere : (ps : List (Bytes × A)) → under η (without κ ps) ≡ under η ps
  unfolding under without
  removed_elsewhere [] = refl
  removed_elsewhere (p ∷ ps) = let ih = removed_elsewhere ps in grind (arith, same_is)

pub own_pair : (κ bytes : Bytes) (ps : List (Bytes × Bytes)) → OwnPairChanged κ bytes ps
own_pair κ bytes ps =
    record {
      placed_here = placed_here κ bytes ps;
      replaced_here = replaced_here κ bytes ps;
      removed_here = removed_here κ ps;
      placed_elsewhere = λ η other. placed_elsewhere κ η other bytes ps;
      replaced_elsewhere = λ η other. replaced_elsewhere κ η other bytes ps;
      removed_elsewhere = λ η other. removed_elsewhere κ η other ps;
    }

-- ---- the order of the keys

module _ {A : Type 0} (κ : Bytes) where
  pub absent_holds : (ps : List (Bytes × A)) → under κ ps ≡ None → holds order (keys ps) κ ≡ false
  unfolding under holds
  absent_holds [] h = refl
  absent_holds (p ∷ ps) h =
      let ih : under κ ps ≡ None → holds order (keys ps) κ ≡ false = absent_holds ps in
      grind (arith, same_order)

  pub keys-replaced : (a : A) (ps : List (Bytes × A)) → keys (replaced κ a ps) ≡ keys ps
  unfolding replaced
  keys-replaced a [] = refl
  keys-replaced a (p ∷ ps) =
      let found = same_is p.0 κ in
      let ih = keys-replaced a ps in
      grind arith

  pub placed_ascending : (a : A) (ps : List (Bytes × A)) → Ascending (keys ps) → under κ ps ≡ None → Ascending (keys (placed κ a ps))
  placed_ascending a ps up h =
      let absent = absent_holds ps h in
      let at = placed_at κ a ps absent in
      let put = ascending_put total_order (keys ps) κ up absent in
      grind (arith, map-inserted)

  pub replaced_ascending : (a : A) (ps : List (Bytes × A)) → Ascending (keys ps) → Ascending (keys (replaced κ a ps))
  replaced_ascending a ps up = subst Ascending (sym (keys-replaced a ps)) up

  pub removed_ascending : (ps : List (Bytes × A)) → Ascending (keys ps) → Ascending (keys (without κ ps))
  removed_ascending ps up =
      let at = without_at κ ps up in
      let cut = ascending_cut order (keys ps) (place order (keys ps) κ) up in
      grind (arith, without-none, map-removed)

pub order_kept : (κ bytes : Bytes) (ps : List (Bytes × Bytes)) → Ascending (keys ps) → OrderKept κ bytes ps
order_kept κ bytes ps up =
    record {
      placed_ascend = placed_ascending κ bytes ps up;
      replaced_ascend = replaced_ascending κ bytes ps up;
      removed_ascend = removed_ascending κ ps up;
    }

-- ---- what was put in comes out without a trace

pub without-placed : {A : Type 0} (κ : Bytes) (a : A) (ps : List (Bytes × A)) → under κ ps ≡ None → without κ (placed κ a ps) ≡ ps
unfolding under placed without
without-placed κ a [] h = let own = is_same κ κ refl in grind arith
without-placed κ a (p ∷ ps) h =
    let own = is_same κ κ refl in
    let absent = absent_holds κ ps in
    let ih : under κ ps ≡ None → without κ (placed κ a ps) ≡ ps = without-placed κ a ps in
    grind (arith, without-none)

-- a row that was added comes out again, and leaves the list that it went into
pub dropped_again : (limit : ℕ) (ps : List (Bytes × Bytes)) (row : Bytes) (u : Unit {0}) → Ok u ≡ settled (first (add_checks limit ps row)) → (settled (first (drop_checks (placed row [] ps) row)) ≡ Ok tt) × (without row (placed row [] ps) ≡ ps)
dropped_again limit ps row u e =
    let absent : under row ps ≡ None = grind arith in
    let here = placed_here row [] ps absent in
    let back = without-placed row [] ps absent in
    grind arith
