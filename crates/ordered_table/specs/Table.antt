-- Entries in strictly ascending order: where one stands, goes in and comes out.
--     is_strictly_sorted_by, Ascending     each entry comes before all that follow it
--     holds                  whether one of the entries equals x
--     place                  how many entries come before x, those at the front
--     searched               what a search answers: the place of what is there, or of what is not
--     insertion, removal     what an insertion and a removal answer
--     inserted_by, removed_by     what they leave in the cells
use Rattle.std.specs.Prelude.{ℕ, suc, pred, ◌+◌, Bool, true, false, cond, ◌&&◌, T, List, [], ◌∷◌, ◌++◌, take, drop, Some, None, Ok, Err, Option, Result, nat_le}
use Rattle.std.specs.declared.cmp.Ordering.{Ordering}
use Rattle.std.specs.Ordering.{is_lt, is_eq}
use Rattle.std.specs.List.{insert, remove, list_all}
use Rattle.ordered_table.specs.declared.fault.InsertFault.{InsertFault}
use Rattle.ordered_table.specs.declared.fault.InsertFault.TheVariants.{Present, Full}

module _ {E : Type 0} (cmp : E → E → Ordering) where
  -- a test, which computes in each goal: std's IsStrictlySortedBy says the same, and stays shut until it is unfolded
  abbrev pub is_strictly_sorted_by : List E → Bool
  is_strictly_sorted_by [] = true
  is_strictly_sorted_by (x ∷ xs) = list_all (λ y. is_lt (cmp x y)) xs && is_strictly_sorted_by xs

  abbrev pub Ascending : List E → Type 0
  Ascending xs = T (is_strictly_sorted_by xs)

  unfoldable pub holds : List E → E → Bool
  holds [] x = false
  holds (y ∷ ys) x = cond (is_eq (cmp y x)) true (holds ys x)

  unfoldable pub place : List E → E → ℕ
  place [] x = 0
  place (y ∷ ys) x = cond (is_lt (cmp y x)) (suc (place ys x)) 0

  abbrev pub searched : List E → E → Result ℕ ℕ
  searched xs x = cond (holds xs x) (Ok (place xs x)) (Err (place xs x))

  -- an equal entry refuses before want of a free cell does
  abbrev pub insertion : ℕ → ℕ → List E → E → Result ℕ InsertFault
  insertion cells used xs x = cond (holds xs x) (Err Present) (cond (nat_le cells used) (Err Full) (Ok (place xs x)))

  abbrev pub removal : List E → E → Option ℕ
  removal xs x = cond (holds xs x) (Some (place xs x)) None

module _ {E : Type 0} where
  abbrev pub inserted_by : Result ℕ InsertFault → List E → ℕ → E → List E
  inserted_by (Ok at) cells used x = insert (take used cells) at x ++ drop (used + 1) cells
  inserted_by (Err fault) cells used x = cells

  abbrev pub removed_by : Option ℕ → List E → ℕ → List E
  removed_by (Some at) cells used = remove (take used cells) at ++ (take 1 (drop at cells) ++ drop used cells)
  removed_by None cells used = cells

abbrev pub used_after_insert : Result ℕ InsertFault → ℕ → ℕ
used_after_insert (Ok at) used = used + 1
used_after_insert (Err fault) used = used

abbrev pub used_after_remove : Option ℕ → ℕ → ℕ
used_after_remove (Some at) used = pred used
used_after_remove None used = used
