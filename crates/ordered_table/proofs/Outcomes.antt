-- What the answers of an insertion and a removal tell, and what stands at the front after them. Assumes nothing.
use Rattle.std.proofs.Common.{◌≡◌, ℕ, ◌+◌, ◌<◌, ◌≤◌, Bool, true, false, cond, List, length, take, Some, None, Ok, Err, Ordering, arith}
use Rattle.std.specs.List.{insert, remove}
use Rattle.std.proofs.lemmas.List.Edits.{length-insert, length-remove}
use Rattle.std.proofs.lemmas.List.{length-take, take_at}
use Rattle.std.proofs.lemmas.Bool.Decides.{nat_tests}
use Rattle.ordered_table.specs.Table.{holds, place, insertion, removal, inserted_by, removed_by}

-- ---- a search

pub not_there : (b : Bool) (p at : ℕ) → Err at ≡ cond b (Ok p) (Err p) → (b ≡ false) × (p ≡ at)
not_there b p at e = grind arith

pub is_there : (b : Bool) (p at : ℕ) → Ok at ≡ cond b (Ok p) (Err p) → (b ≡ true) × (p ≡ at)
is_there b p at e = grind arith

-- ---- insertions and removals

module _ {E : Type 0} (cmp : E → E → Ordering) (xs : List E) (x : E) where
  pub insertion_accepted : (cells used at : ℕ) → Ok at ≡ insertion cmp cells used xs x → (holds cmp xs x ≡ false) × (used < cells) × (place cmp xs x ≡ at)
  insertion_accepted cells used at e = grind (arith, nat_tests)

  pub removal_accepted : (at : ℕ) → Some at ≡ removal cmp xs x → (holds cmp xs x ≡ true) × (place cmp xs x ≡ at)
  removal_accepted at e = grind arith

  pub removal_refused : None ≡ removal cmp xs x → holds cmp xs x ≡ false
  removal_refused e = grind arith

-- ---- the cells in use afterwards

module _ {E : Type 0} (cells : List E) (used at : ℕ) where
  pub front_inserted : (x : E) → at ≤ length (take used cells) → used < length cells → take (used + 1) (inserted_by (Ok at) cells used x) ≡ insert (take used cells) at x
  front_inserted x h l =
      let n = length-take used cells in
      grind (arith, length-insert, take_at)

  pub front_removed : (n : ℕ) → at < length (take used cells) → n + 1 ≡ length (take used cells) → take n (removed_by (Some at) cells used) ≡ remove (take used cells) at
  front_removed n h l = grind (arith, length-remove, take_at)
