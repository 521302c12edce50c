-- What an accepted call has passed, and which refusal has which number. Assumes nothing.
use Rattle.std.proofs.Common.{◌≡◌, ◌≤◌, Bool, true, false, ◌&&◌, ◌||◌, List, [], ◌∷◌, length, is_some, Some, None, sym, ap, true≢false, arith}
use Rattle.std.proofs.lemmas.Bool.Decides.{nat_tests}
use Rattle.std.specs.List.{AllByRecursion}
use Rattle.storage.specs.Checks.{first}
use Rattle.file_rules.specs.declared.fault.CallFault.{CallFault}
use Rattle.file_rules.specs.Calls.{Call, Open, is, number, count, buffer}
use Rattle.file_rules.specs.Checks.{not_open, not_allowed, no_such_path, bad_argument, short_buffer, in_use, no_current_key, alters_key, file_locked, records_locked, subset_empty, key_locked, no_record, no_lock_space, length_changes, key_present, clash, no_record_room, no_row_room}
use Rattle.file_rules.specs.Descriptions.{Description}
use Rattle.file_rules.specs.Faults.{number_of}
use Rattle.file_rules.specs.Files.{PlainFile, entry_of}
use Rattle.file_rules.specs.Refusals.{tested, checks, refusal}

-- ---- lists of checks

module _ {F : Type 0} where
  pub passed : (l : List (Bool × F)) → first l ≡ None → AllByRecursion (λ p. p.0 ≡ false) l
  passed [] h = tt
  passed (p ∷ ps) h = let k = passed ps in grind arith

  pub chosen : (Q : F → Type 0) (r : F) (l : List (Bool × F)) → AllByRecursion (λ p. p.0 ≡ true → Q p.1) l → first l ≡ Some r → Q r
  chosen Q r [] a h = absurd (true≢false (sym (ap is_some h)))
  chosen Q r (p ∷ ps) a h = let k = chosen Q r ps a.1 in grind arith

pub and_second : (x y : Bool) → x ≡ true → (x && y) ≡ false → y ≡ false
and_second x y e h = grind arith

-- ---- what was passed

pub record Clear (d : Description) (s : PlainFile) (c : Call) : Type 0 where
  pub opened : not_open s c ≡ false
  pub allowed : not_allowed s c ≡ false
  pub with_path : no_such_path d c ≡ false
  pub argued : bad_argument d c ≡ false
  pub buffered : short_buffer s c ≡ false
  pub unused : in_use s c ≡ false
  pub named : (no_current_key d s c || alters_key d s c) ≡ false
  pub unlocked : (file_locked s c || records_locked s c) ≡ false
  pub left : subset_empty d s c ≡ false
  pub free : key_locked d s c ≡ false
  pub standing : no_record d s c ≡ false
  pub lockable : no_lock_space d s c ≡ false
  pub lasting : length_changes d s c ≡ false
  pub new : key_present d s c ≡ false
  pub unique : is_some (clash d s c) ≡ false
  pub fits : no_record_room d s c ≡ false
  pub rows_fit : no_row_room d s c ≡ false

pub clear : (d : Description) (s : PlainFile) (c : Call) → refusal d s c ≡ None → Clear d s c
unfolding refusal
clear d s c h =
    let a = passed (tested d s c checks) h in
    record {
      opened = a.0;
      allowed = a.1.0;
      with_path = a.1.1.0;
      argued = a.1.1.1.0;
      buffered = a.1.1.1.1.0;
      unused = a.1.1.1.1.1.0;
      named = a.1.1.1.1.1.1.0;
      unlocked = a.1.1.1.1.1.1.1.0;
      left = a.1.1.1.1.1.1.1.1.0;
      free = a.1.1.1.1.1.1.1.1.1.0;
      standing = a.1.1.1.1.1.1.1.1.1.1.0;
      lockable = a.1.1.1.1.1.1.1.1.1.1.1.0;
      lasting = a.1.1.1.1.1.1.1.1.1.1.1.1.0;
      new = a.1.1.1.1.1.1.1.1.1.1.1.1.1.0;
      unique = a.1.1.1.1.1.1.1.1.1.1.1.1.1.1.0;
      fits = a.1.1.1.1.1.1.1.1.1.1.1.1.1.1.1.0;
      rows_fit = a.1.1.1.1.1.1.1.1.1.1.1.1.1.1.1.1.0;
    }

module _ (d : Description) (s : PlainFile) (c : Call) (k : Clear d s c) where
  pub low : 1 ≤ number c
  low = let h = k.opened in grind (arith, nat_tests)

  pub high : number c ≤ 8
  high = let h = k.opened in grind (arith, nat_tests)

  pub is_open : is Open c ≡ false → is_some (entry_of s (number c)) ≡ true
  is_open e = let h = k.opened in grind arith

  pub roomy : count c ≤ length (buffer c)
  roomy = let h = k.buffered in grind (arith, nat_tests)

-- ---- numbers

module _ (d : Description) (s : PlainFile) (c : Call) where
  -- no refusal has the number 0
  pub nonzero : (r : CallFault) → refusal d s c ≡ Some r → number_of r ≡ 0 → ⊥
  unfolding refusal
  nonzero r h = chosen (λ r. number_of r ≡ 0 → ⊥) r (tested d s c checks) (omega arith) h

  -- only an empty subset is told by 1
  pub told_empty : (r : CallFault) → refusal d s c ≡ Some r → number_of r ≡ 1 → subset_empty d s c ≡ true
  unfolding refusal
  told_empty r h = chosen (λ r. number_of r ≡ 1 → subset_empty d s c ≡ true) r (tested d s c checks)
      (grind arith) h
