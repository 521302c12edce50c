-- The entries, keys and records that an accepted call makes are as long as they should be. Assumes nothing.
use Rattle.std.proofs.Common.{◌≡◌, ℕ, zero, suc, ◌-◌, ◌≤◌, min, true, false, ltb, List, [], ◌∷◌, length, take, drop, Some, Option, refl, ap, ◌∙◌, subst, arith}
use Rattle.std.proofs.lemmas.Bool.Decides.{nat_tests}
use Rattle.std.proofs.lemmas.Option.{none-some, same_Some}
use Rattle.std.proofs.lemmas.List.{length-take, length-drop, length-append}
use Rattle.std.proofs.lemmas.Bool.{or_parts, ltb-false}
use Rattle.std.specs.List.{AllByRecursion}
use Rattle.byte_strings.specs.Bytes.{Bytes}
use Rattle.storage.specs.Primary.{is_relative}
use Rattle.file_rules.specs.declared.description.AlternateKey.{AlternateKey}
use Rattle.file_rules.specs.declared.description.KeyField.{KeyField}
use Rattle.file_rules.specs.declared.description.Organization.{Organization}
use Rattle.file_rules.specs.declared.description.Organization.TheVariants.{Relative, EntrySequenced, KeySequenced}
use Rattle.file_rules.specs.declared.modes.PositioningMode.{PositioningMode}
use Rattle.file_rules.specs.Calls.{Positioning}
use Rattle.file_rules.specs.Checks.{wrong_compare, bad_position, cuts_key}
use Rattle.file_rules.specs.Descriptions.{Description, cut, end_of, kind_of, key_len, key_length, string_length}
use Rattle.file_rules.specs.Files.{Entry, numbered}
use Rattle.file_rules.specs.Keys.{key_by}
use Rattle.file_rules.specs.Paths.{value, path_string}
use Rattle.file_rules.specs.Steps.{named_key, opened_by, positioned}
use Rattle.file_laws.specs.Sound.{IfAny, EntryFits}

-- ---- entries

pub entry_fits : (d : Description) (es : List (Option Entry)) (n : ℕ) (o : Entry) → AllByRecursion (IfAny (EntryFits d)) es → numbered es n ≡ Some o → EntryFits d o
unfolding numbered
entry_fits d es zero o h e = absurd (none-some o e)
entry_fits d [] (suc n) o h e = absurd (none-some o e)
entry_fits d (x ∷ es) (suc zero) o h e = subst (IfAny (EntryFits d)) e h.0
entry_fits d (x ∷ es) (suc (suc n)) o h e = entry_fits d es (suc n) o h.1 e

pub opened_fits : (d : Description) (a e : ℕ) → EntryFits d (opened_by a e)
opened_fits d a e = record { path = omega arith; compare = omega arith; position = omega arith; current = tt }

compare_fits : (m : PositioningMode) (field len c : ℕ) → wrong_compare m field len c ≡ false → c ≤ field
compare_fits m field len c h = grind (arith, nat_tests)

named_fits : (d : Description) (path : ℕ) (v : Bytes) → IfAny (λ κ. length κ ≡ key_len d) (named_key d path v)
named_fits d path v = grind (arith, nat_tests)

pub positioned_fits : (d : Description) (o : Entry) (p : Positioning) → ltb (length d.alternates) p.path ≡ false → bad_position d p ≡ false → EntryFits d (positioned d o p)
positioned_fits d o p h k =
    let q = or_parts _ _ k in
    record {
      path = ltb-false _ _ h;
      compare = grind (arith, compare_fits);
      position = ltb-false _ _ q.0;
      current = named_fits d p.path p.value;
    }

-- ---- path strings

value_length : (k : AlternateKey) (r v : Bytes) → value k r ≡ Some v → length v ≤ k.field.len
unfolding value
value_length k r v h = grind (arith, length-take)

pub string_fits : (d : Description) (path : ℕ) (κ r x : Bytes) → length κ ≡ key_len d → path_string d path κ r ≡ Some x → length x ≤ string_length d path
unfolding path_string
string_fits d zero κ r x l h = let e = ap length (same_Some κ x h) in omega arith
string_fits d (suc i) κ r x l h = grind (arith, value_length, length-append)

-- ---- new records

module _ (d : Description) (count : ℕ) (buffer : Bytes) (room : count ≤ length buffer) where
  pub record_length : length (take count buffer) ≡ count
  record_length = length-take count buffer ∙ omega arith

  cut_length : (f : KeyField) → end_of f ≤ count → length (cut f (take count buffer)) ≡ f.len
  cut_length f h =
      length-take f.len (drop f.offset (take count buffer))
      ∙ ap (λ z. min f.len z) (length-drop f.offset (take count buffer) ∙ ap (λ z. z - f.offset) record_length)
      ∙ omega arith

  pub key_fits : (g : Organization) (ps : List (Bytes × Bytes)) (named : Bytes) → cuts_key g count ≡ false → (is_relative (kind_of g) ≡ true → length named ≡ key_length g) → length (key_by g ps named (take count buffer)) ≡ key_length g
  key_fits Relative ps named h l = let k = l refl in grind arith
  key_fits EntrySequenced ps named h l = refl
  key_fits (KeySequenced f) ps named h l = cut_length f (ltb-false _ _ h)
