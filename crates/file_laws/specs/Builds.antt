-- The fresh key build is what it says, and how one record changes it.
use Rattle.std.specs.Prelude.{◌≡◌, ℕ, true, not, ◌&&◌, ◌||◌, List, length, Some, None}
use Rattle.std.specs.List.{AllByRecursion}
use Rattle.byte_strings.specs.Bytes.{Bytes}
use Rattle.storage.specs.Laws.{has}
use Rattle.storage.specs.Pairs.{Ascending, keys, under, placed, replaced, without}
use Rattle.file_rules.specs.declared.description.AlternateKey.{AlternateKey}
use Rattle.file_rules.specs.Descriptions.{Description, nth_key}
use Rattle.file_rules.specs.Paths.{row, record_rows, fresh_rows}

-- x is the row of a present record for the alternate key of a path
pub record RowOf (d : Description) (ps : List (Bytes × Bytes)) (x : Bytes) : Type 0 where
  pub path : ℕ
  pub alternate : AlternateKey
  pub key : Bytes
  pub bytes : Bytes
  pub named : nth_key d.alternates path ≡ Some alternate
  pub present : under key ps ≡ Some bytes
  pub is : row alternate key bytes ≡ Some x

-- a strictly ascending list that has the rows of the records present and no others
pub record Fresh (d : Description) (ps : List (Bytes × Bytes)) (rows : List Bytes) : Type 0 where
  pub ascending : Ascending rows
  pub no_others : (x : Bytes) → has x rows ≡ true → RowOf d ps x
  pub all_of_them : (x : Bytes) → RowOf d ps x → has x rows ≡ true

-- the keys ascend, and are as long as κ
pub record KeysLike (κ : Bytes) (ps : List (Bytes × Bytes)) : Type 0 where
  pub ordered : Ascending (keys ps)
  pub long : AllByRecursion (λ p. length p.0 ≡ length κ) ps

pub record BuildLaw (d : Description) : Type 0 where
  pub fresh : (ps : List (Bytes × Bytes)) → Ascending (keys ps) → Fresh d ps (fresh_rows d ps)
  -- two strictly ascending lists with the same rows are one list
  pub only_one : (rows others : List Bytes) → Ascending rows → Ascending others → ((x : Bytes) → has x rows ≡ has x others) → rows ≡ others
  -- a placed record brings its rows
  pub places : (κ r : Bytes) (ps : List (Bytes × Bytes)) → KeysLike κ ps → under κ ps ≡ None → (x : Bytes) →
      has x (fresh_rows d (placed κ r ps)) ≡ (has x (record_rows d.alternates κ r) || has x (fresh_rows d ps))
  -- a removed one takes its rows away
  pub removes : (κ r : Bytes) (ps : List (Bytes × Bytes)) → KeysLike κ ps → under κ ps ≡ Some r → (x : Bytes) →
      has x (fresh_rows d (without κ ps)) ≡ (has x (fresh_rows d ps) && not (has x (record_rows d.alternates κ r)))
  -- a replaced one takes the old rows away and brings the new
  pub replaces : (κ old new : Bytes) (ps : List (Bytes × Bytes)) → KeysLike κ ps → under κ ps ≡ Some old → (x : Bytes) →
      has x (fresh_rows d (replaced κ new ps)) ≡ (has x (record_rows d.alternates κ new) || (has x (fresh_rows d ps) && not (has x (record_rows d.alternates κ old))))
