-- What it says of a shape, of placing, of replacing and of removing that they are accepted. Assumes nothing.
use Rattle.std.proofs.Common.{◌≡◌, ℕ, ◌+◌, ◌<◌, ◌≤◌, Bool, true, false, List, [], ◌∷◌, length, Some, None, Ok, arith}
use Rattle.std.specs.List.{AllByRecursion}
use Rattle.std.proofs.lemmas.Bool.Decides.{nat_tests}
use Rattle.byte_strings.specs.Bytes.{Bytes}
use Rattle.byte_strings.proofs.TotalOrder.{same_is}
use Rattle.storage.specs.declared.shape.FileKind.{FileKind}
use Rattle.storage.specs.declared.shape.PrimaryShape.{PrimaryShape}
use Rattle.storage.specs.Checks.{first, settled}
use Rattle.storage.specs.Pairs.{total, under}
use Rattle.storage.specs.Primary.{is_relative, is_entry_sequenced, record_number, number_key, place_checks, replace_checks, remove_checks}
use Rattle.storage.specs.Shapes.{shape_checks, wrong_key_length}
use Rattle.storage.proofs.Figures.{total-placed, total-replaced}

-- where a call is accepted, none of its tests holds
pub none_holds : {F : Type 0} (cs : List (Bool × F)) → settled (first cs) ≡ Ok tt → AllByRecursion (λ c. c.0 ≡ false) cs
none_holds [] h = tt
none_holds (c ∷ cs) h = let ih = none_holds cs in grind arith

-- ---- a shape

pub record ShapeAccepted (s : PrimaryShape) : Type 0 where
  pub some_key : 1 ≤ s.key_len
  pub key_within : s.key_len ≤ 32
  pub relative_key : is_relative s.kind ≡ true → s.key_len ≡ 4
  pub entry_key : is_entry_sequenced s.kind ≡ true → s.key_len ≡ 4
  pub some_record : 1 ≤ s.max_record_len
  pub record_within : s.max_record_len ≤ 255
  pub some_limit : 1 ≤ s.record_limit
  pub limit_within : s.record_limit ≤ 4096
  pub some_bytes : 1 ≤ s.byte_limit
  pub bytes_within : s.byte_limit ≤ 1044480

key_bounds : (k : FileKind) (n : ℕ) → wrong_key_length k n ≡ false → (1 ≤ n) × (n ≤ 32) × (is_relative k ≡ true → n ≡ 4) × (is_entry_sequenced k ≡ true → n ≡ 4)
key_bounds k n h = grind (arith, nat_tests)

pub shape_accepted : (s : PrimaryShape) → settled (first (shape_checks s)) ≡ Ok tt → ShapeAccepted s
shape_accepted s h =
    let n = (none_holds (shape_checks s) h).0 in
    let w : wrong_key_length s.kind s.key_len ≡ false = grind arith in
    let k = key_bounds s.kind s.key_len w in
    grind (arith, nat_tests)

-- ---- a record placed

pub record PlaceAccepted (s : PrimaryShape) (ps : List (Bytes × Bytes)) (key bytes : Bytes) : Type 0 where
  pub key_length : length key ≡ s.key_len
  pub some_bytes : 1 ≤ length bytes
  pub within_longest : length bytes ≤ s.max_record_len
  pub next_number : is_entry_sequenced s.kind ≡ true → key ≡ number_key (length ps)
  pub absent : under key ps ≡ None
  pub one_more : length ps < s.record_limit
  pub bytes_within : total ps + length bytes ≤ s.byte_limit
  pub number_below : is_relative s.kind ≡ true → record_number key < s.record_limit

pub place_accepted : (s : PrimaryShape) (ps : List (Bytes × Bytes)) (key bytes : Bytes) → settled (first (place_checks s ps key bytes)) ≡ Ok tt → PlaceAccepted s ps key bytes
place_accepted s ps key bytes h =
    let n = none_holds (place_checks s ps key bytes) h in
    let t = total-placed key bytes ps in
    let number = same_is key (number_key (length ps)) in
    grind (arith, nat_tests)

-- ---- a record replaced

pub record ReplaceAccepted (s : PrimaryShape) (ps : List (Bytes × Bytes)) (key bytes : Bytes) : Type 0 where
  pub old : Bytes
  pub present : under key ps ≡ Some old
  pub some_bytes : 1 ≤ length bytes
  pub within_longest : length bytes ≤ s.max_record_len
  pub same_length : is_entry_sequenced s.kind ≡ true → length bytes ≡ length old
  pub bytes_within : total ps + length bytes ≤ s.byte_limit + length old

pub replace_accepted : (s : PrimaryShape) (ps : List (Bytes × Bytes)) (key bytes : Bytes) → settled (first (replace_checks s ps key bytes)) ≡ Ok tt → ReplaceAccepted s ps key bytes
replace_accepted s ps key bytes h =
    let n = none_holds (replace_checks s ps key bytes) h in
    let t = λ (old : Bytes). total-replaced key bytes old ps in
    grind (arith, nat_tests)

-- ---- a record removed

pub record RemoveAccepted (s : PrimaryShape) (ps : List (Bytes × Bytes)) (key : Bytes) : Type 0 where
  pub old : Bytes
  pub present : under key ps ≡ Some old
  pub not_entries : is_entry_sequenced s.kind ≡ false

pub remove_accepted : (s : PrimaryShape) (ps : List (Bytes × Bytes)) (key : Bytes) → settled (first (remove_checks s ps key)) ≡ Ok tt → RemoveAccepted s ps key
remove_accepted s ps key h = let n = none_holds (remove_checks s ps key) h in grind arith
