-- The rows of a record, and of all records present. Assumes nothing.
use Rattle.std.proofs.Common.{◌≡◌, ℕ, zero, suc, ◌-◌, true, List, [], ◌∷◌, ◌++◌, length, drop, Some, None, Option, sym, refl, ap, ◌∙◌, subst, inl, inr, ⊎_elim, true≢false, arith}
use Rattle.std.proofs.lemmas.Option.{none-some}
use Rattle.std.specs.Option.{option_map}
use Rattle.std.proofs.lemmas.List.{append_assoc, length-append, drop_at}
use Rattle.byte_strings.specs.Bytes.{Bytes}
use Rattle.storage.specs.Laws.{has}
use Rattle.storage.specs.Pairs.{Ascending, keys, under}
use Rattle.file_rules.specs.declared.description.AlternateKey.{AlternateKey}
use Rattle.file_rules.specs.Descriptions.{nth_key}
use Rattle.file_rules.specs.Paths.{value, row, and_then, record_rows, all_rows}
use Rattle.file_laws.proofs.Members.{In, in_from_under, under-from-in}
use Rattle.file_laws.proofs.Sorting.{has_cases, has-append, has-itself}

-- ---- one record

-- x is the record's row for the key of a path
abbrev pub OnPath : List AlternateKey → Bytes → Bytes → Bytes → Type 0
OnPath ks κ r x = (i : ℕ) × (k : AlternateKey) × (nth_key ks i ≡ Some k) × (row k κ r ≡ Some x)

module _ (κ r x : Bytes) where
  pub path_of_row : (ks : List AlternateKey) → has x (record_rows ks κ r) ≡ true → OnPath ks κ r x
  path_of_row [] h = absurd (true≢false (sym h))
  path_of_row (k ∷ ks) h = go (row k κ r) refl h (path_of_row ks)
    where
      later : OnPath ks κ r x → OnPath (k ∷ ks) κ r x
      later w = (suc w.0, w.1, w.2, w.3)

      go : (o : Option Bytes) → row k κ r ≡ o → has x (and_then o (record_rows ks κ r)) ≡ true → (has x (record_rows ks κ r) ≡ true → OnPath ks κ r x) → OnPath (k ∷ ks) κ r x
      go None e h i = later (i h)
      go (Some y) e h i = ⊎_elim (λ s. (zero, k, refl, e ∙ ap Some s)) (λ t. later (i t)) (has_cases y x (record_rows ks κ r) h)

  pub row_on_path : (ks : List AlternateKey) (i : ℕ) (k : AlternateKey) → nth_key ks i ≡ Some k → row k κ r ≡ Some x → has x (record_rows ks κ r) ≡ true
  row_on_path [] i k n e = absurd (none-some k n)
  row_on_path (j ∷ ks) zero k n e = grind (arith, has-itself)
  row_on_path (j ∷ ks) (suc i) k n e = let h = row_on_path ks i k n e in grind arith

pub drop-front : (front κ : Bytes) → drop (length (front ++ κ) - length κ) (front ++ κ) ≡ κ
drop-front front κ = drop_at front κ _ (let l = length-append front κ in omega arith)

-- a row ends with its primary key
pub row_ends : (ks : List AlternateKey) (κ r x : Bytes) → has x (record_rows ks κ r) ≡ true → drop (length x - length κ) x ≡ κ
row_ends ks κ r x h = let w = path_of_row κ r x ks h in go w.1.specifier (value w.1 r) w.3
  where
    go : (s : Bytes) (o : Option Bytes) → option_map (λ v. s ++ (v ++ κ)) o ≡ Some x → drop (length x - length κ) x ≡ κ
    go s None e = absurd (none-some x e)
    go s (Some v) e =
        let i : s ++ (v ++ κ) ≡ x = cc in
        subst (λ z. drop (length z - length κ) z ≡ κ) (append_assoc s v κ ∙ i) (drop-front (s ++ v) κ)

-- ---- all records

-- x is a row of a present record
pub record OfRecord (ks : List AlternateKey) (ps : List (Bytes × Bytes)) (x : Bytes) : Type 0 where
  pub key : Bytes
  pub bytes : Bytes
  pub present : under key ps ≡ Some bytes
  pub one_of_its : has x (record_rows ks key bytes) ≡ true

module _ (ks : List AlternateKey) (x : Bytes) where
  pair_of_row : (ps : List (Bytes × Bytes)) → has x (all_rows ks ps) ≡ true → (p : Bytes × Bytes) × In p ps × (has x (record_rows ks p.0 p.1) ≡ true)
  pair_of_row [] h = absurd (true≢false (sym h))
  pair_of_row (p ∷ ps) h =
      ⊎_elim (λ t. (p, inl refl, t)) (λ t. let w = pair_of_row ps t in (w.0, inr w.1, w.2))
      (let a = has-append x (record_rows ks p.0 p.1) (all_rows ks ps) in grind arith)

  row_of_pair : (ps : List (Bytes × Bytes)) (p : Bytes × Bytes) → In p ps → has x (record_rows ks p.0 p.1) ≡ true → has x (all_rows ks ps) ≡ true
  row_of_pair [] p i h = absurd i
  row_of_pair (q ∷ ps) p i h =
      let k : In p ps → has x (all_rows ks ps) ≡ true = λ i. row_of_pair ps p i h in
      grind (arith, has-append)

  pub record_of_row : (ps : List (Bytes × Bytes)) → Ascending (keys ps) → has x (all_rows ks ps) ≡ true → OfRecord ks ps x
  record_of_row ps a h =
      let w = pair_of_row ps h in
      record { key = w.0.0; bytes = w.0.1; present = under-from-in w.0 ps a w.1; one_of_its = w.2 }

  pub row_of_record : (ps : List (Bytes × Bytes)) → OfRecord ks ps x → has x (all_rows ks ps) ≡ true
  row_of_record ps w = row_of_pair ps (w.key, w.bytes) (in_from_under w.key w.bytes ps w.present) w.one_of_its
