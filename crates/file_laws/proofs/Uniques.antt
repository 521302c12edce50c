-- A unique value that is tested before it is written stands in no two records. Assumes nothing.
use Rattle.std.proofs.Common.{◌≡◌, ℕ, zero, suc, Bool, true, false, ◌⊎◌, List, [], ◌∷◌, is_some, Some, None, sym, refl, ap, ◌∙◌, subst, inl, inr, arith}
use Rattle.std.proofs.lemmas.Option.{same_Some, none-some}
use Rattle.byte_strings.specs.Bytes.{Bytes, same}
use Rattle.byte_strings.proofs.TotalOrder.{is_same, same_cases, same-flip}
use Rattle.storage.specs.Pairs.{under, placed, replaced, without}
use Rattle.storage.proofs.OwnPair.{placed_here, replaced_here, removed_here, placed_elsewhere, replaced_elsewhere, removed_elsewhere}
use Rattle.file_rules.specs.declared.description.AlternateKey.{AlternateKey}
use Rattle.file_rules.specs.Checks.{held_elsewhere, shares, lowest_path}
use Rattle.file_rules.specs.Descriptions.{nth_key}
use Rattle.file_rules.specs.Loads.{any_shares}
use Rattle.file_rules.specs.Paths.{value}
use Rattle.file_laws.specs.Sound.{UniqueOnce}
use Rattle.file_laws.proofs.Members.{In, in_from_under}

-- where no path is named, no key passes
pub none_passes : (t : AlternateKey → Bool) (ks : List AlternateKey) (i j : ℕ) (k : AlternateKey) → is_some (lowest_path i ks t) ≡ false → nth_key ks j ≡ Some k → t k ≡ false
none_passes t [] i j k h e = absurd (none-some k e)
none_passes t (x ∷ ks) i zero k h e = grind arith
none_passes t (x ∷ ks) i (suc j) k h e = let more = none_passes t ks (suc i) j k in grind arith

module _ (k : AlternateKey) (κ v : Bytes) where
  elsewhere_none : (ps : List (Bytes × Bytes)) (p : Bytes × Bytes) → held_elsewhere k κ v ps ≡ false → In p ps → value k p.1 ≡ Some v → same p.0 κ ≡ false → ⊥
  elsewhere_none [] p h i e o = i
  elsewhere_none (q ∷ ps) p h i e o = let more = elsewhere_none ps p in let r = is_same v v refl in grind arith

-- the record r under κ shares no value, so no other record has one of its values
shares_none : (k : AlternateKey) (ps : List (Bytes × Bytes)) (κ η r t v : Bytes) → shares ps κ r k ≡ false → k.unique ≡ true → value k r ≡ Some v → under η ps ≡ Some t → value k t ≡ Some v → same κ η ≡ false → ⊥
shares_none k ps κ η r t v h u e p q o =
    elsewhere_none k κ v ps (η, t) (grind arith) (in_from_under η t ps p) q (same-flip κ η o)

-- ---- one record changes

module _ (ks : List AlternateKey) (κ : Bytes) (ps qs : List (Bytes × Bytes)) (once : UniqueOnce ks ps) (elsewhere : (η : Bytes) → same κ η ≡ false → under η qs ≡ under η ps) where
  -- the record under κ shares no value with another
  abbrev Alone : Type 0
  Alone = (r : Bytes) → under κ qs ≡ Some r → (i : ℕ) (k : AlternateKey) → nth_key ks i ≡ Some k → shares ps κ r k ≡ false

  pub once_changed : Alone → UniqueOnce ks qs
  once_changed alone i k at u η θ r t v p q e f = go (same_cases κ η) (same_cases κ θ)
    where
      go : (κ ≡ η) ⊎ (same κ η ≡ false) → (κ ≡ θ) ⊎ (same κ θ ≡ false) → η ≡ θ
      go (inl a) (inl b) = sym a ∙ b
      go (inl a) (inr b) =
          absurd (shares_none k ps κ θ r t v (alone r (ap (λ z. under z qs) a ∙ p) i k at) u e (sym (elsewhere θ b) ∙ q) f b)
      go (inr a) (inl b) =
          absurd (shares_none k ps κ η t r v (alone t (ap (λ z. under z qs) b ∙ q) i k at) u f (sym (elsewhere η a) ∙ p) e a)
      go (inr a) (inr b) = once i k at u η θ r t v (sym (elsewhere η a) ∙ p) (sym (elsewhere θ b) ∙ q) e f

module _ (ks : List AlternateKey) (κ r : Bytes) (ps : List (Bytes × Bytes)) (once : UniqueOnce ks ps) where
  alone_by : (qs : List (Bytes × Bytes)) → under κ qs ≡ Some r → is_some (lowest_path 1 ks (shares ps κ r)) ≡ false → (t : Bytes) → under κ qs ≡ Some t → (i : ℕ) (k : AlternateKey) → nth_key ks i ≡ Some k → shares ps κ t k ≡ false
  alone_by qs p h t q i k at = subst (λ z. shares ps κ z k ≡ false) (same_Some r t (sym p ∙ q)) (none_passes (shares ps κ r) ks 1 i k h at)

  pub once_placed : under κ ps ≡ None → is_some (lowest_path 1 ks (shares ps κ r)) ≡ false → UniqueOnce ks (placed κ r ps)
  once_placed n h =
      once_changed ks κ ps (placed κ r ps) once (λ η o. placed_elsewhere κ η o r ps) (alone_by (placed κ r ps) (placed_here κ r ps n) h)

  pub once_replaced : is_some (under κ ps) ≡ true → is_some (lowest_path 1 ks (shares ps κ r)) ≡ false → UniqueOnce ks (replaced κ r ps)
  once_replaced n h =
      once_changed ks κ ps (replaced κ r ps) once (λ η o. replaced_elsewhere κ η o r ps) (alone_by (replaced κ r ps) (replaced_here κ r ps n) h)

pub once_without : (ks : List AlternateKey) (κ : Bytes) (ps : List (Bytes × Bytes)) → UniqueOnce ks ps → UniqueOnce ks (without κ ps)
once_without ks κ ps once =
    once_changed ks κ ps (without κ ps) once (λ η o. removed_elsewhere κ η o ps) (λ r p. absurd (none-some r (sym (removed_here κ ps) ∙ p)))

-- ---- all records at once

any_none : (all ps : List (Bytes × Bytes)) (k : AlternateKey) (p : Bytes × Bytes) → any_shares all ps k ≡ false → In p ps → shares all p.0 p.1 k ≡ false
any_none all [] k p h i = absurd i
any_none all (q ∷ ps) k p h i = let more = any_none all ps k p in grind arith

pub once_of_any : (ks : List AlternateKey) (ps : List (Bytes × Bytes)) → is_some (lowest_path 1 ks (any_shares ps ps)) ≡ false → UniqueOnce ks ps
once_of_any ks ps h i k at u κ η r t v p q e f = go (same_cases κ η)
  where
    go : (κ ≡ η) ⊎ (same κ η ≡ false) → κ ≡ η
    go (inl a) = a
    go (inr a) = absurd (shares_none k ps κ η r t v (any_none ps ps k (κ, r) (none_passes (any_shares ps ps) ks 1 i k h at) (in_from_under κ r ps p)) u e q f a)
