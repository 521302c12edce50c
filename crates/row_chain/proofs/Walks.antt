-- Walks along links, and what they are after the link of one slot has changed. Assumes nothing.
use Rattle.std.proofs.Common.{◌≡◌, ℕ, zero, suc, ◌+◌, ◌<◌, List, ◌∷◌, ◌++◌, length, get_or, set, refl, arith}
use Rattle.std.proofs.lemmas.List.{get_or-set_same, get_or-set_other}
use Rattle.row_chain.specs.Chains.{times}
use Rattle.row_chain.specs.Links.{follow, walk, slot_before}
use Rattle.row_chain.proofs.Counts.{not_in, times-append}

module _ (ns : List ℕ) where
  pub follow-next : (a i : ℕ) → follow ns a (suc i) ≡ get_or ns (follow ns a i) 0
  follow-next a zero = refl
  follow-next a (suc i) = follow-next (get_or ns a 0) i

  pub length-walk : (a n : ℕ) → length (walk ns a n) ≡ n
  unfolding walk
  length-walk a zero = refl
  length-walk a (suc n) = let ih = length-walk (get_or ns a 0) n in grind arith

  -- a walk goes on where its front has led
  pub walk-on : (a i m n : ℕ) → n ≡ i + m → walk ns a n ≡ walk ns a i ++ walk ns (follow ns a i) m
  unfolding walk
  walk-on a zero m n e = grind arith
  walk-on a (suc i) m zero e = absurd (omega arith)
  walk-on a (suc i) m (suc n) e = let ih = walk-on (get_or ns a 0) i m n in grind arith

  pub walk_at : (a i m n : ℕ) → n ≡ i + suc m → walk ns a n ≡ walk ns a i ++ follow ns a i ∷ walk ns (get_or ns (follow ns a i) 0) m
  unfolding walk
  walk_at a i m n e = walk-on a i (suc m) n e

  pub get_or-walk : (a i n : ℕ) → i < n → get_or (walk ns a n) i 0 ≡ follow ns a i
  unfolding walk
  get_or-walk a zero (suc n) l = refl
  get_or-walk a (suc i) (suc n) l = get_or-walk (get_or ns a 0) i n (omega arith)
  get_or-walk a i zero l = absurd (omega arith)

  module _ (x v : ℕ) where
    -- the link of a slot that is not passed does not matter
    pub walk_past : (a n : ℕ) → times x (walk ns a n) ≡ 0 → (walk (set ns x v) a n ≡ walk ns a n) × (follow (set ns x v) a n ≡ follow ns a n)
    unfolding walk
    walk_past a zero h = (refl, refl)
    walk_past a (suc n) h =
        let b = get_or ns a 0 in
        let apart = not_in x a (walk ns b n) h in
        let link = get_or-set_other ns x a v 0 in
        let ih = walk_past b n in
        grind arith

    pub before_past : (a i : ℕ) → times x (walk ns a i) ≡ 0 → slot_before (set ns x v) a i ≡ slot_before ns a i
    unfolding walk
    before_past a zero h = refl
    before_past a (suc i) h =
        let split = walk-on a i 1 (suc i) in
        let past = walk_past a i in
        grind (arith, times-append)

    -- a walk that begins at the slot whose link is new
    pub walk_through : (n : ℕ) → x < length ns → times x (walk ns v n) ≡ 0 → walk (set ns x v) x (suc n) ≡ x ∷ walk ns v n
    unfolding walk
    walk_through n l h =
        let link = get_or-set_same ns x v 0 in
        let past = walk_past v n in
        grind arith
