-- Walks after what led to a slot has come to lead to another. Assumes nothing.
use Rattle.std.proofs.Common.{◌≡◌, ℕ, zero, suc, ◌+◌, ◌≤◌, List, [], ◌∷◌, ◌++◌, length, set, Option, ap, ◌∙◌, arith}
use Rattle.std.proofs.lemmas.List.{append_assoc, length-set}
use Rattle.row_chain.specs.Chains.{times, Once}
use Rattle.row_chain.specs.Links.{follow, walk, slot_before, redirected, new_head}
use Rattle.row_chain.proofs.Counts.{alone, once_later}
use Rattle.row_chain.proofs.Walks.{walk-on, walk_past, before_past, walk_through}

module _ (size : ℕ) where
  -- the first i slots are followed by those from there on, and a walk beside them stays
  joined : (ns : List ℕ) (head i to m n spare k : ℕ) → size ≤ length ns → n ≡ i + m → Once size ((walk ns head i ++ walk ns to m) ++ walk ns spare k) → (walk (redirected (slot_before ns head i) to ns) (new_head (slot_before ns head i) to head) n ≡ walk ns head i ++ walk ns to m) × (walk (redirected (slot_before ns head i) to ns) spare k ≡ walk ns spare k)
  unfolding walk
  joined ns head zero to m n spare k l e once = grind arith
  joined ns head (suc i) to m n spare k l e once =
      let x = follow ns head i in
      let front = walk ns head i in
      let back = walk ns to m in
      let beside = walk ns spare k in
      let join : walk ns head (suc i) ++ back ≡ front ++ x ∷ back =
      ap (λ l. l ++ back) (walk-on ns head i 1 (suc i) (omega arith)) ∙ append_assoc front (x ∷ []) back in
      let apart = alone x front back beside size (once_later x front back beside size (λ j. let h = once j in cc)) in
      let led = walk_past ns x to head i apart.1 in
      let split = walk-on (set ns x to) head i (suc m) n (omega arith) in
      let through = walk_through ns x to m (omega (arith, apart.0)) apart.2 in
      let past = walk_past ns x to spare k apart.3 in
      grind arith

  -- the same where the link of a slot x, which is not among the first i, is new
  pub rejoined : (ns : List ℕ) (head i : ℕ) (before : Option ℕ) (x v to m n spare k : ℕ) (back beside : List ℕ) → size ≤ length ns → n ≡ i + m → before ≡ slot_before ns head i → times x (walk ns head i) ≡ 0 → walk (set ns x v) to m ≡ back → walk (set ns x v) spare k ≡ beside → Once size ((walk ns head i ++ back) ++ beside) → (walk (redirected before to (set ns x v)) (new_head before to head) n ≡ walk ns head i ++ back) × (walk (redirected before to (set ns x v)) spare k ≡ beside)
  rejoined ns head i before x v to m n spare k back beside l e is apart b s once =
      let ns1 = set ns x v in
      let f = walk_past ns x v head i apart in
      let o = before_past ns x v head i apart in
      let r = joined ns1 head i to m n spare k (simp length-set l) e (λ j. let h = once j in cc) in
      grind arith
