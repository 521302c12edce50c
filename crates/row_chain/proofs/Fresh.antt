-- Links that each name the next slot make one chain of all slots. Assumes nothing.
use Rattle.std.proofs.Common.{◌≡◌, ℕ, zero, suc, ◌+◌, ◌-◌, ◌<◌, cond, ltb, List, ◌++◌, get_or, arith}
use Rattle.std.proofs.lemmas.Bool.Decides.{nat_tests}
use Rattle.row_chain.specs.Chains.{times, Once}
use Rattle.row_chain.specs.Links.{walk}
use Rattle.row_chain.proofs.Counts.{times_none, times-cons}

module _ (ns : List ℕ) (n : ℕ) (up : (k : ℕ) → k < n → get_or ns k 0 ≡ k + 1) where
  -- the slots below a, and those on the walk from there to the end
  once_from : (m a : ℕ) → a + m ≡ n → (j : ℕ) → cond (ltb j a) 1 0 + times j (walk ns a m) ≡ cond (ltb j n) 1 0
  unfolding walk
  once_from zero a e j = grind (arith, nat_tests, times_none)
  once_from (suc m) a e j =
      let link = up a in
      let h = once_from m (suc a) in
      grind (arith, nat_tests, times-cons)

  pub all_once : Once n (walk ns 0 0 ++ walk ns 0 (n - 0))
  unfolding walk
  all_once j = let h = once_from n 0 (omega arith) j in grind (arith, nat_tests)
