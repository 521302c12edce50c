use Rattle.std.proofs.Common.{◌≡◌, ℕ, ◌+◌, ◌<◌, get_or}
use Rattle.row_chain.specs.Links.{links}
use Rattle.row_chain.proofs.chain.RowChain.over.Given as goal

abbrev pub invariant-loop-i : goal.invariant-loop-i
invariant-loop-i l = (k : ℕ) → k < l.i → get_or (links l.slots) k 0 ≡ k + 1
