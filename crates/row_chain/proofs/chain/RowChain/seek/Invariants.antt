use Rattle.row_chain.proofs.Seeks.{Reached}
use Rattle.row_chain.proofs.chain.RowChain.seek.Given as goal

abbrev pub invariant-loop-index : goal.invariant-loop-index
invariant-loop-index l = Reached l.self.linked l.row (record { index = l.index; before = l.before; at = l.at })
