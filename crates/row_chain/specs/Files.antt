-- What a chain of rows holds, and how many rows it may come to hold.
use Rattle.std.specs.Prelude.{ℕ, List, length}
use Rattle.byte_strings.specs.Bytes.{Bytes}
use Rattle.row_chain.specs.declared.chain.RowChain.{RowChain}
use Rattle.row_chain.specs.Chains.{rows}

abbrev pub held : RowChain → List Bytes
held c = rows c.linked

-- as many rows as there are slots
abbrev pub limit_of : RowChain → ℕ
limit_of c = length c.linked.slots.now
