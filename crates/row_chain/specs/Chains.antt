-- The two chains of linked slots.
--     used, unused     the slots along the chain of the rows, and along that of the free slots
--     rows             the rows along their chain
--     times            how often a number stands in a list
--     Once             each number below n stands there once, and no other does
--     Whole            each slot stands in one of the two chains, and there once
use Rattle.std.specs.Prelude.{◌≡◌, ℕ, ◌-◌, cond, List, [], ◌++◌, map, length, count_by, nat_eq, nat_lt, slice_index_or}
use Rattle.byte_strings.specs.Bytes.{Bytes}
use Rattle.row_chain.specs.declared.links.LinkedSlots.{LinkedSlots}
use Rattle.row_chain.specs.Links.{texts, links, walk}

abbrev pub used : LinkedSlots → List ℕ
used chain = walk (links chain.slots.now) chain.head chain.count

abbrev pub unused : LinkedSlots → List ℕ
unused chain = walk (links chain.slots.now) chain.free (length chain.slots.now - chain.count)

abbrev pub rows_at : List Bytes → List ℕ → List Bytes
rows_at held places = map (λ i. slice_index_or held i []) places

abbrev pub rows : LinkedSlots → List Bytes
rows chain = rows_at (texts chain.slots.now) (used chain)

unfoldable pub times : ℕ → List ℕ → ℕ
times i places = count_by (nat_eq i) places

abbrev pub Once : ℕ → List ℕ → Type 0
Once n places = (i : ℕ) → times i places ≡ cond (nat_lt i n) 1 0

abbrev pub Whole : LinkedSlots → Type 0
Whole chain = Once (length chain.slots.now) (used chain ++ unused chain)
