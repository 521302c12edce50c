use Rattle.std.proofs.Common.{take, arith, rules}
use Rattle.std.proofs.lemmas.List.{same_lists, places, get_or-set_same}
use Rattle.std.proofs.lemmas.Bool.{cases_eq}
use Rattle.ordered_table.proofs.Edits.{ascending_put}
use Rattle.ordered_table.proofs.Outcomes.{front_inserted}
use Rattle.ordered_table.proofs.insert.Goals as goal

pub returns-clause-after : goal.returns-clause-after
returns-clause-after g c =
    same_lists _ _ (search (rules, places)) (λ k d h. let e = c.rotate_right.ensures.by_index in let s = cases_eq k c.in-Err.at in grind (arith, places, get_or-set_same))

pub returns-clause-ascending : goal.returns-clause-ascending
returns-clause-ascending g c up =
    let xs = take c.args.used c.args.cells.now in
    let after = returns-clause-after g c in
    let put = ascending_put g.met.E.Ord.total xs c.args.entry up in
    let front = front_inserted c.args.cells.now c.args.used c.in-Err.at c.args.entry c.in-Err.ensures.bound c.if-used-cells.false in
    let value = c.in-Err.ensures.value up in
    grind arith
