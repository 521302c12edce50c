use Rattle.std.proofs.Common.{pred, min, length, take, arith, rules}
use Rattle.std.proofs.lemmas.List.{same_lists, places, length-take}
use Rattle.ordered_table.proofs.Edits.{ascending_cut}
use Rattle.ordered_table.proofs.Outcomes.{front_removed}
use Rattle.ordered_table.proofs.remove.Goals as goal

pub returns-clause-after : goal.returns-clause-after
returns-clause-after g c =
    let n = length-take c.args.used c.args.cells.now in
    same_lists _ _ (search (rules, places)) (λ k d h. let e = c.rotate_left.ensures.by_index in grind (arith, places))

pub returns-clause-ascending : goal.returns-clause-ascending
returns-clause-ascending g c up =
    let cells = c.args.cells.now in
    let used = c.args.used in
    let n = length-take used cells in
    let front = front_removed cells used c.in_ok-at.at (pred (min used (length cells))) in
    let after = returns-clause-after g c in
    let cut = ascending_cut g.E.Ord.cmp (take used cells) c.in_ok-at.at up in
    grind arith
