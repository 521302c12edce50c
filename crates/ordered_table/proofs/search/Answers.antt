use Rattle.std.proofs.lemmas.List.{take_min}
use Rattle.ordered_table.proofs.Places.{located_is}
use Rattle.ordered_table.proofs.search.Goals as goal

pub returns-clause-value : goal.returns-clause-value
returns-clause-value g c up =
    let found = rw (c.min.ensures, take_min) at c.binary_search.ensures in
    located_is g.met.E.Ord.total _ c.args.probe.now _ up found.bound found.position
