use Rattle.std.proofs.Common.{length}
use Rattle.file_rules.proofs.bounds.+specifiers_differ.Given as goal

abbrev pub decreases-specifiers_differ : goal.decreases-specifiers_differ
decreases-specifiers_differ l = length l.keys.now
