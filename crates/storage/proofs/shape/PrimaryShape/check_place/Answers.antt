use Rattle.std.proofs.Common.{rules}
use Rattle.storage.proofs.Figures.{total-placed}
use Rattle.storage.proofs.shape.PrimaryShape.check_place.Goals as goal

pub returns-then-count-self-clause-value : goal.returns-then-count-self-clause-value
returns-then-count-self-clause-value c ps n t p = let e = total-placed c.args.key.now c.args.bytes.now ps in search rules

pub returns-clause-value : goal.returns-clause-value
returns-clause-value c ps n t p = let e = total-placed c.args.key.now c.args.bytes.now ps in search rules
