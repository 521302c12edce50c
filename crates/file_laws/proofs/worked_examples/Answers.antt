use Rattle.file_laws.proofs.Readings.{worked_examples}
use Rattle.file_laws.proofs.worked_examples.Goals as goal

pub returns : goal.returns
returns c = worked_examples
