use Rattle.file_laws.proofs.Laws.{runs_hold}
use Rattle.file_laws.proofs.run_law.Goals as goal

pub returns : goal.returns
returns c = runs_hold
