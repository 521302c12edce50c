use Rattle.file_laws.proofs.Laws.{locks_hold}
use Rattle.file_laws.proofs.lock_law.Goals as goal

pub returns : goal.returns
returns c = locks_hold
