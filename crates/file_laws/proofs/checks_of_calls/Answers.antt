use Rattle.file_laws.proofs.OwnChecks.{own_checks}
use Rattle.file_laws.proofs.checks_of_calls.Goals as goal

pub returns : goal.returns
returns c = own_checks
