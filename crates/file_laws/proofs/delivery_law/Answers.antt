use Rattle.file_laws.proofs.Laws.{deliveries_hold}
use Rattle.file_laws.proofs.delivery_law.Goals as goal

pub returns : goal.returns
returns c = deliveries_hold
