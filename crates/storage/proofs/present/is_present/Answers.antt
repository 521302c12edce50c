use Rattle.storage.proofs.OwnPair.{own_pair, order_kept}
use Rattle.storage.proofs.present.is_present.Goals as goal

pub returns-clause-own_pair : goal.returns-clause-own_pair
returns-clause-own_pair g c = own_pair

pub returns-clause-order : goal.returns-clause-order
returns-clause-order g c = order_kept
