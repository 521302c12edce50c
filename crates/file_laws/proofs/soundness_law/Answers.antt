use Rattle.file_laws.proofs.Loads.{served_sound}
use Rattle.file_laws.proofs.Soundness.{stays_sound}
use Rattle.file_laws.proofs.soundness_law.Goals as goal

pub returns : goal.returns
returns c = record { served = served_sound; stays = stays_sound }
