use Rattle.file_laws.proofs.Readings.{small_file_readings}
use Rattle.file_laws.proofs.small_file_readings.Goals as goal

pub returns : goal.returns
returns c = small_file_readings
