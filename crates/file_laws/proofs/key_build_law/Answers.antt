use Rattle.file_laws.proofs.Builds.{build_law}
use Rattle.file_laws.proofs.key_build_law.Goals as goal

pub returns : goal.returns
returns c = build_law
