-- Each call meets its own checks: the others are false at it by computing. Assumes nothing.
use Rattle.std.proofs.Common.{refl}
use Rattle.file_rules.specs.Keys.{key_in_question}
use Rattle.file_rules.specs.Refusals.{refusal}
use Rattle.file_laws.specs.OwnChecks.{CallsMeetOwnChecks}

pub own_checks : CallsMeetOwnChecks
unfolding refusal key_in_question
own_checks d s n = record {
  open_meets = λ a e. refl;
  close_meets = refl;
  keyposition_meets = λ p m k c v. refl;
  read_meets = λ c b. refl;
  readupdate_meets = λ c b. refl;
  write_meets = λ c b. refl;
  writeupdate_meets = λ c b. refl;
  lockfile_meets = refl;
  unlockfile_meets = refl;
  lockrec_meets = refl;
  unlockrec_meets = refl;
  lockinfo_meets = λ b. refl;
}
