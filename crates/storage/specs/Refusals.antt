-- Whether what was given is taken, or why not.
use Rattle.std.specs.Prelude.{Ok, Err, Result}
use Rattle.storage.specs.declared.refused.Refused.{Refused}

abbrev pub verdict : {M G F : Type 0} → Result M (Refused G F) → Result (Unit {0}) F
verdict (Ok made) = Ok tt
verdict (Err refused) = Err refused.fault
