-- The laws of whole successions of calls, from the load on. Assumes nothing.
use Rattle.file_laws.specs.Laws.{RunsHold, LocksHold, DeliveriesHold}
use Rattle.file_laws.proofs.Deliveries.{delivery_law}
use Rattle.file_laws.proofs.Loads.{served_sound}
use Rattle.file_laws.proofs.Locks.{lock_law}
use Rattle.file_laws.proofs.Runs.{run_law}

pub runs_hold : RunsHold
runs_hold d s calls v = run_law d s calls (served_sound d s v)

pub locks_hold : LocksHold
locks_hold d s calls v = lock_law d s calls (served_sound d s v)

pub deliveries_hold : DeliveriesHold
deliveries_hold d s calls v = delivery_law d calls s (served_sound d s v)
