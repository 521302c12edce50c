-- The laws of whole successions of calls.
use Rattle.std.specs.Prelude.{◌≡◌, false, List}
use Rattle.file_rules.specs.Calls.{Call}
use Rattle.file_rules.specs.Descriptions.{Description}
use Rattle.file_rules.specs.Files.{PlainFile, empty}
use Rattle.file_rules.specs.Loads.{LoadCall, loaded}
use Rattle.file_rules.specs.Steps.{Event, trace}
use Rattle.file_laws.specs.Deliveries.{DeliveryLaw}
use Rattle.file_laws.specs.Locks.{LockLaw}
use Rattle.file_laws.specs.Runs.{RunLaw}
use Rattle.file_laws.specs.Sound.{Sound}

-- the state of a file that was loaded from empty and whose ENDLOAD was accepted
pub record Served (d : Description) (s : PlainFile) : Type 0 where
  pub loads : List LoadCall
  pub state : loaded d empty loads ≡ s
  pub ended : s.under_load ≡ false

-- of a law of events: it holds of every succession of calls on a file in service
abbrev pub OfEverySuccession : (Description → List Event → Type 0) → Type 0
OfEverySuccession Law = (d : Description) (s : PlainFile) (calls : List Call) → Served d s → Law d (trace d s calls)

abbrev pub RunsHold : Type 0
RunsHold = OfEverySuccession RunLaw

abbrev pub LocksHold : Type 0
LocksHold = OfEverySuccession LockLaw

abbrev pub DeliveriesHold : Type 0
DeliveriesHold = OfEverySuccession (λ d. DeliveryLaw)

-- a file in service is sound from the start
abbrev pub ServedSound : Type 0
ServedSound = (d : Description) (s : PlainFile) → Served d s → Sound d s
