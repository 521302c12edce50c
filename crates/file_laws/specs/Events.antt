-- What an event of a trace is to a file number.
use Rattle.std.specs.Prelude.{ℕ, Bool, ◌&&◌, ◌==◌}
use Rattle.file_rules.specs.Calls.{CallName, Close, KeyPosition, Read, LockRec, is, reads, writes, number}
use Rattle.file_rules.specs.Steps.{Event}

-- a call of that name and of the number n, answered a
abbrev pub saw : CallName → ℕ → ℕ → Event → Bool
saw m n a e = is m e.call && number e.call == n && e.answer.number == a

abbrev pub closes : ℕ → Event → Bool
closes n e = saw Close n 0 e

abbrev pub positions : ℕ → Event → Bool
positions n e = saw KeyPosition n 0 e

abbrev pub delivers : ℕ → Event → Bool
delivers n e = saw Read n 0 e

-- a READ that found nothing left
abbrev pub exhausts : ℕ → Event → Bool
exhausts n e = saw Read n 1 e

abbrev pub locks : ℕ → Event → Bool
locks n e = saw LockRec n 0 e

-- an accepted READ or READUPDATE
abbrev pub has_read : Event → Bool
has_read e = reads e.call && e.answer.number == 0

-- an accepted WRITE or WRITEUPDATE
abbrev pub has_written : Event → Bool
has_written e = writes e.call && e.answer.number == 0
