-- What finding and fetching answer, and the buffer after.
use Rattle.std.specs.Prelude.{ℕ, min, Bool, true, false, length, Some, None, Ok, Err, Option, Result}
use Rattle.byte_strings.specs.Bytes.{Bytes, fronted}
use Rattle.storage.specs.declared.faults.Absent.{Absent}

-- whether there is a key, and its whole length though the buffer may cut it
abbrev pub found : Option Bytes → Bool × ℕ
found None = (false, 0)
found (Some key) = (true, length key)

-- how many bytes came into a buffer of that length
abbrev pub fetched : Option Bytes → ℕ → Result ℕ Absent
fetched None room = Err (record {})
fetched (Some bytes) room = Ok (min (length bytes) room)

abbrev pub filled : Option Bytes → Bytes → Bytes
filled None buffer = buffer
filled (Some bytes) buffer = fronted bytes buffer
