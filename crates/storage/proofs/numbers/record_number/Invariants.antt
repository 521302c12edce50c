use Rattle.std.proofs.Common.{◌≡◌, ◌-◌, ◌^◌, ◌≤◌, min, drop}
use Rattle.storage.specs.Primary.{number_from, record_number}
use Rattle.storage.proofs.numbers.record_number.Given as goal

-- what is left of the key, read on from the number so far, gives the whole
abbrev pub invariant-loop-b : goal.invariant-loop-b
invariant-loop-b l =
    (min (number_from l.number (drop l.b-index l.key)) (2 ^ 64 - 1) ≡ min (record_number l.key) (2 ^ 64 - 1))
    × (l.number ≤ 2 ^ 64 - 1)
