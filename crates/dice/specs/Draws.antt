-- The numbers that a generator draws.
use Rattle.std.specs.Prelude.{cond, ℕ, ◌+◌, ◌*◌, ◌/◌, ◌%◌, ◌^◌, eqb}

abbrev pub next_state : ℕ → ℕ
next_state s = (((s * 6364136223846793005) % 2 ^ 64) + 1442695040888963407) % 2 ^ 64

-- the upper 31 bits, taken modulo the number of sides
abbrev pub drawn : ℕ → ℕ → ℕ
drawn s sides = cond (eqb sides 0) 0 ((s / 2 ^ 33) % sides)
