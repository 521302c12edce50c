-- The place of a key that is found.
use Rattle.std.specs.Prelude.{ℕ, suc, Bool, cond}
use Rattle.storage.specs.declared.mark.PositionMark.{PositionMark}
use Rattle.storage.specs.declared.mark.PositionMark.TheVariants.{At, Beyond}

-- where the next key stands, by whether the sought one is there and its place
abbrev pub next_place : PositionMark → Bool → ℕ → ℕ
next_place At there i = i
next_place Beyond there i = cond there (suc i) i
