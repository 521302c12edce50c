-- The subset of a file number: the path strings of present records that its next READ may deliver.
--     within         a string lies at or beyond the position, and agrees with it as the mode wants
--     subset         the present records whose path strings lie within
--     next_record    the one with the lowest string, which READ delivers
use Rattle.std.specs.Prelude.{ℕ, Bool, true, cond, ◌&&◌, List, [], ◌∷◌, take, Some, None, filter, Option}
use Rattle.byte_strings.specs.Bytes.{Bytes, below, same}
use Rattle.storage.specs.Pairs.{reached}
use Rattle.file_rules.specs.declared.modes.PositioningMode.{PositioningMode}
use Rattle.file_rules.specs.declared.modes.PositioningMode.TheVariants.{Approximate, Generic, Exact}
use Rattle.file_rules.specs.Descriptions.{Description}
use Rattle.file_rules.specs.Files.{Entry, PlainFile, own}
use Rattle.file_rules.specs.Paths.{path_string}

-- a present record with its path string
pub record Found : Type 0 where
  pub string : Bytes
  pub key : Bytes
  pub bytes : Bytes

abbrev pub found : Option Bytes → Bytes × Bytes → List Found → List Found
found None p more = more
found (Some x) p more = record { string = x; key = p.0; bytes = p.1 } ∷ more

unfoldable pub strings : Description → ℕ → List (Bytes × Bytes) → List Found
strings d path [] = []
strings d path (p ∷ ps) = found (path_string d path p.0 p.1) p (strings d path ps)

-- in generic and exact mode the first c bytes agree
abbrev pub agrees : PositioningMode → ℕ → Bytes → Bytes → Bool
agrees Approximate c position x = true
agrees Generic c position x = same (take c position) (take c x)
agrees Exact c position x = same (take c position) (take c x)

unfoldable pub within : Entry → Bytes → Bool
within e x = reached e.mark e.position x && agrees e.mode e.compare e.position x

unfoldable pub subset : Description → List (Bytes × Bytes) → Entry → List Found
subset d ps e = filter (λ f. within e f.string) (strings d e.path ps)

abbrev pub lower : Found → Option Found → Found
lower f None = f
lower f (Some g) = cond (below g.string f.string) g f

unfoldable pub lowest : List Found → Option Found
lowest [] = None
lowest (f ∷ fs) = Some (lower f (lowest fs))

unfoldable pub next_record : Description → PlainFile → ℕ → Option Found
next_record d s n = lowest (subset d s.pairs (own s n))
