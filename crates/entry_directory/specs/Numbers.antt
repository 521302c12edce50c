-- Directory entries by their record numbers.
use Rattle.std.specs.Prelude.{ℕ, List, Option, ◌==◌}
use Rattle.std.specs.declared.cmp.Ordering.{Ordering}
use Rattle.std.specs.List.{find}
use Rattle.std.specs.Ordering.{nat_cmp}
use Rattle.entry_directory.specs.declared.entry.DirectoryEntry.{DirectoryEntry}

abbrev pub by_number : DirectoryEntry → DirectoryEntry → Ordering
by_number x y = nat_cmp x.number y.number

abbrev pub entry_of : ℕ → List DirectoryEntry → Option DirectoryEntry
entry_of n es = find (λ e. e.number == n) es
