-- An entry is found by its number. Assumes nothing.
use Rattle.std.proofs.Common.{ℕ, ◌≡◌, false, List, [], ◌∷◌, None, refl, arith}
use Rattle.std.specs.List.{find}
use Rattle.std.specs.Cmp.{unsigned_tied}
use Rattle.std.specs.Ordering.{nat_cmp, is_eq}
use Rattle.ordered_table.specs.Table.{holds}
use Rattle.entry_directory.specs.declared.entry.DirectoryEntry.{DirectoryEntry}
use Rattle.entry_directory.specs.Numbers.{by_number, entry_of}

pub found_by_number : (n : ℕ) (es : List DirectoryEntry) → find (λ e. is_eq (nat_cmp e.number n)) es ≡ entry_of n es
found_by_number n es = λ i. find (λ e. unsigned_tied e.number n i) es

-- of whatever entries, ascending or not
pub entry_missing : (probe : DirectoryEntry) (es : List DirectoryEntry) → holds by_number es probe ≡ false → entry_of probe.number es ≡ None
unfolding holds
entry_missing probe [] h = refl
entry_missing probe (e ∷ es) h =
    let tied = unsigned_tied e.number probe.number in
    let ih = entry_missing probe es in
    grind arith
