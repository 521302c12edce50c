-- The row of a delivery in a key-row file.
use Rattle.std.specs.Prelude.{ℕ, List, ◌++◌, codes}

-- the specifier of the alternate key, then the region and the key
abbrev pub row_of : List ℕ → List ℕ → List ℕ
row_of region key = codes "RG" ++ region ++ key
