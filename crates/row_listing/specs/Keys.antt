-- Keys one behind the other.
use Rattle.std.specs.Prelude.{List, [], Some, None, Option}
use Rattle.byte_strings.specs.Bytes.{Bytes}
use Rattle.storage.specs.declared.mark.PositionMark.TheVariants.{At, Beyond}
use Rattle.storage.specs.Pairs.{next}

-- the first key, or the one that follows a key
abbrev pub key_after : Option Bytes → List Bytes → Option Bytes
key_after None ks = next At [] ks
key_after (Some k) ks = next Beyond k ks
