-- What a bounded byte string holds, and that by it the strings are totally ordered.
use Rattle.std.specs.Prelude.{ℕ, take}
use Rattle.std.specs.Cmp.{IsTotalOrder}
use Rattle.byte_strings.specs.Bytes.{Bytes, order}
use Rattle.byte_strings.specs.declared.string.ByteString.{ByteString}

abbrev pub text : {N : ℕ} → ByteString N → Bytes
text s = take s.len s.bytes

abbrev pub TotalByText : ℕ → Type 0
TotalByText N = IsTotalOrder (λ (x y : ByteString N). order (text x) (text y))
