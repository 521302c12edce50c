-- The number of an amount fits 64 bits.
use Rattle.std.proofs.Common.{ℕ, ◌<◌, ◌≤◌, ◌^◌, List, length, arith}
use Rattle.std.specs.Str.Parse.{IsNumeral, digits_value}
use Rattle.std.proofs.lemmas.Int.Digits.{digits_value-lt}
use Rattle.std.proofs.Math.Nat.{pow-le-pow_right}

pub twelve_digits_fit : (word : List ℕ) → IsNumeral 10 word → length word ≤ 12 → digits_value 10 word < 2 ^ 64
twelve_digits_fit word numeral short =
    let ten : 0 < 10 = omega arith in
    omega (arith, digits_value-lt 10 word numeral.1, pow-le-pow_right ten short)
