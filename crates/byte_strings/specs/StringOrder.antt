-- Bounded byte strings are totally ordered by what they hold, and equal where they hold the same. Assumes nothing.
use Rattle.std.specs.Prelude.{◌≡◌, ℕ}
use Rattle.std.specs.Cmp.{IsEquivalence}
use Rattle.std.specs.Cmp.Lexicographic.{on_texts, on_texts_equal, texts_ties}
use Rattle.std.specs.Ordering.{eq_by_cmp}
use Rattle.byte_strings.specs.declared.string.ByteString.{ByteString}
use Rattle.byte_strings.specs.Bytes.{order, same}
use Rattle.byte_strings.specs.Texts.{text, TotalByText}

module _ {N : ℕ} where
  pub string_order : TotalByText N
  unfolding order
  string_order = on_texts text

  pub string_equality : IsEquivalence (λ (x y : ByteString N). same (text x) (text y))
  unfolding same
  string_equality = on_texts_equal text

  pub string_ties : (x y : ByteString N) → same (text x) (text y) ≡ eq_by_cmp (λ (x y : ByteString N). order (text x) (text y)) x y
  unfolding same order
  string_ties x y = texts_ties (text x) (text y)
