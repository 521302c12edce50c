-- The readings of the small file: key-sequenced, key at offset 0 of length 2, one alternate key RG at offset 2 of length
-- 1, not unique and without a null byte. It holds 01C, 02W and 03C.
use Rattle.std.specs.Prelude.{◌≡◌, ℕ, Bool, true, false, List, [], ◌∷◌, None, codes}
use Rattle.byte_strings.specs.Bytes.{Bytes}
use Rattle.file_rules.specs.declared.description.Organization.TheVariants.{KeySequenced}
use Rattle.file_rules.specs.Calls.{OPEN, KEYPOSITION, READ}
use Rattle.file_rules.specs.Descriptions.{Description}
use Rattle.file_rules.specs.Files.{PlainFile, empty}
use Rattle.file_rules.specs.Loads.{LOAD, ENDLOAD, loaded}
use Rattle.file_rules.specs.Paths.{fresh_rows}
use Rattle.file_rules.specs.Steps.{Event, trace}

abbrev pub small : Description
small = record {
  organization = KeySequenced (record { offset = 0; len = 2 });
  longest = 255;
  alternates = record { specifier = codes "RG"; field = record { offset = 2; len = 1 }; unique = false; null_byte = None } ∷ [];
  record_limit = 64;
  byte_limit = 16320;
  row_limit = 64;
}

-- 02W, 01C and 03C loaded in this order, and the load ended
abbrev pub stocked : PlainFile
stocked = loaded small empty (LOAD 3 (codes "02W") ∷ LOAD 3 (codes "01C") ∷ LOAD 3 (codes "03C") ∷ ENDLOAD ∷ [])

-- ---- what four READs answer: the number, and the buffer of three bytes

abbrev pub answers : List Event → List (ℕ × Bytes)
answers [] = []
answers (e ∷ es) = (e.answer.number, e.answer.buffer) ∷ answers es

abbrev pub blanks : Bytes
blanks = codes "   "

abbrev pub readings : ℕ → ℕ → Bool → ℕ → Bytes → List (ℕ × Bytes)
readings path mode skip compare value = answers (trace small stocked
    (OPEN 1 0 0 ∷ KEYPOSITION 1 path mode skip compare value ∷ READ 1 3 blanks ∷ READ 1 3 blanks ∷ READ 1 3 blanks ∷ READ 1 3 blanks ∷ []))

abbrev pub end : ℕ × Bytes
end = (1, blanks)

-- OPEN and KEYPOSITION are accepted, then the READs answer
abbrev pub reads : ℕ × Bytes → ℕ × Bytes → ℕ × Bytes → ℕ × Bytes → List (ℕ × Bytes)
reads a b c d = (0, []) ∷ (0, []) ∷ a ∷ b ∷ c ∷ d ∷ []

pub record Readings : Type 0 where
  pub approximate_C : readings 1 0 false 0 (codes "C") ≡ reads (0, codes "01C") (0, codes "03C") (0, codes "02W") end
  pub generic_C : readings 1 1 false 1 (codes "C") ≡ reads (0, codes "01C") (0, codes "03C") end end
  pub exact_W : readings 1 2 false 1 (codes "W") ≡ reads (0, codes "02W") end end end
  pub approximate_C02 : readings 1 0 false 0 (codes "C02") ≡ reads (0, codes "03C") (0, codes "02W") end end
  pub generic_C01 : readings 1 1 false 1 (codes "C01") ≡ reads (0, codes "01C") (0, codes "03C") end end
  pub generic_C01_skip : readings 1 1 true 1 (codes "C01") ≡ reads (0, codes "03C") end end end
  pub generic_D : readings 1 1 false 1 (codes "D") ≡ reads end end end end
  pub approximate_02 : readings 0 0 false 0 (codes "02") ≡ reads (0, codes "02W") (0, codes "03C") end end
  -- the two-byte record 01 has no row
  pub no_row : fresh_rows small ((codes "01", codes "01") ∷ []) ≡ []
