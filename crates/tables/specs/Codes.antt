-- Failure codes: four bytes as one number.
use Rattle.std.specs.Prelude.{ℕ, Bool, List, [], ◌∷◌, ◌++◌}
use Rattle.tables.specs.Among.{is_among}

-- set by banks
unfoldable pub bank_codes : List ℕ
bank_codes =
    0x30303132 ∷ 0x30303134 ∷ 0x30303135 ∷ 0x30303137 ∷ 0x30303138 ∷ 0x30303139 ∷
    0x30303230 ∷ 0x30303231 ∷ 0x30303232 ∷ 0x30303234 ∷ 0x30303331 ∷ 0x30303332 ∷
    0x30303333 ∷ 0x30303334 ∷ 0x30303335 ∷ 0x30303336 ∷ 0x30303337 ∷ 0x30303338 ∷
    0x30303431 ∷ 0x30303531 ∷ 0x30303635 ∷ 0x30303636 ∷ 0x41303131 ∷ 0x41303136 ∷
    0x41303138 ∷ []

-- set by the centre
unfoldable pub centre_codes : List ℕ
centre_codes =
    0x41303132 ∷ 0x30303131 ∷ 0x30303631 ∷ 0x30303632 ∷ 0x30303638 ∷ 0x30303735 ∷
    0x30303737 ∷ 0x30303738 ∷ 0x30303739 ∷ 0x30303831 ∷ 0x30303837 ∷ 0x30303838 ∷
    0x30303839 ∷ 0x30303930 ∷ 0x30303931 ∷ 0x30303936 ∷ 0x30303938 ∷ 0x30313031 ∷
    0x30313032 ∷ 0x30313033 ∷ 0x30313035 ∷ 0x39393938 ∷ 0x39393939 ∷ []

-- the 48 table codes
unfoldable pub table_codes : List ℕ
table_codes = bank_codes ++ centre_codes

abbrev pub is_table_code : ℕ → Bool
is_table_code code = is_among table_codes code
