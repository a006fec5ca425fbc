-- The rows of the trailer to be written hold.
-- Assumes nothing.
use Prim.Native.Nat.{ℕ, zero, suc, ◌<◌}
use mathlib.Core.Bool.{true}
use mathlib.Core.List.{List}
use mathlib.Core.Path.{◌≡◌, refl, sym, ◌∙◌, ap}
use native.Mathlib.Omega.{arith}
use lib.ListN.{length, get_or, drop}
use Rattle.laws.specs.Least.{least, further}
use Rattle.laws.specs.Part.{part, begins}
use Rattle.laws.proofs.Parts.{same_self}
use Rattle.text.specs.Characters
use Rattle.text.specs.Characters.{within, takes, stops_at, each, spaces, digits}
use Rattle.numbers.specs.Numbers.{digits_of}
use Rattle.numbers.proofs.Values.{digits_are}
use Rattle.tables.specs.Rows.{blank}
use Rattle.evidence_rows.specs.Tables
use Rattle.evidence_rows.specs.Tables.{header_rows, trailer_rows}
use Rattle.layout.specs.Rules.{institution, meets, holds}
use Rattle.evidence.specs.Judged.{no_own}
use Rattle.evidence.specs.Meets.{RowsHold}
use Rattle.evidence_builder.specs.Files.{marks, institution_of, header_block, trailer_block}
use Rattle.evidence_builder.proofs.Written.{institution-length}
use Rattle.evidence_writer.proofs.Said.{blanks-spaces}
use Rattle.evidence_writer.proofs.Ends.{header-code, trailer-code, trailer-blank, trailer-institution, trailer-count, trailer-blocks, trailer-filler}

-- the header's rows find the institution code good
pub header-good :
    (date code : List ℕ) (n : ℕ) → length date ≡ 8 → length code ≡ 10 → RowsHold header_rows (header_block date code n) (header_block date code n) 0 →
    institution code ≡ true
unfolding header_rows Tables.front holds meets
header-good date code n dated coded r = ap institution (sym (header-code date code n dated coded)) ∙ r 7 (omega arith)

-- where it is good and the header's, the trailer's rows hold
module _ (code : List ℕ) (n blocks : ℕ) (coded : length code ≡ 10) (header : List ℕ) (m : ℕ)
    (good : institution code ≡ true) (held : part 23 20 header ≡ institution_of code)
  where
    abbrev T : List ℕ
    T = trailer_block code n blocks

    as-header : begins (institution_of code) (drop 23 header) ≡ true
    unfolding begins part
    as-header = rw (institution-length code coded, held) (same_self (institution_of code))

    -- those behind the first six
    others :
        (j : ℕ) → suc (suc (suc (suc (suc (suc j))))) < length trailer_rows →
        holds no_own T header m (get_or trailer_rows (suc (suc (suc (suc (suc (suc j)))))) blank) ≡ true
    unfolding trailer_rows Tables.front holds meets spaces digits
    others zero h = ap institution (trailer-code code n blocks coded) ∙ good
    others (suc zero) h = ap spaces (trailer-blank code n blocks coded) ∙ blanks-spaces 10
    others (suc (suc zero)) h = ap (λ (item : List ℕ). begins item (drop 23 header)) (trailer-institution code n blocks coded) ∙ as-header
    others (suc (suc (suc zero))) h = ap digits (trailer-count code n blocks coded) ∙ digits_are 7 n
    others (suc (suc (suc (suc zero)))) h = ap digits (trailer-blocks code n blocks coded) ∙ digits_are 10 blocks
    others (suc (suc (suc (suc (suc zero))))) h = ap spaces (trailer-filler code n blocks coded) ∙ blanks-spaces 972
    others (suc (suc (suc (suc (suc (suc j)))))) h = absurd (omega arith)

    -- the first six are of bytes that every trailer has, and compute
    pub trailer-rows : RowsHold trailer_rows T header m
    unfolding trailer_rows Tables.front trailer_block marks digits_of holds meets each Characters.front stops_at takes within least further part
    trailer-rows zero h = refl
    trailer-rows (suc zero) h = refl
    trailer-rows (suc (suc zero)) h = refl
    trailer-rows (suc (suc (suc zero))) h = refl
    trailer-rows (suc (suc (suc (suc zero)))) h = refl
    trailer-rows (suc (suc (suc (suc (suc zero))))) h = refl
    trailer-rows (suc (suc (suc (suc (suc (suc j)))))) h = others j h
