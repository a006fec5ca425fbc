-- Who set a failure code.
use Rattle.std.specs.Prelude.{ℕ, cond}
use Rattle.tables.specs.declared.makers.Maker.{Maker}
use Rattle.tables.specs.declared.makers.Maker.TheVariants.{None, Bank, Centre}
use Rattle.tables.specs.Among.{is_among}
use Rattle.tables.specs.Codes.{bank_codes, centre_codes}

-- by the two lists; a blank code stands in neither
unfoldable pub maker_of : ℕ → Maker
maker_of code = cond (is_among bank_codes code) Bank (cond (is_among centre_codes code) Centre None)

-- the paper's number of each
abbrev pub maker_number : Maker → ℕ
maker_number None = 0
maker_number Bank = 1
maker_number Centre = 2

-- 1 for the centre, else 0
abbrev pub by_centre : Maker → ℕ
by_centre None = 0
by_centre Bank = 0
by_centre Centre = 1
