-- A record's rows over as many places as the longest table has, blank rows behind them.
use Rattle.std.specs.Prelude.{ℕ, zero, suc, List, [], ◌∷◌}
use Rattle.tables.specs.declared.row.Row.{Row}
use Rattle.tables.specs.Rows.{blank}

-- the first n rows, blank where there are fewer
unfoldable pub laid : ℕ → List Row → List Row
laid zero rows = []
laid (suc n) [] = blank ∷ laid n []
laid (suc n) (r ∷ rows) = r ∷ laid n rows

-- the most rows that a record has
abbrev pub most : ℕ
most = 18

unfoldable pub laid_out : List Row → List Row
laid_out rows = laid most rows
