-- The code stands in the table.
use Rattle.std.proofs.Common.{sym, ◌∙◌}
use Rattle.tables.specs.Codes.{table_codes, bank_codes, centre_codes}
use Rattle.tables.proofs.Among.{among_any}
use Rattle.tables.proofs.codes.table_code.Goals as goal

pub returns : goal.returns
unfolding table_codes bank_codes centre_codes
returns c = c.contains.ensures.value ∙ sym (among_any table_codes c.args.code)
