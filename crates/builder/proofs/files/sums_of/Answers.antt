-- One total after the other.
use Rattle.std.proofs.Common.{rules}
use Rattle.tables.specs.Totals.{most_totals}
use Rattle.builder.specs.Records.{file_total}
use Rattle.builder.proofs.Made.{made}
use Rattle.builder.proofs.files.sums_of.Goals as goal

pub returns : goal.returns
returns c = made (file_total c.args.kind c.args.file.now) most_totals (λ i r q l k. search rules) c.from_fn.result c.from_fn.ensures.items
