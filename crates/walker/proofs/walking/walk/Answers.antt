-- The reader's answer, then the record.
use Rattle.std.specs.Prelude.{Ok, Err}
use mathlib.Core.Path.{◌≡◌}
use borrow.Author.Rules.{rules}
use Rattle.walker.proofs.Records.{handed-is}
use Rattle.walker.proofs.walking.walk.Goals as goal

pub returns-in_err-kind : goal.returns-in_err-kind
returns-in_err-kind c =
    let e : c.from_residual.result ≡ Err c.in_err-kind.field-0.0 = search rules in
    rw e (handed-is _ _ _ (Err c.in_err-kind.field-0.0) c.in_err-kind.ensures.told (tt {0}))

pub returns : goal.returns
returns c = rw c.record_after.ensures (handed-is _ _ _ (Ok c.in_ok-kind.kind) c.in_ok-kind.ensures.told c.in_ok-kind.ensures.kind)
