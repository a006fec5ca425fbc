-- The kind first, then the reader.
use Rattle.std.specs.Prelude.{Err}
use mathlib.Core.Path.{◌≡◌}
use borrow.Author.Rules.{rules}
use Rattle.reader.specs.Reading.{read_of}
use Rattle.walker.proofs.walking.known.Goals as goal

pub returns-in_default-clause-told : goal.returns-in_default-clause-told
unfolding read_of
returns-in_default-clause-told c = rw (← c.kind_of.ensures, c.in_default.is)

pub returns-in_err-read_as-clause-told : goal.returns-in_err-read_as-clause-told
unfolding read_of
returns-in_err-read_as-clause-told c =
    let e : c.from_residual.result ≡ Err c.in_err-read_as.field-0.0 = search rules in
    rw (e, ← c.kind_of.ensures, c.in-Some.is) c.in_err-read_as.ensures

pub returns-clause-told : goal.returns-clause-told
unfolding read_of
returns-clause-told c = rw (← c.kind_of.ensures, c.in-Some.is) c.in_ok-read_as.ensures
