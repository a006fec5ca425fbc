-- Names and lengths first, then what they list.
use Rattle.std.specs.Prelude.{Err}
use mathlib.Core.Path.{◌≡◌, sym, ◌∙◌}
use native.Mathlib.Nat.{le_refl}
use lib.ListN.{length}
use borrow.Author.Rules.{rules}
use Rattle.day_writer.proofs.Decides.{good-given, names-inside, decided-30, decided-by}
use Rattle.day_writer.proofs.deciding.decide.Goals as goal

pub returns-in_default-clause-told : goal.returns-in_default-clause-told
returns-in_default-clause-told c = sym (decided-30 _ _ _ (sym c.in_default.ensures.good))

pub invariant_of-keys : goal.invariant_of-keys
invariant_of-keys c =
    let a = c.args in
    record { inside = names-inside a.names.now a.lengths.now (good-given a.names.now a.lengths.now (sym c.in-Some.ensures.good)) }

pub list_tells-requires : goal.list_tells-requires
list_tells-requires c =
    let a = c.args in
    let g = good-given a.names.now a.lengths.now (sym c.in-Some.ensures.good) in
    record {
      few = g.few;
      enough = le_refl (length a.lengths.now);
      short = g.short;
    }

pub returns-in_err-list_tells-clause-told : goal.returns-in_err-list_tells-clause-told
returns-in_err-list_tells-clause-told c =
    let e : c.from_residual.result ≡ Err c.in_err-list_tells.field-0.0 = search rules in
    rw e (c.in_err-list_tells.ensures ∙ decided-by _ _ _ (sym c.in-Some.ensures.good))

pub returns-clause-told : goal.returns-clause-told
returns-clause-told c = c.in_ok-list_tells.ensures ∙ decided-by _ _ _ (sym c.in-Some.ensures.good)
