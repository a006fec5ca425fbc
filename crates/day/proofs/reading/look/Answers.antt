-- The contents first, then what they list.
use Rattle.std.specs.Prelude.{Err}
use mathlib.Core.Path.{◌≡◌, sym, ◌∙◌}
use borrow.Author.Rules.{rules}
use native.Mathlib.Nat.{le_refl, le_of_eq}
use Rattle.day.proofs.Contained.{taken-at, taken-long, taken-short}
use Rattle.day.proofs.Told.{read-30, read_by}
use Rattle.day.proofs.reading.look.Goals as goal

pub returns-in_default-clause-told : goal.returns-in_default-clause-told
returns-in_default-clause-told c = sym (read-30 _ (sym c.in_default.ensures.good))

pub list_tells-requires : goal.list_tells-requires
list_tells-requires c =
    let w = c.in-Some.contents in
    let s = c.args.file.now in
    let file = c.in-Some.ensures.of in
    let all = le_refl w.n in
    let whole = rw file at w.whole in
    let form = rw file at w.by_form in
    rw (rw file at c.lengths-lengths.ensures, c.names.ensures.count) (record {
      few = w.few;
      enough = le_of_eq (sym (taken-long s w.n w.n all w.few));
      short = taken-short s w.n w.n all (rw form at whole);
    })

pub returns-in_err-list_tells-clause-told : goal.returns-in_err-list_tells-clause-told
returns-in_err-list_tells-clause-told c =
    let w = c.in-Some.contents in
    let s = c.args.file.now in
    let file = c.in-Some.ensures.of in
    let all = le_refl w.n in
    let e : c.from_residual.result ≡ Err c.in_err-list_tells.field-0.0 = search rules in
    rw e (
    rw (rw file at c.lengths-lengths.ensures, rw file at c.names.ensures.value, c.names.ensures.count) at c.in_err-list_tells.ensures ∙
    read_by s w.width w.n _ _ (rw file at w.by_form) (rw file at w.by_count) (taken-at s w.n w.n all) (c.rest.ensures ∙ rw c.end.ensures.value) (sym c.in-Some.ensures.good))

pub returns-clause-told : goal.returns-clause-told
returns-clause-told c =
    let w = c.in-Some.contents in
    let s = c.args.file.now in
    let file = c.in-Some.ensures.of in
    let all = le_refl w.n in
    rw (rw file at c.lengths-lengths.ensures, rw file at c.names.ensures.value, c.names.ensures.count) at c.in_ok-list_tells.ensures ∙
    read_by s w.width w.n _ _ (rw file at w.by_form) (rw file at w.by_count) (taken-at s w.n w.n all) (c.rest.ensures ∙ rw c.end.ensures.value) (sym c.in-Some.ensures.good)
