-- The record's place, then its length.
use Rattle.std.specs.Prelude.{Err}
use Prim.Native.Nat.{◌-◌}
use borrow.Author.Rules.{rules}
use mathlib.Core.Path.{◌≡◌, sym, ◌∙◌}
use native.Mathlib.Nat.{mul-div_cancel}
use native.Mathlib.Omega.{arith}
use Rattle.answers.proofs.Tellings.{good}
use Rattle.evidence.specs.Blocks.{start_of}
use Rattle.evidence.proofs.Looked.{read_all}
use Rattle.evidence.proofs.Stopped.{looked-answer, looked-count}
use Rattle.evidence.proofs.Shown.{stands, shown-refused, shown-from, shown-nowhere}
use Rattle.evidence.proofs.lying.part.Goals as goal

pub returns-in_err-count : goal.returns-in_err-count
returns-in_err-count c =
    let stopped = c.in_err-count.field-0.0 in
    let e : c.from_residual.result ≡ Err stopped.refusal = search rules in
    rw e (shown-refused _ _ _ stopped.refusal (looked-answer _ _ stopped.good _ c.in_err-count.ensures.value))

pub returns-then-not-is_one : goal.returns-then-not-is_one
returns-then-not-is_one c =
    let n = c.in_ok-count.count in
    let k = c.in_ok-count.ensures in
    let told = looked-answer _ _ n _ k.value in
    let all = looked-count _ _ n _ k.value ∙ read_all _ _ (good _ told) in
    shown-nowhere _ _ _ told (rw (← all) (sym c.if-not-is_one.ensures))

pub overflow_sub-start : goal.overflow_sub-start
overflow_sub-start c =
    let n = c.in_ok-count.count in
    let k = c.in_ok-count.ensures in
    (stands _ _ _ _ _ _ (looked-answer _ _ n _ k.value) (looked-count _ _ n _ k.value) k.places_after c.if-not-is_one.ensures).low

pub offset_bounds-places-number : goal.offset_bounds-places-number
offset_bounds-places-number c =
    let n = c.in_ok-count.count in
    let k = c.in_ok-count.ensures in
    omega (arith, (stands _ _ _ _ _ _ (looked-answer _ _ n _ k.value) (looked-count _ _ n _ k.value) k.places_after c.if-not-is_one.ensures).below)

pub bounds-places-number : goal.bounds-places-number
bounds-places-number c =
    let n = c.in_ok-count.count in
    let k = c.in_ok-count.ensures in
    (stands _ _ _ _ _ _ (looked-answer _ _ n _ k.value) (looked-count _ _ n _ k.value) k.places_after c.if-not-is_one.ensures).below

pub length-size-requires : goal.length-size-requires
length-size-requires c =
    let n = c.in_ok-count.count in
    let k = c.in_ok-count.ensures in
    let stood = stands _ _ _ _ _ _ (looked-answer _ _ n _ k.value) (looked-count _ _ n _ k.value) k.places_after c.if-not-is_one.ensures in
    omega (arith, stood.first, stood.inside)

pub returns : goal.returns
returns c =
    let a = c.args in
    let n = c.in_ok-count.count in
    let k = c.in_ok-count.ensures in
    let stood = stands _ _ _ _ _ _ (looked-answer _ _ n _ k.value) (looked-count _ _ n _ k.value) k.places_after c.if-not-is_one.ensures in
    rw (c.length-size.ensures.value, stood.first, mul-div_cancel (start_of a.file.now (a.number - 1)) {n = 1024} (omega arith))
    (shown-from a.exempt a.file.now a.number (looked-answer _ _ n _ k.value) stood.one)
