-- Each return but one says what is missing of such a beginning.
use mathlib.Core.Path.{sym, ◌∙◌, ap}
use native.Mathlib.Omega.{arith}
use Rattle.std.specs.Prelude.{Some}
use Rattle.signed.specs.Checking.{front_of, framed_in}
use Rattle.laws.proofs.Bools.{clash}
use Rattle.signed.proofs.Framing.{Begins, framed-good, framed-none, framed-far}
use Rattle.signed.proofs.Sizes.{size_there, size_not}
use Rattle.signed.proofs.heads.framed.Goals as goal
use Rattle.signed.proofs.heads.framed.Goals.{else-is_shortest-via-then-is_shortest+else-said-s, else-is_shortest-via-else-is_shortest}

pub returns-then-s-front : goal.returns-then-s-front
returns-then-s-front c =
    let s = c.args.s.now in
    sym (size_not _ (framed-none s (λ b. omega (arith, b.fits, c.front-front.ensures.value))))

pub returns-then-front-gt10 : goal.returns-then-front-gt10
returns-then-front-gt10 c =
    let s = c.args.s.now in
    sym (size_not _ (framed-none s (framed-far s (omega (arith, c.front-front.ensures.value)) (omega arith))))

pub returns-then-byte-eq31 : goal.returns-then-byte-eq31
returns-then-byte-eq31 c =
    let s = c.args.s.now in
    sym (size_not _ (framed-none s (λ b. b.one (rw (← c.byte.ensures.value) c.if-byte-eq31.true))))

pub returns-then-said-s : goal.returns-then-said-s
unfolding front_of
returns-then-said-s c =
    let s = c.args.s.now in
    let front = c.front-front.ensures.value in
    let said = c.said-said.ensures in
    let begins : Begins s = record {
      one = λ e. c.if-byte-eq31.false (rw c.byte.ensures.value e);
      shortest = sym c.is_shortest.ensures ∙ c.if-is_shortest.true;
      fits = omega (arith, front, said);
    } in
    let size = framed-good s begins in
    ap Some (omega (arith, front, said, size)) ∙ sym (size_there (framed_in s) (omega (arith, size, front)))

pub returns : goal.returns
returns c =
    let s = c.args.s.now in
    let front = c.front-front.ensures.value in
    let said = c.said-said.ensures in
    sym (size_not _ (framed-none s (λ b. elim c.else-is_shortest.branch [
      | else-is_shortest-via-then-is_shortest+else-said-s w ↦ omega (arith, front, said, b.fits, w.if-said-s.false)
      | else-is_shortest-via-else-is_shortest w ↦ clash b.shortest (sym c.is_shortest.ensures ∙ w.if-is_shortest.false)
    ])))
