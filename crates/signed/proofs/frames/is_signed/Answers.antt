-- The value is all bytes, so what is held is the rest behind tag and length.
use mathlib.Core.Bool.{true, false}
use mathlib.Core.Path.{◌≡◌, sym, ◌∙◌}
use Rattle.laws.specs.Part.{begins}
use Rattle.signed.specs.Checking.{is_one, contents_in, identified, is_signed}
use Rattle.signed.proofs.Framing.{one-contents}
use Rattle.signed.proofs.frames.is_signed.Goals as goal

-- src/frames.rt:47:13
pub returns-then-begins : goal.returns-then-begins
unfolding is_signed
returns-then-begins c =
    let s = c.args.s.now in
    let outer : is_one 0x30 s ≡ true = sym c.is_one.ensures ∙ c.if-is_one.true in
    let held : c.rest-held.result.now ≡ contents_in s = c.rest-held.ensures ∙ rw c.front.ensures.value (one-contents 0x30 s outer) in
    let named : begins identified (contents_in s) ≡ true = rw (← held) (sym c.begins.ensures ∙ c.if-begins.true) in
    rw (outer, named) (c.holds_sequence.ensures ∙ rw (c.rest.ensures, held))

-- src/frames.rt:41:1
pub returns-else-begins : goal.returns-else-begins
unfolding is_signed
returns-else-begins c =
    let s = c.args.s.now in
    let outer : is_one 0x30 s ≡ true = sym c.is_one.ensures ∙ c.if-is_one.true in
    let held : c.rest-held.result.now ≡ contents_in s = c.rest-held.ensures ∙ rw c.front.ensures.value (one-contents 0x30 s outer) in
    let named : begins identified (contents_in s) ≡ false = rw (← held) (sym c.begins.ensures ∙ c.if-begins.false) in
    rw (outer, named)

-- src/frames.rt:41:1
pub returns-else-is_one : goal.returns-else-is_one
unfolding is_signed
returns-else-is_one c =
    let s = c.args.s.now in
    let outer : is_one 0x30 s ≡ false = sym c.is_one.ensures ∙ c.if-is_one.false in
    rw outer
