-- Both values are the whole of what is there, so what is held is the rest behind tag and length.
use mathlib.Core.Bool.{true, false}
use mathlib.Core.Path.{◌≡◌, sym, ◌∙◌}
use Rattle.signed.specs.Checking.{is_one, contents_in, holds_sequence}
use Rattle.signed.proofs.Framing.{one-contents}
use Rattle.signed.proofs.frames.holds_sequence.Goals as goal

-- src/frames.rt:34:13
pub returns-then-is_one-2 : goal.returns-then-is_one-2
unfolding holds_sequence
returns-then-is_one-2 c =
    let s = c.args.s.now in
    let outer : is_one 0xA0 s ≡ true = sym c.is_one.ensures ∙ c.if-is_one.true in
    let held : c.rest-held.result.now ≡ contents_in s = c.rest-held.ensures ∙ rw c.front.ensures.value (one-contents 0xA0 s outer) in
    let inner : is_one 0x30 (contents_in s) ≡ true = rw (← held) (sym c.is_one-then-is_one.ensures ∙ c.if-is_one-2.true) in
    let list : c.rest.result.now ≡ contents_in (contents_in s) = c.rest.ensures ∙ rw (c.front-then-is_one-2.ensures.value, held) (one-contents 0x30 (contents_in s) inner) in
    rw (outer, inner) (c.list.ensures ∙ rw list)

-- src/frames.rt:28:1
pub returns-else-is_one-2 : goal.returns-else-is_one-2
unfolding holds_sequence
returns-else-is_one-2 c =
    let s = c.args.s.now in
    let outer : is_one 0xA0 s ≡ true = sym c.is_one.ensures ∙ c.if-is_one.true in
    let held : c.rest-held.result.now ≡ contents_in s = c.rest-held.ensures ∙ rw c.front.ensures.value (one-contents 0xA0 s outer) in
    let inner : is_one 0x30 (contents_in s) ≡ false = rw (← held) (sym c.is_one-then-is_one.ensures ∙ c.if-is_one-2.false) in
    rw (outer, inner)

-- src/frames.rt:28:1
pub returns-else-is_one : goal.returns-else-is_one
unfolding holds_sequence
returns-else-is_one c =
    let s = c.args.s.now in
    let outer : is_one 0xA0 s ≡ false = sym c.is_one.ensures ∙ c.if-is_one.false in
    rw outer
