-- The tag is the one asked for, and the value has all bytes.
use Rattle.std.proofs.Common.{rules, length, get_or, sym, ◌∙◌, eq-eqb}
use Rattle.signed.specs.Checking.{framed_in}
use Rattle.signed.proofs.Sizes.{same_size}
use Rattle.signed.specs.Checking.{is_one}
use Rattle.signed.proofs.frames.is_one.Goals as goal

pub returns-then-byte-tag : goal.returns-then-byte-tag
unfolding is_one
returns-then-byte-tag c =
    let s = c.args.s.now in
    rw (eq-eqb (get_or s 0 0) c.args.tag (sym c.byte.ensures.value ∙ c.if-byte-tag.true), ← same_size (framed_in s) (length s), ← c.framed.ensures) c.eq.ensures

pub returns-else-byte-tag : goal.returns-else-byte-tag
unfolding is_one
returns-else-byte-tag c = search rules
