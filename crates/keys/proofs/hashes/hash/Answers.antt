-- The number so far is that of the bytes so far.
use Rattle.keys.proofs.Hashing.{hash-start, hash-more}
use Rattle.keys.specs.Hashes.{hash_of}
use Rattle.std.proofs.Math.Nat.{mod-add-mod}
use mathlib.Core.Path.{sym, ◌∙◌}
use borrow.Author.Rules.{rules}
use Rattle.keys.proofs.hashes.hash.Goals as goal

pub loop-b-init : goal.loop-b-init
loop-b-init c = sym (hash-start _)

pub loop-b-preserved : goal.loop-b-preserved
loop-b-preserved c =
    let l = c.loop-b in
    rw (l.invariant, c.from.ensures) (mod-add-mod _ 4294967296 _ ∙ sym (hash-more _ l.b-index))

pub returns : goal.returns
unfolding hash_of
returns c = search rules
