-- Down the chain: what is found among the first `from` keys is what is found among the first `at`.
use Rattle.keys.proofs.Chained.{counted-from, link-more, link-less, along-more}
use Rattle.keys.proofs.Found.{compared}
use Rattle.keys.specs.Chains.{slots, last}
use Rattle.keys.specs.Keys.{has_key_in}
use mathlib.Core.Path.{◌∙◌}
use native.Mathlib.Omega.{arith}
use Rattle.keys.proofs.linked.Linked.along.Goals as goal

pub returns-then-eq : goal.returns-then-eq
unfolding has_key_in last
returns-then-eq c = rw (c.loop-at.invariant.0, c.in-Some.is, ← c.key.ensures, ← compared _ _, ← c.eq.ensures, c.if-eq.true)

pub link-at-requires : goal.link-at-requires
unfolding slots
link-at-requires c = let l = rw c.in-Some.is at c.loop-at.invariant.1 in omega (arith, l.within, c.args.self.now.chained.room)

pub loop-at-smaller : goal.loop-at-smaller
unfolding slots
loop-at-smaller c =
    let l = rw c.in-Some.is at c.loop-at.invariant.1 in
    rw (c.in-Some.is, c.link-at.ensures, counted-from _) (link-less _ _ _ c.args.self.now.chained _ l.within)

pub loop-at-preserved : goal.loop-at-preserved
unfolding slots has_key_in
loop-at-preserved c =
    let k = c.args.self.now in
    let i = rw c.in-Some.is at c.loop-at.invariant in
    rw (c.link-at.ensures, counted-from _) (
      i.0 ∙ along-more _ _ _ k.chained _ _ i.1 (rw (← c.key.ensures, ← compared _ _, ← c.eq.ensures) c.if-eq.false),
      link-more _ _ _ k.chained _ _ i.1,
    )

pub returns : goal.returns
unfolding last
returns c = rw (c.loop-at.invariant.0, c.in_default.is)
