-- The inner search looks for the key among the earlier ones, along its chain; the outer one for the first that is there.
use Prim.Native.Nat.{suc, ◌<◌}
use Rattle.laws.proofs.Leasts.{least_start, least_more, least-stop}
use Rattle.keys.proofs.Chained.{counted-from, link-before, link-more, link-less, along-before, along-more, slot-here}
use Rattle.keys.proofs.Found.{compared}
use Rattle.keys.proofs.Searched.{repeats-found, repeats-none}
use Rattle.keys.specs.Chains.{slots, last}
use Rattle.keys.specs.Keys.{has_key_in}
use Rattle.keys.specs.Keyed.{key_of}
use mathlib.Core.Path.{◌≡◌, sym, ◌∙◌}
use native.Mathlib.Omega.{arith}
use borrow.Author.Tests.{lt-ltb}
use Rattle.keys.proofs.linked.Linked.first_repeat.Goals as goal

pub loop-i-init : goal.loop-i-init
loop-i-init c = least_start _

pub link-at-requires : goal.link-at-requires
unfolding slots
link-at-requires c = omega (arith, c.loop-i-test.true, c.args.self.now.chained.room)

pub loop-at-init : goal.loop-at-init
unfolding slots
loop-at-init c =
    let p = c.args.self.now.chained in
    let i = c.loop-i.i in
    let k = sym c.key-key.ensures in
    let b = slot-here _ _ i k in
    rw (c.link-at.ensures, counted-from _) (
      c.loop-i-test.true,
      k,
      c.loop-i.invariant,
      along-before _ _ _ p _ i c.loop-i-test.true b,
      link-before _ _ _ p _ i c.loop-i-test.true b,
    )

pub link-at-requires-in-Some : goal.link-at-requires-in-Some
unfolding slots
link-at-requires-in-Some c = let l = rw c.in-Some.is at c.loop-at.invariant.4 in omega (arith, l.within, c.args.self.now.chained.room)

pub loop-at-smaller : goal.loop-at-smaller
unfolding slots
loop-at-smaller c =
    let l = rw c.in-Some.is at c.loop-at.invariant.4 in
    rw (c.in-Some.is, c.link-at-in-Some.ensures, counted-from _) (link-less _ _ _ c.args.self.now.chained _ l.within)

pub loop-at-preserved : goal.loop-at-preserved
unfolding slots has_key_in
loop-at-preserved c =
    let p = c.args.self.now.chained in
    let v = rw c.in-Some.is at c.loop-at.invariant in
    rw (c.link-at-in-Some.ensures, counted-from _) (
      v.0,
      v.1,
      v.2,
      v.3 ∙ along-more _ _ _ p _ _ v.4 (rw (← c.key.ensures, ← compared _ _, ← c.eq.ensures) c.if-eq.false),
      link-more _ _ _ p _ _ v.4,
    )

pub loop-i-preserved : goal.loop-i-preserved
unfolding last
loop-i-preserved c =
    let v = rw c.in_default.is at c.loop-at.invariant in
    least_more _ c.loop-i.i v.2 (repeats-none _ c.loop-i.i (rw v.1 v.3))

pub returns-then-eq : goal.returns-then-eq
unfolding has_key_in last
returns-then-eq c =
    let i = c.loop-i.i in
    let v = rw c.in-Some.is at c.loop-at.invariant in
    let key = key_of c.args.self.now.keys in
    let left : 0 < suc c.in-Some.j = omega arith in
    let here : last (has_key_in key c.key-key.result.now) i ≡ suc c.in-Some.j = v.3 ∙ rw (← c.key.ensures, ← compared _ _, ← c.eq.ensures, c.if-eq.true) in
    rw (least-stop _ i _ v.0 v.2 (repeats-found key i _ left (rw v.1 here)), lt-ltb _ _ v.0)
