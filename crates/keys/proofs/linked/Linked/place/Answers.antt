-- Down the whole chain of the key's slot: the first key that is this one is met last.
use Prim.Native.Nat.{zero-le}
use Rattle.keys.proofs.Chained.{counted-from, link-slot, link-more, link-less, slot-within}
use Rattle.keys.proofs.Found.{compared}
use Rattle.keys.proofs.Searched.{seen_start, seen_here, seen-past, seen_end}
use Rattle.keys.specs.Chains.{slots}
use Rattle.keys.specs.Keys.{has_key_in}
use borrow.Author.Tests.{lt-ltb, le-ltb}
use mathlib.Core.Path.{refl}
use native.Mathlib.Nat.{le_refl}
use native.Mathlib.Omega.{arith}
use Rattle.keys.proofs.linked.Linked.place.Goals as goal
use Rattle.keys.proofs.linked.Linked.place.Goals.{then-eq, else-eq}

pub link-at-requires : goal.link-at-requires
unfolding slots
link-at-requires c = omega (arith, c.slot_of.ensures.upper_bound, c.args.self.now.chained.room)

pub loop-at-init : goal.loop-at-init
loop-at-init c =
    let k = c.args.self.now in
    let key = c.args.key.now in
    rw (c.link-at.ensures, counted-from _, c.slot_of.ensures.value, le-ltb _ _ (le_refl k.keys.n)) (
      seen_start _ _ _ k.chained key,
      refl,
      link-slot _ _ _ k.chained _ (slot-within key),
    )

pub link-at-requires-in-Some : goal.link-at-requires-in-Some
unfolding slots
link-at-requires-in-Some c = let l = rw c.in-Some.is at c.loop-at.invariant.2 in omega (arith, l.within, c.args.self.now.chained.room)

pub loop-at-smaller : goal.loop-at-smaller
unfolding slots
loop-at-smaller c =
    let l = rw c.in-Some.is at c.loop-at.invariant.2 in
    rw (c.in-Some.is, c.link-at-in-Some.ensures, counted-from _) (link-less _ _ _ c.args.self.now.chained _ l.within)

pub loop-at-preserved : goal.loop-at-preserved
unfolding slots has_key_in
loop-at-preserved c =
    let p = c.args.self.now.chained in
    let v = rw c.in-Some.is at c.loop-at.invariant in
    let more = link-more _ _ _ p _ _ v.2 in
    rw (c.link-at-in-Some.ensures, counted-from _)
    (elim c.if-eq.branch [
      | then-eq w ↦ rw (w.found-is, lt-ltb _ _ v.2.within) (seen_here _ _ _ p _ _ v.2 (rw (← c.key.ensures, ← compared _ _, ← c.eq.ensures) w.if-eq.true), refl, more)
      | else-eq w ↦ rw w.found-is (seen-past _ _ _ p _ _ v.2 _ (rw (← c.key.ensures, ← compared _ _, ← c.eq.ensures) w.if-eq.false) v.0, v.1, more)
    ])

pub returns : goal.returns
returns c =
    let k = c.args.self.now in
    let v = rw c.in_default.is at c.loop-at.invariant in
    rw (← seen_end _ _ _ k.chained c.args.key.now 0 _ zero-le v.0) v.1
