-- What all requests are marked with is what those below `at` are, over what is marked so far.
use Rattle.keys.proofs.Chained.{counted-is}
use Rattle.payers.proofs.Paid.{own-last, own_key, own-less, own-more, marks-start, marks-more, marks-end}
use lib.ListN.{length-set}
use mathlib.Core.Path.{refl}
use native.Mathlib.Nat.{le_refl}
use native.Mathlib.Omega.{arith}
use Rattle.payers.proofs.paying.Requests.mark_with.Goals as goal

pub loop-at-init : goal.loop-at-init
loop-at-init c =
    let k = c.linked-requests.ensures in
    let e = counted-is _ _ (rw (k.keys_value, k.n_value) at c.last-at.ensures) in
    (refl, own-last _ _ _ _ _ (le_refl _) e, marks-start _ _ _ _ _ _ e)

pub loop-at-smaller : goal.loop-at-smaller
loop-at-smaller c =
    let v = rw c.in-Some.is at c.loop-at.invariant in
    let e = rw (c.linked-requests.ensures.keys_value, own_key _ _ _ _ v.1) at c.before-at.ensures in
    rw c.in-Some.is (own-less _ _ _ _ v.1 _ (counted-is _ _ e))

pub loop-at-preserved : goal.loop-at-preserved
loop-at-preserved c =
    let v = rw c.in-Some.is at c.loop-at.invariant in
    let e = counted-is _ _ (rw (c.linked-requests.ensures.keys_value, own_key _ _ _ _ v.1) at c.before-at.ensures) in (
      rw length-set v.0,
      own-more _ _ _ _ v.1 _ e,
      marks-more _ _ _ _ _ _ _ _ v.1 (rw v.0 (omega (arith, v.1.within, c.requires))) e v.2,
    )

pub returns : goal.returns
returns c = marks-end _ _ _ _ _ (rw c.in_default.is at c.loop-at.invariant.2)
