-- What all requests give is what those from `at` on gave, and the rest.
use Rattle.keys.proofs.Chained.{counted-is}
use Rattle.payers.specs.Turns.{listed}
use Rattle.payers.proofs.Paid.{own-last, own_key, own-less, own-more, taken_start, taken_more, taken-small, taken-end}
use native.Mathlib.Nat.{le_refl}
use native.Mathlib.Omega.{arith}
use Rattle.payers.proofs.paying.Requests.owing.Goals as goal

pub loop-at-init : goal.loop-at-init
loop-at-init c =
    let k = c.linked-requests.ensures in
    let e = counted-is _ _ (rw (k.keys_value, k.n_value) at c.last-at.ensures) in
    (own-last _ _ _ _ _ (le_refl _) e, taken_start _ _ _ _ _ e)

pub overflow_add-won : goal.overflow_add-won
unfolding listed
overflow_add-won c =
    let v = rw c.in-Some.is at c.loop-at.invariant in
    let asks = c.args.self.now.asks in
    record { fits = omega (arith, taken-small _ _ _ _ _ _ v.0 v.1 asks.few asks.small) }

pub loop-at-smaller : goal.loop-at-smaller
loop-at-smaller c =
    let v = rw c.in-Some.is at c.loop-at.invariant in
    let e = rw (c.linked-requests.ensures.keys_value, own_key _ _ _ _ v.0) at c.before-at.ensures in
    rw c.in-Some.is (own-less _ _ _ _ v.0 _ (counted-is _ _ e))

pub loop-at-preserved : goal.loop-at-preserved
unfolding listed
loop-at-preserved c =
    let v = rw c.in-Some.is at c.loop-at.invariant in
    let e = counted-is _ _ (rw (c.linked-requests.ensures.keys_value, own_key _ _ _ _ v.0) at c.before-at.ensures) in
    (own-more _ _ _ _ v.0 _ e, taken_more _ _ _ _ _ _ v.0 v.1 _ e)

pub returns : goal.returns
returns c = taken-end _ _ _ _ _ (rw c.in_default.is at c.loop-at.invariant.1)
