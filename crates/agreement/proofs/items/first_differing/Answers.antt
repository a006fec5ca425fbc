-- The loop looks for the first item that differs.
use Rattle.std.proofs.Common.{sym}
use native.Mathlib.Nat.{le_antisymm}
use Rattle.laws.proofs.Leasts.{least_start}
use Rattle.answers.proofs.Refusals.{told-end}
use Rattle.agreement.proofs.Differ.{items_more, items-stop}
use Rattle.agreement.specs.Items.{items_tell}
use Rattle.agreement.proofs.items.first_differing.Goals as goal

pub loop-item-init : goal.loop-item-init
loop-item-init c number rec = least_start _

pub agrees-requires : goal.agrees-requires
agrees-requires c =
    let i = c.loop-item.item-index in
    record {
      item_in_bounds = c.requires.by_index i c.loop-item-test.true;
      item_in_bounds_2 = c.requires.by_index_2 i c.loop-item-test.true;
    }

pub loop-item-preserved : goal.loop-item-preserved
loop-item-preserved c number rec =
    let l = c.loop-item in
    items_more _ _ _ _ _ l.item-index (l.invariant number rec) (rw (← c.agrees.ensures) c.if-not-agrees.false)

pub returns-then-not-agrees : goal.returns-then-not-agrees
returns-then-not-agrees c number rec pos =
    let l = c.loop-item in
    sym (items-stop _ _ _ _ _ pos l.item-index c.loop-item-test.true (l.invariant number rec) (rw (← c.agrees.ensures) c.if-not-agrees.true))

pub returns : goal.returns
unfolding items_tell
returns c number rec pos =
    let l = c.loop-item in
    sym (told-end _ _ (rw (le_antisymm c.loop-item-test.false l.auto.item-index-end) (l.invariant number rec)))
