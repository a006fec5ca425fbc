-- Held where it was not seen and there is room; else nothing changes.
use Rattle.payers.specs.Turns.{held, holds, joined_links, sought_room}
use Rattle.payers.proofs.Sought.{held-room}
use mathlib.Core.Path.{refl, sym, ◌∙◌}
use borrow.Author.Tests.{lt-ltb, le-ltb}
use Rattle.payers.proofs.seeking.hold_new.Goals as goal
use Rattle.payers.proofs.seeking.hold_new.Goals.{else-not-found-via-then-not-found+else-place-lt-HELD, else-not-found-via-else-not-found}

pub hold-requires-clause-i_lt_held : goal.hold-requires-clause-i_lt_held
unfolding held
hold-requires-clause-i_lt_held c = rw c.held_in.ensures (held-room c.args.place c.if-place-lt-HELD.true)

pub returns-then-place-lt-HELD : goal.returns-then-place-lt-HELD
unfolding joined_links sought_room holds held
returns-then-place-lt-HELD c =
    rw (sym c.requires.found_value ∙ c.if-not-found.true, lt-ltb _ _ c.if-place-lt-HELD.true, ← c.held_in.ensures) (record {
      links_after = c.hold.ensures.links_after;
      room_after = c.hold.ensures.room_after;
    })

pub returns-else-not-found : goal.returns-else-not-found
unfolding joined_links sought_room holds held
returns-else-not-found c =
    elim c.else-not-found.branch [
      | else-not-found-via-then-not-found+else-place-lt-HELD w ↦ rw (sym c.requires.found_value ∙ w.if-not-found.true, le-ltb _ _ w.if-place-lt-HELD.false) (record { links_after = refl; room_after = refl })
      | else-not-found-via-else-not-found w ↦ rw (sym c.requires.found_value ∙ w.if-not-found.false) (record { links_after = refl; room_after = refl })
    ]
