-- Looked for, held, and on to the next.
use Rattle.payers.specs.Turns.{next_in, moved_on, sought_place, sought_links}
use Rattle.payers.proofs.Sought.{moved_by}
use mathlib.Core.Bool.{Bool}
use mathlib.Core.Path.{◌∙◌, ap}
use borrow.Author.Rules.{rules}
use Rattle.payers.proofs.seeking.seek.Goals as goal

pub returns : goal.returns
unfolding sought_place sought_links moved_on
returns c =
    let m = c.moved_on.ensures ∙ ap (λ (b : Bool). moved_by b c.args.place) c.seen-found.ensures in
    record {
      value = c.next_in.ensures.value ∙ ap next_in m;
      links_after = c.next_in.ensures.links_after ∙ rw (m, c.hold_new.ensures.links_after);
      room_after = c.hold_new.ensures.room_after;
      payer_len = search rules;
    }
