-- Copied items, then amounts.
use native.Mathlib.Omega.{arith}
use Rattle.agreement.specs.Items.{Records}
use Rattle.agreement.proofs.Places.{compared-inside}
use Rattle.kinds.specs.Pairs.{request_kind}
use Rattle.agreement.specs.Meeting.{meets_tell}
use Rattle.answers.specs.declared.refusing.Refusal.TheVariants.{Unanswered}
use Rattle.answers.proofs.Tellings.{first, next}
use Rattle.tables.proofs.Tiling.{size-least}
use Rattle.agreement.proofs.meeting.meets_tell.Goals as goal

pub first_differing-requires : goal.first_differing-requires
first_differing-requires c =
    let inside = compared-inside c.args.pair Records in
    rw (c.copied_of-copied.ensures, c.request_kind.ensures, c.requires.request_len, c.requires.res_len) (record { by_index = inside; by_index_2 = inside })

pub returns-in-Some : goal.returns-in-Some
unfolding meets_tell
returns-in-Some c =
    let told = rw (c.in-Some.is, c.copied_of-copied.ensures, c.request_kind.ensures) at c.first_differing.ensures 13 c.args.rec (omega arith) in
    first (Unanswered c.args.rec c.in-Some.item) _ _ told

pub amounts_tell-requires : goal.amounts_tell-requires
amounts_tell-requires c =
    let least = size-least (request_kind c.args.pair) in
    record {
      in_bounds = omega (arith, least, c.requires.request_len);
      in_bounds_2 = omega (arith, least, c.requires.res_len);
    }

pub returns : goal.returns
unfolding meets_tell
returns c =
    let told = rw (c.in_default.is, c.copied_of-copied.ensures, c.request_kind.ensures) at c.first_differing.ensures 13 c.args.rec (omega arith) in
    next _ _ _ told c.amounts_tell.ensures
