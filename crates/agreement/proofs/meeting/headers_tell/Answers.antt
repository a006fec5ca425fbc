-- The two headers.
use native.Mathlib.Omega.{arith}
use Rattle.agreement.specs.Items.{Headers}
use Rattle.agreement.proofs.Places.{same_size, compared-inside}
use Rattle.agreement.specs.Meeting.{headers_tell}
use Rattle.agreement.proofs.meeting.headers_tell.Goals as goal

pub record_of-asked-requires : goal.record_of-asked-requires
record_of-asked-requires c = rw c.request_kind.ensures (omega (arith, c.requires.bound))

pub record_of-answered-requires : goal.record_of-answered-requires
record_of-answered-requires c = rw c.result_kind.ensures (omega (arith, c.requires.bound_2))

pub first_differing-requires : goal.first_differing-requires
first_differing-requires c =
    let inside = compared-inside c.args.pair Headers in
    rw (c.header_items.ensures, c.record_of-asked.ensures.result_len, c.request_kind.ensures, c.record_of-answered.ensures.result_len, c.result_kind.ensures, same_size c.args.pair)
    (record { by_index = inside; by_index_2 = inside })

pub returns-in-Some : goal.returns-in-Some
unfolding headers_tell
returns-in-Some c =
    rw (c.in-Some.is, c.header_items.ensures, c.record_of-asked.ensures.result_value, c.record_of-answered.ensures.result_value, c.request_kind.ensures, c.result_kind.ensures) at
    c.first_differing.ensures 12 0 (omega arith)

pub returns-in-None : goal.returns-in-None
unfolding headers_tell
returns-in-None c =
    rw (c.in-None.is, c.header_items.ensures, c.record_of-asked.ensures.result_value, c.record_of-answered.ensures.result_value, c.request_kind.ensures, c.result_kind.ensures) at
    c.first_differing.ensures 12 0 (omega arith)
