-- A debit pair is posted on the board: 43; the pair's answer; 40; then request by request 41 or 42.
use Rattle.std.specs.Prelude.{ℕ, Bool, true, cond, List, eqb, ltb, get_or, Option, Some, None}
use Rattle.laws.specs.Least.{least}
use Rattle.laws.specs.Part.{part, differ}
use Rattle.laws.specs.Stored.{stored}
use Rattle.kinds.specs.declared.of_pairs.PairKind.{PairKind}
use Rattle.kinds.specs.declared.of_pairs.Family.{Family}
use Rattle.kinds.specs.declared.of_pairs.Family.TheVariants.{Enrolment, Debit}
use Rattle.kinds.specs.Kinds.{own_ec21}
use Rattle.kinds.specs.Pairs.{request_kind, pair_of}
use Rattle.tables.specs.Places.{payer_place}
use Rattle.answers.specs.declared.told.Answer.{Answer}
use Rattle.answers.specs.Answers.{accepted, refused, refused_at, refuses, ◌then◌}
use Rattle.layout.specs.Items.{bytes_at, date_of}
use Rattle.records.specs.Records.{record_of, data_of}
use Rattle.agreement.specs.Same.{request_at}
use Rattle.matching.specs.Amounts.{taken_at}
use Rattle.pair.specs.Pairing.{pair_by}
use Rattle.payers.specs.declared.members.Member.{Member}
use Rattle.payers.specs.Members.{repeat_number, repeat_tells}
use Rattle.payers.specs.Payers.{members_after, dues_tell}

-- the payer of request i + 1, item 11
unfoldable pub payer_at : PairKind → List ℕ → ℕ → List ℕ
payer_at p q i = bytes_at payer_place (request_at p q i)

-- the twelve bytes of dates: six for next-day debits, then six for same-day debits
unfoldable pub same_day : PairKind → Bool
same_day p = eqb p.request.name own_ec21.name

unfoldable pub date_start : PairKind → ℕ
date_start p = cond (same_day p) 6 0

unfoldable pub last_posted : PairKind → List ℕ → List ℕ
last_posted p dates = part (date_start p) 6 dates

-- six bytes are later than six others where they are greater at the first place in which they differ
unfoldable pub first_other : List ℕ → List ℕ → ℕ
first_other a b = least (differ a b) 6

unfoldable pub later : List ℕ → List ℕ → Bool
later a b = ltb (get_or b (first_other a b) 0) (get_or a (first_other a b) 0)

-- the date of a request, header item 5
unfoldable pub day_of : PairKind → List ℕ → List ℕ
day_of p q = date_of (record_of (request_kind p) q 0)

-- 40: it is not later than the last of its sort
unfoldable pub date_tells : PairKind → List ℕ → List ℕ → Answer
date_tells p q dates = cond (later (day_of p q) (last_posted p dates)) accepted (refused_at 40 0 5 0x30303030)

-- before a member is looked at: the pair's answer, with no lists that could be short, then 40
unfoldable pub ready_as : PairKind → List ℕ → List ℕ → List ℕ → Answer
ready_as p q r dates = pair_by p q r true then date_tells p q dates

-- enrolment is 1
abbrev pub ready_in : Family → PairKind → List ℕ → List ℕ → List ℕ → Answer
ready_in Enrolment p q r dates = refused 1
ready_in Debit p q r dates = ready_as p q r dates

abbrev pub ready_named : Option PairKind → List ℕ → List ℕ → List ℕ → Answer
ready_named (Some p) q r dates = ready_in p.family p q r dates
ready_named None q r dates = refused 1

unfoldable pub ready_told : ℕ → List ℕ → List ℕ → List ℕ → Answer
ready_told kind q r dates = ready_named (pair_of kind) q r dates

-- request by request, where the pair kind is known
unfoldable pub requests_tell : PairKind → List ℕ → List ℕ → List Member → Answer
requests_tell p q r board = dues_tell (payer_at p q) (taken_at p q r) (data_of (request_kind p) q) board

abbrev pub requests_named : Option PairKind → List ℕ → List ℕ → List Member → Answer
requests_named (Some p) q r board = requests_tell p q r board
requests_named None q r board = accepted

unfoldable pub board_told : ℕ → List ℕ → List ℕ → List Member → List ℕ → Answer
board_told kind q r board dates =
    repeat_tells (repeat_number board) then ready_told kind q r dates then requests_named (pair_of kind) q r board

-- the members after an accepted posting
unfoldable pub members_as : PairKind → List ℕ → List ℕ → List Member → List Member
members_as p q r board = members_after (payer_at p q) (taken_at p q r) (data_of (request_kind p) q) board

abbrev pub members_named : Option PairKind → List ℕ → List ℕ → List Member → List Member
members_named (Some p) q r board = members_as p q r board
members_named None q r board = board

-- the date of its sort moves
unfoldable pub dates_as : PairKind → List ℕ → List ℕ → List ℕ
dates_as p q dates = stored (date_start p) (day_of p q) dates

abbrev pub dates_named : Option PairKind → List ℕ → List ℕ → List ℕ
dates_named (Some p) q dates = dates_as p q dates
dates_named None q dates = dates

-- members and dates afterwards, for any number, any bytes, any board and any dates: a refusal changes nothing
unfoldable pub board_after : ℕ → List ℕ → List ℕ → List Member → List ℕ → List Member
board_after kind q r board dates = cond (refuses (board_told kind q r board dates)) board (members_named (pair_of kind) q r board)

unfoldable pub dates_after : ℕ → List ℕ → List ℕ → List Member → List ℕ → List ℕ
dates_after kind q r board dates = cond (refuses (board_told kind q r board dates)) dates (dates_named (pair_of kind) q dates)
