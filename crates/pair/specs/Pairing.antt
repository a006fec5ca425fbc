-- A request with its result: 1; the request's reading, the result's; 12; 8; then the result records in order.
use Rattle.std.specs.Prelude.{ℕ, Bool, cond, ◌&&◌, List, ◌++◌, leb, eqb, drop, Option, Some, None}
use Rattle.laws.specs.Tabulate.{tabulate}
use Rattle.answers.specs.declared.told.Answer.{Answer}
use Rattle.answers.specs.Answers.{accepted, refused, ◌then◌, on_side}
use Rattle.records.specs.Records.{data_of}
use Rattle.reader.specs.Reading.{read_as}
use Rattle.kinds.specs.declared.of_pairs.PairKind.{PairKind}
use Rattle.kinds.specs.Pairs.{request_kind, result_kind, pair_of}
use Rattle.agreement.specs.Meeting.{headers_tell}
use Rattle.matching.specs.Amounts.{taken_at, not_taken_at}
use Rattle.pair.specs.Results.{results_tell}

-- 8: the lent lists are too short
unfoldable pub room_tells : Bool → Answer
room_tells fits = cond fits accepted (refused 8)

unfoldable pub pair_by : PairKind → List ℕ → List ℕ → Bool → Answer
pair_by p q r fits =
    on_side 1 (read_as (request_kind p) q) then on_side 2 (read_as (result_kind p) r) then
    headers_tell p q r then room_tells fits then results_tell p q r

-- two lists are lent, one place for each request
unfoldable pub lists_fit : ℕ → ℕ → ℕ → Bool
lists_fit n taken notTaken = leb n taken && leb n notTaken

unfoldable pub pair_as : PairKind → List ℕ → List ℕ → ℕ → ℕ → Answer
pair_as p q r taken notTaken = pair_by p q r (lists_fit (data_of (request_kind p) q) taken notTaken)

-- a lent list after it: one number for each request and what stood past them, or as it was
unfoldable pub list_after : Answer → (ℕ → ℕ) → ℕ → List ℕ → List ℕ
list_after a f n l = cond (eqb a.number 0) (tabulate f n ++ drop n l) l

abbrev pub pair_named : Option PairKind → List ℕ → List ℕ → ℕ → ℕ → Answer
pair_named (Some p) q r taken notTaken = pair_as p q r taken notTaken
pair_named None q r taken notTaken = refused 1

abbrev pub taken_named : Option PairKind → List ℕ → List ℕ → ℕ → ℕ → List ℕ → List ℕ
taken_named (Some p) q r taken notTaken l = list_after (pair_as p q r taken notTaken) (taken_at p q r) (data_of (request_kind p) q) l
taken_named None q r taken notTaken l = l

abbrev pub not_taken_named : Option PairKind → List ℕ → List ℕ → ℕ → ℕ → List ℕ → List ℕ
not_taken_named (Some p) q r taken notTaken l = list_after (pair_as p q r taken notTaken) (not_taken_at p q r) (data_of (request_kind p) q) l
not_taken_named None q r taken notTaken l = l

-- the answer, and the two lists afterwards, for any number, any bytes and any lent lists
unfoldable pub pair_told : ℕ → List ℕ → List ℕ → ℕ → ℕ → Answer
pair_told kind q r taken notTaken = pair_named (pair_of kind) q r taken notTaken

unfoldable pub taken_after : ℕ → List ℕ → List ℕ → ℕ → ℕ → List ℕ → List ℕ
taken_after kind q r taken notTaken l = taken_named (pair_of kind) q r taken notTaken l

unfoldable pub not_taken_after : ℕ → List ℕ → List ℕ → ℕ → ℕ → List ℕ → List ℕ
not_taken_after kind q r taken notTaken l = not_taken_named (pair_of kind) q r taken notTaken l
