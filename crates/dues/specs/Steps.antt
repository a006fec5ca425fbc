-- From one pass over the board to the next: what is known before the first, what each of them asks and leaves, and what is told at the end.
use Rattle.std.specs.Prelude.{ℕ, ◌+◌, ◌≤◌, cond, eqb, List, [], ◌++◌, length, get_or, drop, Option, Some, None, Result, Ok, Err}
use Rattle.laws.specs.Tabulate.{tabulate}
use Rattle.kinds.specs.declared.of_pairs.PairKind.{PairKind}
use Rattle.kinds.specs.Pairs.{request_kind, pair_of}
use Rattle.answers.specs.declared.told.Answer.{Answer}
use Rattle.answers.specs.declared.of_two.OfTwo.{OfTwo}
use Rattle.answers.specs.Answers.{accepted, refuses}
use Rattle.answers.specs.Refusing.{item_of}
use Rattle.answers.specs.OfTwo.{told_of_two}
use Rattle.records.specs.Records.{data_of}
use Rattle.matching.specs.Amounts.{taken_at}
use Rattle.keys.specs.Stands.{Inside}
use Rattle.keys.specs.Chains.{slots}
use Rattle.payers.specs.declared.members.Member.{Member}
use Rattle.payers.specs.Payers.{due_tells}
use Rattle.payers.specs.Turns.{payer_spacing}
use Rattle.dues.specs.declared.ready.Ready.{Ready}
use Rattle.dues.specs.Posting.{ready_told, dates_named, board_told, dates_after}

-- before a member is looked at: the answer; where it is no refusal, how many requests there are and the dates afterwards
abbrev pub count_named : Option PairKind → List ℕ → ℕ
count_named (Some p) q = data_of (request_kind p) q
count_named None q = 0

unfoldable pub ready_count : ℕ → List ℕ → List ℕ → List ℕ → ℕ
ready_count kind q r dates = cond (refuses (ready_told kind q r dates)) 0 (count_named (pair_of kind) q)

unfoldable pub ready_dates : ℕ → List ℕ → List ℕ → List ℕ → List ℕ
ready_dates kind q r dates = cond (refuses (ready_told kind q r dates)) dates (dates_named (pair_of kind) q dates)

-- all three of them
pub record Readied : Type 0 where
  pub answer : Answer
  pub n : ℕ
  pub dates : List ℕ

abbrev pub ready_of : ℕ → List ℕ → List ℕ → List ℕ → Readied
ready_of kind q r dates = record {
  answer = ready_told kind q r dates;
  n = ready_count kind q r dates;
  dates = ready_dates kind q r dates;
}

-- what a result says of it; of a refusal no requests, and the dates as they were
abbrev pub readied_by : List ℕ → Result Ready OfTwo → Readied
readied_by before (Ok ready) = record { answer = accepted; n = ready.n; dates = ready.dates }
readied_by before (Err r) = record { answer = told_of_two r; n = 0; dates = before }

-- a lent list after it: what was taken of each request and what stood past them, or as it was
abbrev pub list_named : Option PairKind → List ℕ → List ℕ → List ℕ → List ℕ
list_named (Some p) q r old = tabulate (taken_at p q r) (data_of (request_kind p) q) ++ drop (data_of (request_kind p) q) old
list_named None q r old = old

unfoldable pub ready_list : ℕ → List ℕ → List ℕ → List ℕ → List ℕ → List ℕ
ready_list kind q r dates old = cond (refuses (ready_told kind q r dates)) old (list_named (pair_of kind) q r old)

-- a mark is 41 until a member is met
unfoldable pub unmet : ℕ → ℕ
unmet i = 41

-- what is asked before the requests are chained by their payers and marked
pub record MarkingAsks (n : ℕ) (request links room : List ℕ) : Type 0 where
  pub few : n ≤ 65535
  pub inside : Inside [] payer_spacing request n
  pub links-room : slots + n ≤ length links
  pub marks-room : n ≤ length room

-- what a mark tells that is any byte: nothing, over what the payer owes, or a payer that is no member
unfoldable pub mark_says : ℕ → ℕ → Answer
mark_says i mark = cond (eqb mark 0) accepted (cond (eqb mark 42) (item_of 42 (i + 1) 11) (item_of 41 (i + 1) 11))

unfoldable pub marks_say : List ℕ → ℕ → Answer
marks_say room i = mark_says i (get_or room i 0)

-- and one that is the number itself, as each mark is: `marks-told`
unfoldable pub mark_tells : List ℕ → ℕ → Answer
mark_tells room i = due_tells i (get_or room i 0)

-- what is told of the whole, with the dates afterwards
pub record Posted : Type 0 where
  pub answer : Answer
  pub dates : List ℕ

abbrev pub board_posted : ℕ → List ℕ → List ℕ → List Member → List ℕ → Posted
board_posted kind q r board dates = record { answer = board_told kind q r board dates; dates = dates_after kind q r board dates }

-- what a result says of it: the dates afterwards, or a refusal, and the dates before
abbrev pub posted_by : List ℕ → Result (List ℕ) OfTwo → Posted
posted_by before (Ok after) = record { answer = accepted; dates = after }
posted_by before (Err r) = record { answer = told_of_two r; dates = before }
