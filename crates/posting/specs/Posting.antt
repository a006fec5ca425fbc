-- The posting program's output for two files, and a lent buffer after it.
use Rattle.std.specs.Prelude.{ℕ, ◌+◌, ◌-◌, ◌*◌, ◌/◌, true, cond, List, ◌++◌, leb, ltb, length, drop}
use Rattle.laws.specs.Joined.{joined}
use Rattle.kinds.specs.Kinds.{EB21, fixed_of}
use Rattle.answers.specs.declared.told.Answer.{Answer}
use Rattle.answers.specs.Answers.{refused, refuses, ◌then◌, accepted, on_side}
use Rattle.records.specs.Records.{data_of}
use Rattle.kinds.specs.Pairs.{debit_pair}
use Rattle.pair.specs.Pairing.{pair_by}
use Rattle.outcomes.specs.Outcomes.{outcome_at}
use Rattle.outcomes.specs.Sums.{sums_of}
use Rattle.posting.specs.Lines.{refusal_line, accepted_line, request_line, line_most}

-- the longest file that the program takes
abbrev pub most : ℕ
most = 64800

-- the most requests that such a file has
abbrev pub requests : ℕ
requests = most / (fixed_of EB21).size - 2

-- room for the longest text: a first line, and a line for each request
abbrev pub longest : ℕ
longest = 100 + requests * line_most

-- 3 on its side where a file is longer, the request first
unfoldable pub size_tells : ℕ → List ℕ → Answer
size_tells side s = cond (ltb most (length s)) (on_side side (refused 3)) accepted

-- sizes before all else, then the pair
unfoldable pub post_tells : List ℕ → List ℕ → Answer
post_tells q r = size_tells 1 q then size_tells 2 r then pair_by debit_pair q r true

-- the line of request i + 1
unfoldable pub line_at : List ℕ → List ℕ → ℕ → List ℕ
line_at q r i = request_line (i + 1) (outcome_at debit_pair q r i)

unfoldable pub accepted_text : List ℕ → List ℕ → List ℕ
accepted_text q r = accepted_line (data_of EB21 q) (sums_of debit_pair q r) ++ joined (line_at q r) (data_of EB21 q)

unfoldable pub post_text : List ℕ → List ℕ → List ℕ
post_text q r = cond (refuses (post_tells q r)) (refusal_line (post_tells q r)) (accepted_text q r)

-- how many bytes of a buffer are the text, none where it is too short; and the buffer afterwards
unfoldable pub post_size : List ℕ → List ℕ → ℕ → ℕ
post_size q r room = cond (leb (length (post_text q r)) room) (length (post_text q r)) 0

unfoldable pub post_after : List ℕ → List ℕ → List ℕ → List ℕ
post_after q r text = cond (leb (length (post_text q r)) (length text)) (post_text q r ++ drop (length (post_text q r)) text) text
