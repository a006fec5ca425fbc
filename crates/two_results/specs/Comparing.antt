-- Two results of one debit request: 1; the pair with the first, the pair with the second; then the first request in which the lists differ.
use Rattle.std.specs.Prelude.{ℕ, Bool, true, cond, not, ◌&&◌, List, eqb, Option, Some, None}
use Rattle.laws.specs.Least.{least, number_in}
use Rattle.kinds.specs.declared.of_pairs.PairKind.{PairKind}
use Rattle.kinds.specs.declared.of_pairs.Family.{Family}
use Rattle.kinds.specs.declared.of_pairs.Family.TheVariants.{Enrolment, Debit}
use Rattle.kinds.specs.Pairs.{request_kind, pair_of}
use Rattle.answers.specs.declared.told.Answer.{Answer}
use Rattle.answers.specs.OfTwo.{Story}
use Rattle.answers.specs.Answers.{accepted, refused, refuses}
use Rattle.records.specs.Records.{data_of}
use Rattle.matching.specs.Amounts.{taken_at, not_taken_at}
use Rattle.pair.specs.Pairing.{pair_by}

abbrev pub story : Answer → ℕ → ℕ → Story
story a which request = record { answer = a; which = which; request = request }

-- of request i + 1 both results say the same: what was taken and what was not
unfoldable pub same_at : PairKind → List ℕ → List ℕ → List ℕ → ℕ → Bool
same_at p q r s i = eqb (taken_at p q r i) (taken_at p q s i) && eqb (not_taken_at p q r i) (not_taken_at p q s i)

unfoldable pub other_at : PairKind → List ℕ → List ℕ → List ℕ → ℕ → Bool
other_at p q r s i = not (same_at p q r s i)

-- the first request of which they do not, from 1; 0 where there is none
unfoldable pub first_other : PairKind → List ℕ → List ℕ → List ℕ → ℕ
first_other p q r s = number_in (data_of (request_kind p) q) (least (other_at p q r s) (data_of (request_kind p) q))

-- the pair with the first result, then the pair with the second, with no lists that could be short
unfoldable pub story_as : PairKind → List ℕ → List ℕ → List ℕ → Story
story_as p q r s =
    cond (refuses (pair_by p q r true)) (story (pair_by p q r true) 1 0)
    (cond (refuses (pair_by p q s true)) (story (pair_by p q s true) 2 0) (story accepted 0 (first_other p q r s)))

-- 1: no debit, told of the first
abbrev pub no_debit : Story
no_debit = story (refused 1) 1 0

abbrev pub story_in : Family → PairKind → List ℕ → List ℕ → List ℕ → Story
story_in Enrolment p q r s = no_debit
story_in Debit p q r s = story_as p q r s

abbrev pub story_named : Option PairKind → List ℕ → List ℕ → List ℕ → Story
story_named (Some p) q r s = story_in p.family p q r s
story_named None q r s = no_debit

-- for any number and any bytes
unfoldable pub story_told : ℕ → List ℕ → List ℕ → List ℕ → Story
story_told kind q r s = story_named (pair_of kind) q r s
