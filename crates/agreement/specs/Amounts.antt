-- Which amounts of a request and its result are possible.
use Rattle.std.specs.Prelude.{ℕ, ◌-◌, ◌*◌, Bool, cond, ◌&&◌, List, leb, ltb, eqb}
use Rattle.answers.specs.declared.told.Answer.{Answer}
use Rattle.answers.specs.Answers.{accepted, refused_at}
use Rattle.layout.specs.Items.{amount_of, mark_of, type_of}
use Rattle.kinds.specs.declared.of_pairs.PairKind.{PairKind}
use Rattle.kinds.specs.declared.of_pairs.Family.{Family}
use Rattle.kinds.specs.declared.of_pairs.Family.TheVariants.{Enrolment, Debit}
use Rattle.tables.specs.declared.totals.Quantity.{Quantity}
use Rattle.tables.specs.declared.totals.Quantity.TheVariants.{Records, Amounts}

-- what a request asks, and what its result says was not taken: 1, or won
abbrev pub asks_in : Family → Quantity
asks_in Enrolment = Records
asks_in Debit = Amounts

abbrev pub asks : PairKind → Quantity
asks p = asks_in p.family

-- the base of a type, which is the least that a part payment takes: of "0" the least amount that may be asked, of the others a
-- thousand won for each step above type "1"
unfoldable pub base_of : ℕ → ℕ → ℕ
base_of least type = cond (eqb type 0x30) least ((type - 0x31) * 1000)

-- "N": all of the a won was not taken; else u of them, fewer than a, and what was taken reaches the base
unfoldable pub possible : ℕ → ℕ → ℕ → ℕ → ℕ → Bool
possible least type mark a u = cond (eqb mark 0x4E) (eqb u a) (ltb u a && leb (base_of least type) (a - u))

-- "P" on type "1"
unfoldable pub part_of_one : ℕ → ℕ → Bool
part_of_one mark type = eqb mark 0x50 && eqb type 0x31

-- that is refused at item 13, before the amounts; what is not possible at item 6
unfoldable pub debit_tells : ℕ → ℕ → List ℕ → List ℕ → Answer
debit_tells least rec request result =
    cond (part_of_one (mark_of result) (type_of request)) (refused_at 14 rec 13 0x30303030)
    (cond (possible least (type_of request) (mark_of result) (amount_of request) (amount_of result)) accepted (refused_at 14 rec 6 0x30303030))

-- an enrolment has no amounts
abbrev pub amounts_in : Family → ℕ → ℕ → List ℕ → List ℕ → Answer
amounts_in Enrolment least rec request result = accepted
amounts_in Debit least rec request result = debit_tells least rec request result

-- the least amount is that of the request's kind
abbrev pub amounts_tell : PairKind → ℕ → List ℕ → List ℕ → Answer
amounts_tell p rec request result = amounts_in p.family p.request.least rec request result
