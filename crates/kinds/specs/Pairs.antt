-- The pair kinds: each is a family with what its request and its result have of their own.
use Rattle.std.specs.Prelude.{ℕ, Bool, cond, List, [], ◌∷◌, eqb, ltb, length, get_or, Option, Some, None}
use Rattle.laws.specs.Least.{least}
use Rattle.kinds.specs.declared.of_files.Form.TheVariants.{EnrolmentRequest, EnrolmentResult, DebitRequest, DebitResult}
use Rattle.kinds.specs.declared.of_files.Own.{Own}
use Rattle.kinds.specs.declared.of_files.Kind.{Kind}
use Rattle.kinds.specs.declared.of_pairs.Family.{Family}
use Rattle.kinds.specs.declared.of_pairs.Family.TheVariants.{Enrolment, Debit}
use Rattle.kinds.specs.declared.of_pairs.PairKind.{PairKind}
use Rattle.kinds.specs.Kinds.{own, kind, fixed_of, own_eb13, own_eb14, own_eb21, own_eb22, own_ec21, own_ec22}

abbrev pub pair_kind : Family → Own → Own → PairKind
pair_kind family request result = record { family = family; request = request; result = result }

-- enrolment: EB13 with EB14; debit: EB21 with EB22; same-day debit: EC21 with EC22
abbrev pub enrolment_pair : PairKind
enrolment_pair = pair_kind Enrolment own_eb13 own_eb14

abbrev pub debit_pair : PairKind
debit_pair = pair_kind Debit own_eb21 own_eb22

abbrev pub same_day_pair : PairKind
same_day_pair = pair_kind Debit own_ec21 own_ec22

-- all pair kinds
unfoldable pub pairs : List PairKind
pairs = enrolment_pair ∷ debit_pair ∷ same_day_pair ∷ []

-- the request and the result of a family, each with what it has of its own
abbrev pub request_in : Family → Own → Kind
request_in Enrolment o = kind EnrolmentRequest o
request_in Debit o = kind DebitRequest o

abbrev pub result_in : Family → Own → Kind
result_in Enrolment o = kind EnrolmentResult o
result_in Debit o = kind DebitResult o

abbrev pub request_kind : PairKind → Kind
request_kind p = request_in p.family p.request

abbrev pub result_kind : PairKind → Kind
result_kind p = result_in p.family p.result

-- where a result's mark stands in its record, at the start of item 12 or 8; its code follows
abbrev pub mark_start : PairKind → ℕ
mark_start p = (fixed_of (result_kind p)).mark

-- how many items of the two headers must agree: 3 and 5, in debit also 6 and 7
abbrev pub agreed : PairKind → ℕ
agreed p = (fixed_of (request_kind p)).agreed

-- pair kind i of them, none past the last, and whether its request has this name
abbrev pub no_pair : PairKind
no_pair = pair_kind Enrolment (own 0 0) (own 0 0)

unfoldable pub pair_from : ℕ → Option PairKind
pair_from i = cond (ltb i (length pairs)) (Some (get_or pairs i no_pair)) None

unfoldable pub request_is : ℕ → ℕ → Bool
request_is n i = eqb (get_or pairs i no_pair).request.name n

-- the pair kind that a number names; every other number is unknown
unfoldable pub pair_of : ℕ → Option PairKind
pair_of n = pair_from (least (request_is n) (length pairs))
