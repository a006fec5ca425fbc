-- What it is that two records, or two headers, agree.
use Rattle.std.specs.Prelude.{ℕ, ◌+◌, ◌<◌, List, ◌≡◌, length, get_or}
use Rattle.laws.specs.Part.{part}
use Rattle.tables.specs.declared.copied.Copied.{Copied}
use Rattle.tables.specs.Copied.{no_item}
use Rattle.records.specs.Records.{record_of}
use Rattle.kinds.specs.declared.of_pairs.PairKind.{PairKind}
use Rattle.kinds.specs.Pairs.{request_kind, result_kind}
use Rattle.agreement.specs.Items.{Headers, Records, compared_of}

-- the data record of request i + 1 and of result j + 1
abbrev pub request_at : PairKind → List ℕ → ℕ → List ℕ
request_at p q i = record_of (request_kind p) q (i + 1)

abbrev pub result_at : PairKind → List ℕ → ℕ → List ℕ
result_at p r j = record_of (result_kind p) r (j + 1)

-- the item has the same bytes in a and b; each of the first n items has; all have
abbrev pub SameItem : Copied → List ℕ → List ℕ → Type 0
SameItem c a b = part c.1 c.2 a ≡ part c.1 c.2 b

abbrev pub SameTo : ℕ → List Copied → List ℕ → List ℕ → Type 0
SameTo n items a b = (c : ℕ) → c < n → SameItem (get_or items c no_item) a b

abbrev pub SameItems : List Copied → List ℕ → List ℕ → Type 0
SameItems items a b = SameTo (length items) items a b

-- every copied item agrees
abbrev pub Agree : PairKind → List ℕ → List ℕ → Type 0
Agree p request result = SameItems (compared_of p Records) request result

-- the headers agree in items 3 and 5, in debit also 6 and 7
abbrev pub HeadersAgree : PairKind → List ℕ → List ℕ → Type 0
HeadersAgree p q r = SameItems (compared_of p Headers) (record_of (request_kind p) q 0) (record_of (result_kind p) r 0)
