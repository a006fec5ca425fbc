-- What each answer about a pair says: what is reported is the first thing wrong, in the order of the paper.
use Rattle.std.specs.Prelude.{ℕ, ◌+◌, ◌<◌, Bool, true, false, List, ◌≡◌, length, get_or}
use Rattle.kinds.specs.Kinds.{fixed_of}
use Rattle.tables.specs.Copied.{no_item}
use Rattle.answers.specs.declared.told.Answer.{Answer}
use Rattle.answers.specs.Answers.{accepted, refused, refused_at, on_side}
use Rattle.records.specs.Records.{record_of, data_of}
use Rattle.reader.specs.Reading.{read_as}
use Rattle.kinds.specs.declared.of_pairs.PairKind.{PairKind}
use Rattle.kinds.specs.Pairs.{request_kind, result_kind}
use Rattle.agreement.specs.Items.{Headers, Records, compared_of}
use Rattle.agreement.specs.Same.{request_at, result_at, SameItem, SameTo, Agree, HeadersAgree}
use Rattle.agreement.specs.Possible.{AmountsRefused}
use Rattle.pair.specs.Assigned.{Matches, Met}

-- why result j + 1 is refused
pub data ResultRefused (p : PairKind) (q r : List ℕ) (j : ℕ) : Answer → Type 0 where
  -- 13: it matches no request
  unknown : ((i : ℕ) → Matches p q r i j → ⊥) → ResultRefused p q r j (refused_at 13 (j + 1) (fixed_of (result_kind p)).key.item 0x30303030)
  -- 13: it matches request i + 1, and copied item c is the first that differs
  copied : (i c : ℕ) → Matches p q r i j → c < length (compared_of p Records) →
      (SameItem (get_or (compared_of p Records) c no_item) (request_at p q i) (result_at p r j) → ⊥) →
      SameTo c (compared_of p Records) (request_at p q i) (result_at p r j) →
      ResultRefused p q r j (refused_at 13 (j + 1) (get_or (compared_of p Records) c no_item).0 0x30303030)
  -- 14: it matches request i + 1, every copied item agrees, and the amounts are refused
  amounts : (i : ℕ) {a : Answer} → Matches p q r i j → Agree p (request_at p q i) (result_at p r j) →
      AmountsRefused p (j + 1) (request_at p q i) (result_at p r j) a → ResultRefused p q r j a

-- result j + 1 stands: it can answer a request, counted from 0
pub record Stands (p : PairKind) (q r : List ℕ) (j : ℕ) : Type 0 where
  pub request : ℕ
  pub met : Met p q r request j

-- each of the first n results stands
abbrev pub StandTo : PairKind → List ℕ → List ℕ → ℕ → Type 0
StandTo p q r n = (j : ℕ) → j < n → Stands p q r j

-- both files are accepted
pub record BothRead (p : PairKind) (q r : List ℕ) : Type 0 where
  pub request : read_as (request_kind p) q ≡ accepted
  pub result : read_as (result_kind p) r ≡ accepted

-- the headers agree too, and the lists fit
pub record Ready (p : PairKind) (q r : List ℕ) (fits : Bool) : Type 0 where
  pub read : BothRead p q r
  pub headers : HeadersAgree p q r
  pub room : fits ≡ true

-- result j + 1 is reached: every earlier one stands
pub record Reached (p : PairKind) (q r : List ℕ) (fits : Bool) (j : ℕ) : Type 0 where
  pub ready : Ready p q r fits
  pub below : j < data_of (result_kind p) r
  pub earlier : StandTo p q r j

pub data PairSays (p : PairKind) (q r : List ℕ) (fits : Bool) : Answer → Type 0 where
  -- 0: every result stands
  good : Ready p q r fits → StandTo p q r (data_of (result_kind p) r) → PairSays p q r fits accepted
  -- side 1: the request is refused by reading
  request : ((read_as (request_kind p) q).number ≡ 0 → ⊥) → PairSays p q r fits (on_side 1 (read_as (request_kind p) q))
  -- side 2: the request is accepted, and the result is refused by reading
  result : read_as (request_kind p) q ≡ accepted → ((read_as (result_kind p) r).number ≡ 0 → ⊥) →
      PairSays p q r fits (on_side 2 (read_as (result_kind p) r))
  -- 12: compared item c of the headers is the first that differs
  header : (c : ℕ) → BothRead p q r → c < length (compared_of p Headers) →
      (SameItem (get_or (compared_of p Headers) c no_item) (record_of (request_kind p) q 0) (record_of (result_kind p) r 0) → ⊥) →
      SameTo c (compared_of p Headers) (record_of (request_kind p) q 0) (record_of (result_kind p) r 0) →
      PairSays p q r fits (refused_at 12 0 (get_or (compared_of p Headers) c no_item).0 0x30303030)
  -- 8: the headers agree, and the lists do not fit
  room : BothRead p q r → HeadersAgree p q r → fits ≡ false → PairSays p q r fits (refused 8)
  -- 13, 14: result j + 1 is the first that is refused
  first : (j : ℕ) {a : Answer} → Reached p q r fits j → ResultRefused p q r j a → PairSays p q r fits a
