-- What it is that a result pairs with a request and gives two lists, with nothing said of how a request is found.
use Rattle.std.specs.Prelude.{ℕ, ◌-◌, ◌<◌, List, ◌≡◌}
use Rattle.kinds.specs.declared.of_pairs.PairKind.{PairKind}
use Rattle.kinds.specs.Pairs.{request_kind, result_kind}
use Rattle.answers.specs.Answers.{accepted}
use Rattle.records.specs.Records.{data_of}
use Rattle.reader.specs.Reading.{read_as}
use Rattle.layout.specs.Items.{amount_of}
use Rattle.agreement.specs.Same.{request_at, result_at, HeadersAgree}
use Rattle.pair.specs.Assigned.{Assignment}

-- what was taken of request i + 1 of a debit, and what was not, by an assignment of the results
pub data Amounts (p : PairKind) (q r : List ℕ) (to : ℕ → ℕ) (i : ℕ) : ℕ → ℕ → Type 0 where
  -- no result is assigned to it: all of it was taken
  whole : ((j : ℕ) → j < data_of (result_kind p) r → to j ≡ i → ⊥) → Amounts p q r to i (amount_of (request_at p q i)) 0
  -- result j + 1 is: its amount was not taken, and the rest was
  failed : (j : ℕ) → j < data_of (result_kind p) r → to j ≡ i →
      Amounts p q r to i (amount_of (request_at p q i) - amount_of (result_at p r j)) (amount_of (result_at p r j))

-- both files are accepted, the headers agree, the results can be assigned to distinct requests, each agreeing in every copied item and
-- each amount possible, and so much was taken of each request and so much was not
pub record Gives (p : PairKind) (q r : List ℕ) (taken notTaken : ℕ → ℕ) : Type 0 where
  pub request : read_as (request_kind p) q ≡ accepted
  pub result : read_as (result_kind p) r ≡ accepted
  pub headers : HeadersAgree p q r
  pub assignment : Assignment p q r
  pub amounts : (i : ℕ) → i < data_of (request_kind p) q → Amounts p q r assignment.to i (taken i) (notTaken i)

-- two pairs of lists are equal at each of n requests
abbrev pub Equal : ℕ → (ℕ → ℕ) → (ℕ → ℕ) → (ℕ → ℕ) → (ℕ → ℕ) → Type 0
Equal n taken notTaken taken' notTaken' = (i : ℕ) → i < n → (taken i ≡ taken' i) × (notTaken i ≡ notTaken' i)
