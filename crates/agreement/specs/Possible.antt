-- What it is that the amounts of a request and its result are possible, and why they are not.
use Rattle.std.specs.Prelude.{ℕ, ◌-◌, ◌≤◌, ◌<◌, List, ◌≡◌}
use Rattle.layout.specs.Items.{amount_of, mark_of, type_of}
use Rattle.answers.specs.declared.told.Answer.{Answer}
use Rattle.answers.specs.Answers.{refused_at}
use Rattle.kinds.specs.declared.of_pairs.PairKind.{PairKind}
use Rattle.kinds.specs.declared.of_pairs.Family.{Family}
use Rattle.kinds.specs.declared.of_pairs.Family.TheVariants.{Enrolment, Debit}
use Rattle.agreement.specs.Amounts.{base_of}

-- what a part payment of the request must take at least
abbrev pub base_for : ℕ → List ℕ → ℕ
base_for least request = base_of least (type_of request)

-- the amounts of a request and its result are possible, in a family, where the least amount that may be asked is `least`
pub data PossibleIn (least : ℕ) : Family → List ℕ → List ℕ → Type 0 where
  -- an enrolment has no amounts
  enrolled : {request result : List ℕ} → PossibleIn least Enrolment request result
  -- "N": nothing was taken
  nothing : {request result : List ℕ} → mark_of result ≡ 0x4E → amount_of result ≡ amount_of request → PossibleIn least Debit request result
  -- "P": a part was not taken, never of type "1", and what was taken reaches the base of the type
  some : {request result : List ℕ} → mark_of result ≡ 0x50 → (type_of request ≡ 0x31 → ⊥) → 0 < amount_of result → amount_of result < amount_of request →
      base_for least request ≤ amount_of request - amount_of result → PossibleIn least Debit request result

-- of a pair kind the least amount is its request's
abbrev pub Possible : PairKind → List ℕ → List ℕ → Type 0
Possible p request result = PossibleIn p.request.least p.family request result

-- why the amounts of a debit are not possible: "P" on type "1"
pub data OnTypeOne : Family → List ℕ → List ℕ → Type 0 where
  one : {request result : List ℕ} → mark_of result ≡ 0x50 → type_of request ≡ 0x31 → OnTypeOne Debit request result

-- or an amount that cannot be
pub data Impossible (least : ℕ) : Family → List ℕ → List ℕ → Type 0 where
  -- "N" with another amount than was asked
  other : {request result : List ℕ} → mark_of result ≡ 0x4E → (amount_of result ≡ amount_of request → ⊥) → Impossible least Debit request result
  -- "P" with no less than was asked
  none : {request result : List ℕ} → mark_of result ≡ 0x50 → amount_of request ≤ amount_of result → Impossible least Debit request result
  -- "P" that takes less than the base
  under : {request result : List ℕ} → mark_of result ≡ 0x50 → amount_of result < amount_of request →
      amount_of request - amount_of result < base_for least request → Impossible least Debit request result

-- 14: why the amounts of result record `rec` are refused
pub data AmountsRefused (p : PairKind) (rec : ℕ) (request result : List ℕ) : Answer → Type 0 where
  -- "P" on type "1"
  type_one : OnTypeOne p.family request result → AmountsRefused p rec request result (refused_at 14 rec 13 0x30303030)
  -- it is not, and the amount is impossible
  amount : (OnTypeOne p.family request result → ⊥) → Impossible p.request.least p.family request result →
      AmountsRefused p rec request result (refused_at 14 rec 6 0x30303030)
