-- What each answer about two results says, and that the request it names is the first in which the lists differ.
use Rattle.std.specs.Prelude.{ℕ, ◌+◌, ◌<◌, true, List, ◌≡◌, Some, None}
use Rattle.kinds.specs.declared.of_files.Own.{Own}
use Rattle.kinds.specs.declared.of_pairs.Family.TheVariants.{Enrolment, Debit}
use Rattle.kinds.specs.Pairs.{pair_kind, request_kind, pair_of}
use Rattle.answers.specs.OfTwo.{Story}
use Rattle.answers.specs.Answers.{accepted, refused}
use Rattle.records.specs.Records.{data_of}
use Rattle.pair.specs.Pairing.{pair_by}
use Rattle.two_results.specs.Comparing.{story}
use Rattle.two_results.specs.Gives.{Gives, Equal}

pub data Says (kind : ℕ) (q r s : List ℕ) : Story → Type 0 where
  -- 1: the number names no pair kind, or enrolment
  unknown : pair_of kind ≡ None → Says kind q r s (story (refused 1) 1 0)
  enrolment : (a b : Own) → pair_of kind ≡ Some (pair_kind Enrolment a b) → Says kind q r s (story (refused 1) 1 0)
  -- the pair with the first result is refused
  first : (a b : Own) → pair_of kind ≡ Some (pair_kind Debit a b) → ((pair_by (pair_kind Debit a b) q r true).number ≡ 0 → ⊥) →
      Says kind q r s (story (pair_by (pair_kind Debit a b) q r true) 1 0)
  -- it is accepted, and the pair with the second result is refused
  second : (a b : Own) {taken left : ℕ → ℕ} → pair_of kind ≡ Some (pair_kind Debit a b) → Gives (pair_kind Debit a b) q r taken left →
      ((pair_by (pair_kind Debit a b) q s true).number ≡ 0 → ⊥) → Says kind q r s (story (pair_by (pair_kind Debit a b) q s true) 2 0)
  -- both give lists, and these are equal at every request
  equal : (a b : Own) {taken left gone kept : ℕ → ℕ} → pair_of kind ≡ Some (pair_kind Debit a b) →
      Gives (pair_kind Debit a b) q r taken left → Gives (pair_kind Debit a b) q s gone kept →
      Equal (data_of (request_kind (pair_kind Debit a b)) q) taken left gone kept → Says kind q r s (story accepted 0 0)
  -- both give lists, and request i + 1 is the first at which these are not equal
  differ : (a b : Own) {taken left gone kept : ℕ → ℕ} → pair_of kind ≡ Some (pair_kind Debit a b) →
      Gives (pair_kind Debit a b) q r taken left → Gives (pair_kind Debit a b) q s gone kept →
      (i : ℕ) → i < data_of (request_kind (pair_kind Debit a b)) q → ((taken i ≡ gone i) × (left i ≡ kept i) → ⊥) → Equal i taken left gone kept →
      Says kind q r s (story accepted 0 (i + 1))
