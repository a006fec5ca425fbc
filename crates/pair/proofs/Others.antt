-- A request or a result of another pair kind of its family is refused on its side, by its name.
-- Assumes nothing.
use Prim.Native.Nat.{ℕ}
use mathlib.Core.Bool.{Bool}
use mathlib.Core.List.{List}
use mathlib.Core.Path.{◌≡◌, refl, sym, ◌∙◌, ap}
use native.Mathlib.Omega.{arith}
use Rattle.laws.specs.Least.{least, further}
use Rattle.kinds.specs.declared.of_files.Form.TheVariants.{EnrolmentRequest, EnrolmentResult, DebitRequest, DebitResult}
use Rattle.kinds.specs.declared.of_files.Own.{Own}
use Rattle.kinds.specs.declared.of_pairs.Family.{Family}
use Rattle.kinds.specs.declared.of_pairs.Family.TheVariants.{Enrolment, Debit}
use Rattle.kinds.specs.declared.of_pairs.PairKind.{PairKind}
use Rattle.std.specs.Prelude.{Some}
use Rattle.kinds.specs.Kinds.{EB21, EB22, EC21, EC22}
use Rattle.kinds.specs.Pairs.{debit_pair, same_day_pair, pairs, request_in, result_in, request_kind, result_kind, pair_from, request_is, pair_of}
use Rattle.answers.specs.declared.told.Answer.{Answer}
use Rattle.answers.specs.Answers.{accepted, refused_at, on_side}
use Rattle.answers.proofs.Refusals.{number_of}
use Rattle.reader.specs.Reading.{read_as}
use Rattle.reader.specs.Meets.{Meets}
use Rattle.reader.proofs.Exact.{read-exact}
use Rattle.reader.proofs.OneKind.{other_name_lem}
use Rattle.pair.specs.Pairing.{pair_by, pair_as, pair_told}
use Rattle.pair.proofs.Stages.{by-request, by_result}

-- item 4 of a header disagrees
abbrev pub other_name : Answer
other_name = refused_at 5 0 4 0x30303030

-- a request, and a result, of a family by another name
other-in :
    (f : Family) (o p : Own) (s : List ℕ) → (o.name ≡ p.name → ⊥) →
    (Meets (request_in f o) s → read_as (request_in f p) s ≡ other_name) × (Meets (result_in f o) s → read_as (result_in f p) s ≡ other_name)
other-in Enrolment o p s ne = (λ m. other_name_lem EnrolmentRequest o p s m ne, λ m. other_name_lem EnrolmentResult o p s m ne)
other-in Debit o p s ne = (λ m. other_name_lem DebitRequest o p s m ne, λ m. other_name_lem DebitResult o p s m ne)

named_other : {a : Answer} → a ≡ other_name → a.number ≡ 0 → ⊥
named_other e z = let five : ◌≡◌ {A = ℕ} 5 0 = number_of (sym e) ∙ z in omega arith

module _ (p o : PairKind) (family : o.family ≡ p.family) (q r : List ℕ) (fits : Bool) where
  -- whatever the result
  pub other-request : (o.request.name ≡ p.request.name → ⊥) → read_as (request_kind o) q ≡ accepted → pair_by p q r fits ≡ on_side 1 other_name
  other-request ne e =
      let told = (other-in p.family o.request p.request q ne).0 (rw family at ((read-exact (request_kind o) q).0 e)) in
      by-request p q r fits (named_other told) ∙ ap (on_side 1) told

  -- whatever the lists
  pub other_result :
      (o.result.name ≡ p.result.name → ⊥) → read_as (request_kind p) q ≡ accepted → read_as (result_kind o) r ≡ accepted →
      pair_by p q r fits ≡ on_side 2 other_name
  other_result ne good e =
      let told = (other-in p.family o.result p.result r ne).1 (rw family at ((read-exact (result_kind o) r).0 e)) in
      by_result p q r fits (number_of good) (named_other told) ∙ ap (on_side 2) told

-- the two pair kinds of debits, by their numbers
pub next-day : pair_of 0x45423231 ≡ Some debit_pair
unfolding pair_of pair_from request_is pairs least further
next-day = refl

pub same-day : pair_of 0x45433231 ≡ Some same_day_pair
unfolding pair_of pair_from request_is pairs least further
same-day = refl

module _ (q r : List ℕ) (taken notTaken : ℕ) where
  -- *Same day*: a same-day request pairs only with a same-day result, and a next-day request with a next-day result
  pub same-day-only : read_as EC21 q ≡ accepted → read_as EB22 r ≡ accepted → pair_told 0x45433231 q r taken notTaken ≡ on_side 2 other_name
  unfolding pair_told pair_as
  same-day-only good e = rw same-day (other_result same_day_pair debit_pair refl q r _ (λ z. omega arith) good e)

  pub next-day-only : read_as EB21 q ≡ accepted → read_as EC22 r ≡ accepted → pair_told 0x45423231 q r taken notTaken ≡ on_side 2 other_name
  unfolding pair_told pair_as
  next-day-only good e = rw next-day (other_result debit_pair same_day_pair refl q r _ (λ z. omega arith) good e)
