-- What is known before a member is looked at, by the pair kind that the number names.
-- Assumes nothing.
use Prim.Native.Nat.{ℕ, ◌<◌}
use mathlib.Core.Bool.{true}
use mathlib.Core.List.{List, ◌++◌}
use mathlib.Core.Path.{◌≡◌, refl, sym, ◌∙◌}
use native.Mathlib.Omega.{arith}
use lib.ListN.{drop}
use Rattle.laws.specs.Tabulate.{tabulate}
use Rattle.kinds.specs.declared.of_pairs.PairKind.{PairKind}
use Rattle.std.specs.Prelude.{Option, Some, None, Result, Ok, Err}
use Rattle.kinds.specs.declared.of_pairs.Family.{Family}
use Rattle.kinds.specs.declared.of_pairs.Family.TheVariants.{Enrolment, Debit}
use Rattle.kinds.specs.Pairs.{request_kind, pair_of}
use Rattle.answers.specs.declared.told.Answer.{Answer}
use Rattle.answers.specs.declared.of_two.OfTwo.{OfTwo}
use Rattle.answers.specs.declared.refusing.Refusal.TheVariants.{UnknownKind}
use Rattle.answers.specs.Answers.{accepted, refuses, ◌then◌}
use Rattle.answers.specs.Refusing.{told_by}
use Rattle.answers.specs.OfTwo.{told_of_two}
use Rattle.answers.proofs.Refusals.{refuses-is, refuses-not, then-zero}
use Rattle.answers.proofs.Tellings.{good, bad-two, first-two, next}
use Rattle.records.specs.Records.{count_of, data_of}
use Rattle.matching.specs.Amounts.{taken_at}
use Rattle.pair.specs.Pairing.{pair_by}
use Rattle.pair.proofs.Matched.{pair-known}
use Rattle.dues.specs.declared.ready.Ready.{Ready}
use Rattle.dues.specs.Posting.{date_tells, ready_as, ready_in, ready_named, ready_told, dates_as}
use Rattle.dues.specs.Steps.{ready_count, ready_dates, ready_list, ready_of, readied_by}

-- there is a header
pub header-there : (p : PairKind) (q r : List ℕ) → (pair_by p q r true).number ≡ 0 → 0 < count_of (request_kind p) q
header-there p q r e = omega (arith, (pair-known p q r true e).request.lengths.fewest)

module _ (kind : ℕ) (q r dates : List ℕ) where
  -- 1 where the number names no pair kind, or enrolment
  pub ready-unknown : pair_of kind ≡ None → told_by UnknownKind ≡ ready_told kind q r dates
  unfolding ready_told
  ready-unknown e = rw e

  -- what is said of it, and a lent list after it
  abbrev pub Says : Result Ready OfTwo → List ℕ → List ℕ → Type 0
  Says result old new = (readied_by dates result ≡ ready_of kind q r dates) × (new ≡ ready_list kind q r dates old)

  -- a refusal
  pub ready-refused : (x : OfTwo) → told_of_two x ≡ ready_told kind q r dates → (old : List ℕ) → Says (Err x) old old
  unfolding ready_count ready_dates ready_list
  ready-refused x e old = let t = refuses-is (ready_told kind q r dates) (bad-two x _ e) in (rw (t, e), rw t)

  module _ (p : PairKind) (named : pair_of kind ≡ Some p) where
    pub ready-enrolment : p.family ≡ Enrolment → told_by UnknownKind ≡ ready_told kind q r dates
    unfolding ready_told
    ready-enrolment f = rw (named, f)

    -- the pair's answer, then the date's
    module _ (debit : p.family ≡ Debit) where
      ready-debit : ready_told kind q r dates ≡ (pair_by p q r true then date_tells p q dates)
      unfolding ready_told ready_as
      ready-debit = rw (named, debit)

      pub ready-pair : (x : OfTwo) → told_of_two x ≡ pair_by p q r true → told_of_two x ≡ ready_told kind q r dates
      ready-pair x e = first-two x _ _ e ∙ sym ready-debit

      pub ready-date : (a : Answer) → accepted ≡ pair_by p q r true → a ≡ date_tells p q dates → a ≡ ready_told kind q r dates
      ready-date a z e = next a _ _ z e ∙ sym ready-debit

    -- no refusal
    pub ready-accepted :
        (k : Ready) → accepted ≡ ready_told kind q r dates → k.n ≡ data_of (request_kind p) q → k.dates ≡ dates_as p q dates →
        (old new : List ℕ) → new ≡ tabulate (taken_at p q r) (data_of (request_kind p) q) ++ drop (data_of (request_kind p) q) old → Says (Ok k) old new
    unfolding ready_count ready_dates ready_list
    ready-accepted k e x y old new l = let f = refuses-not (ready_told kind q r dates) (good _ e) in (rw (f, named, ← e, x, y), rw (f, named, l))

-- what is no refusal: a debit pair that is accepted, with a later date
pub record Accepts (p : PairKind) (q r dates : List ℕ) : Type 0 where
  pub debit : p.family ≡ Debit
  pub pair : (pair_by p q r true).number ≡ 0
  pub date : (date_tells p q dates).number ≡ 0

accepts-in : (p : PairKind) (q r dates : List ℕ) (f : Family) → p.family ≡ f → (ready_in f p q r dates).number ≡ 0 → Accepts p q r dates
unfolding ready_as
accepts-in p q r dates Enrolment f z = absurd (omega arith)
accepts-in p q r dates Debit f z =
    let both = then-zero (pair_by p q r true) (date_tells p q dates) z in
    record { debit = f; pair = both.0; date = both.1 }

-- of a pair kind that the number names
pub record Known (kind : ℕ) (q r dates : List ℕ) : Type 0 where
  pub p : PairKind
  pub named : pair_of kind ≡ Some p

known-named : (kind : ℕ) (q r dates : List ℕ) (n : Option PairKind) → pair_of kind ≡ n → (ready_named n q r dates).number ≡ 0 → Known kind q r dates
known-named kind q r dates (Some p) e z = record { p = p; named = e }
known-named kind q r dates None e z = absurd (omega arith)

module _ (kind : ℕ) (q r dates : List ℕ) where
  pub ready-known : (ready_told kind q r dates).number ≡ 0 → Known kind q r dates
  unfolding ready_told
  ready-known z = known-named kind q r dates (pair_of kind) refl z

  -- a refusal: no requests, and a lent list as it was
  module _ (bad : refuses (ready_told kind q r dates) ≡ true) where
    pub count_none : ready_count kind q r dates ≡ 0
    unfolding ready_count
    count_none = rw bad

    pub list-kept : (old : List ℕ) → ready_list kind q r dates old ≡ old
    unfolding ready_list
    list-kept old = rw bad

  -- no refusal: what the pair kind says
  module _ (p : PairKind) (named : pair_of kind ≡ Some p) (good : (ready_told kind q r dates).number ≡ 0) where
    pub ready-accepts : Accepts p q r dates
    unfolding ready_told
    ready-accepts = accepts-in p q r dates p.family refl (rw named at good)

    pub count-is : ready_count kind q r dates ≡ data_of (request_kind p) q
    unfolding ready_count
    count-is = rw (refuses-not (ready_told kind q r dates) good, named)

    pub dates-are : ready_dates kind q r dates ≡ dates_as p q dates
    unfolding ready_dates
    dates-are = rw (refuses-not (ready_told kind q r dates) good, named)

    pub list-is : (old : List ℕ) → ready_list kind q r dates old ≡ tabulate (taken_at p q r) (data_of (request_kind p) q) ++ drop (data_of (request_kind p) q) old
    unfolding ready_list
    list-is old = rw (refuses-not (ready_told kind q r dates) good, named)
