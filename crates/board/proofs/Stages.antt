-- The stages of a posting, one after the other, and what an accepted one passed.
-- Assumes nothing.
use Prim.Native.Nat.{ℕ, ◌+◌, ◌<◌}
use mathlib.Core.Bool.{true, false}
use mathlib.Core.List.{List}
use mathlib.Core.Path.{◌≡◌, refl, sym, ◌∙◌, ap}
use mathlib.Core.Logic.{⊎_elim}
use native.Mathlib.Omega.{arith}
use borrow.Author.Tests.{eqb-true, eq-eqb, ne_eqb}
use lib.Dec.{eqb}
use Rattle.laws.proofs.Bools.{either}
use Rattle.kinds.specs.declared.of_pairs.PairKind.{PairKind}
use Rattle.std.specs.Prelude.{Option, Some, None}
use Rattle.kinds.specs.declared.of_pairs.Family.{Family}
use Rattle.kinds.specs.declared.of_pairs.Family.TheVariants.{Enrolment, Debit}
use Rattle.kinds.specs.Pairs.{request_kind, pair_of}
use Rattle.answers.specs.declared.told.Answer.{Answer}
use Rattle.answers.specs.Answers.{accepted, refused, refused_at, ◌then◌}
use Rattle.answers.proofs.Refusals.{number_of, refuses-not, refuses-is, tested, then-first, then-second, then-zero, all_told}
use Rattle.records.specs.Records.{data_of}
use Rattle.matching.specs.Amounts.{taken_at}
use Rattle.pair.specs.Pairing.{pair_by}
use Rattle.payers.specs.declared.members.Member.{Member}
use Rattle.payers.specs.Members.{repeat_number, repeat_tells}
use Rattle.payers.specs.Payers.{due_number, due_tells, dues_tell_at, dues_tell}
use Rattle.dues.specs.Posting.{payer_at, last_posted, later, day_of, date_tells, ready_as, ready_in, ready_told, requests_tell, board_told, members_as, dates_as, board_after, dates_after}

-- a number that is told is 0 where nothing is
pub repeat-good : (number : ℕ) → (repeat_tells number).number ≡ 0 → number ≡ 0
unfolding repeat_tells
repeat-good number e = eqb-true number 0 (tested (eqb number 0) (refused_at 43 number 0 0x30303030) (λ z. absurd (omega arith)) e)

pub repeat-none : (number : ℕ) → number ≡ 0 → repeat_tells number ≡ accepted
unfolding repeat_tells
repeat-none number e = rw (eq-eqb number 0 e)

pub repeat-told : (number : ℕ) → (number ≡ 0 → ⊥) → repeat_tells number ≡ refused_at 43 number 0 0x30303030
unfolding repeat_tells
repeat-told number ne = rw (ne_eqb number 0 ne)

pub due-good : (i number : ℕ) → (due_tells i number).number ≡ 0 → number ≡ 0
unfolding due_tells
due-good i number e = ⊎_elim (λ t. eqb-true number 0 t) (λ f. rw f at e) (either (eqb number 0))

pub due-none : (i number : ℕ) → number ≡ 0 → due_tells i number ≡ accepted
unfolding due_tells
due-none i number e = rw (eq-eqb number 0 e)

pub due-told : (i number : ℕ) → (number ≡ 0 → ⊥) → due_tells i number ≡ refused_at number (i + 1) 11 0x30303030
unfolding due_tells
due-told i number ne = rw (ne_eqb number 0 ne)

-- what an accepted posting passed
pub record Posted (p : PairKind) (q r : List ℕ) (board : List Member) (dates : List ℕ) : Type 0 where
  pub payers : repeat_number board ≡ 0
  pub debit : p.family ≡ Debit
  pub pair : (pair_by p q r true).number ≡ 0
  pub day : later (day_of p q) (last_posted p dates) ≡ true
  pub dues : (i : ℕ) → i < data_of (request_kind p) q → due_number (payer_at p q) (taken_at p q r) (data_of (request_kind p) q) board i ≡ 0

module _ (p : PairKind) (q r : List ℕ) (board : List Member) (dates : List ℕ) where
  -- only debit is posted
  ready-debit : (f : Family) → (ready_in f p q r dates).number ≡ 0 → (f ≡ Debit) × ((ready_as p q r dates).number ≡ 0)
  ready-debit Enrolment e = absurd (omega arith)
  ready-debit Debit e = (refl, e)

  ready-pair : (ready_as p q r dates).number ≡ 0 → ((pair_by p q r true).number ≡ 0) × (later (day_of p q) (last_posted p dates) ≡ true)
  unfolding ready_as date_tells
  ready-pair e =
      let z = then-zero (pair_by p q r true) (date_tells p q dates) e in
      (z.0, tested (later (day_of p q) (last_posted p dates)) (refused_at 40 0 5 0x30303030) (λ y. absurd (omega arith)) z.1)

  requests-good :
      (requests_tell p q r board).number ≡ 0 → (i : ℕ) → i < data_of (request_kind p) q →
      due_number (payer_at p q) (taken_at p q r) (data_of (request_kind p) q) board i ≡ 0
  unfolding requests_tell dues_tell dues_tell_at
  requests-good e i h =
      let n = data_of (request_kind p) q in
      due-good i (due_number (payer_at p q) (taken_at p q r) n board i) (all_told (dues_tell_at (payer_at p q) (taken_at p q r) n board) n e i h)

module _ (kind : ℕ) (q r : List ℕ) (board : List Member) (dates : List ℕ) where
  -- *A refusal changes nothing*
  pub nothing-changed : ((board_told kind q r board dates).number ≡ 0 → ⊥) → (board_after kind q r board dates ≡ board) × (dates_after kind q r board dates ≡ dates)
  unfolding board_after dates_after
  nothing-changed ne = let t = refuses-is (board_told kind q r board dates) ne in (rw t, rw t)

  -- before the pair kind matters, and where there is none
  pub told-repeat : (repeat_number board ≡ 0 → ⊥) → board_told kind q r board dates ≡ refused_at 43 (repeat_number board) 0 0x30303030
  unfolding board_told
  told-repeat ne =
      let e = repeat-told (repeat_number board) ne in
      then-first (repeat_tells (repeat_number board)) _ (λ z. absurd (let y : ◌≡◌ {A = ℕ} 43 0 = number_of (sym e) ∙ z in omega arith)) ∙ e

  pub told-unknown : repeat_number board ≡ 0 → pair_of kind ≡ None → board_told kind q r board dates ≡ refused 1
  unfolding board_told ready_told
  told-unknown payers e =
      then-second (repeat_tells (repeat_number board)) _ (number_of (repeat-none (repeat_number board) payers)) ∙
      rw e (then-first (refused 1) accepted (λ z. absurd (omega arith)))

  -- an accepted posting is one of a pair kind
  known-named : (n : Option PairKind) → pair_of kind ≡ n → (board_told kind q r board dates).number ≡ 0 → (p : PairKind) × (pair_of kind ≡ Some p)
  unfolding board_told ready_told
  known-named (Some p) e z = (p, e)
  known-named None e z =
      let a = then-zero (repeat_tells (repeat_number board)) (refused 1 then accepted) (rw e at z) in
      let b : ◌≡◌ {A = ℕ} 1 0 = (then-zero (refused 1) accepted a.1).0 in
      absurd (omega arith)

  pub posted-kind : (board_told kind q r board dates).number ≡ 0 → (p : PairKind) × (pair_of kind ≡ Some p)
  posted-kind = known-named (pair_of kind) refl

  module _ (p : PairKind) (named : pair_of kind ≡ Some p) where
    pub told_named : board_told kind q r board dates ≡ (repeat_tells (repeat_number board) then ready_in p.family p q r dates then requests_tell p q r board)
    unfolding board_told ready_told
    told_named = rw named

    pub posted : (board_told kind q r board dates).number ≡ 0 → Posted p q r board dates
    posted e =
        let a = then-zero (repeat_tells (repeat_number board)) (ready_in p.family p q r dates then requests_tell p q r board) (rw told_named at e) in
        let b = then-zero (ready_in p.family p q r dates) (requests_tell p q r board) a.1 in
        let c = ready-debit p q r board dates p.family b.0 in
        let d = ready-pair p q r board dates c.1 in
        record { payers = repeat-good (repeat_number board) a.0; debit = c.0; pair = d.0; day = d.1; dues = requests-good p q r board dates b.1 }

    pub board-posted : (board_told kind q r board dates).number ≡ 0 → board_after kind q r board dates ≡ members_as p q r board
    unfolding board_after
    board-posted e = rw (refuses-not (board_told kind q r board dates) e, named)

    pub dates-posted : (board_told kind q r board dates).number ≡ 0 → dates_after kind q r board dates ≡ dates_as p q dates
    unfolding dates_after
    dates-posted e = rw (refuses-not (board_told kind q r board dates) e, named)

    -- the same stage by stage
    pub told-debit :
        repeat_number board ≡ 0 → p.family ≡ Debit → board_told kind q r board dates ≡ ((pair_by p q r true then date_tells p q dates) then requests_tell p q r board)
    unfolding ready_as
    told-debit payers debit =
        told_named ∙
        (then-second (repeat_tells (repeat_number board)) _ (number_of (repeat-none (repeat_number board) payers)) ∙
        ap (λ (f : Family). ready_in f p q r dates then requests_tell p q r board) debit)

    pub told-enrolment : repeat_number board ≡ 0 → p.family ≡ Enrolment → board_told kind q r board dates ≡ refused 1
    told-enrolment payers enrolment =
        told_named ∙
        (then-second (repeat_tells (repeat_number board)) _ (number_of (repeat-none (repeat_number board) payers)) ∙
        (ap (λ (f : Family). ready_in f p q r dates then requests_tell p q r board) enrolment ∙
        then-first (refused 1) (requests_tell p q r board) (λ z. absurd (omega arith))))

    module _ (payers : repeat_number board ≡ 0) (debit : p.family ≡ Debit) where
      pub told-pair : ((pair_by p q r true).number ≡ 0 → ⊥) → board_told kind q r board dates ≡ pair_by p q r true
      told-pair ne =
          told-debit payers debit ∙
          (ap (λ (a : Answer). a then requests_tell p q r board) (then-first (pair_by p q r true) (date_tells p q dates) ne) ∙
          then-first (pair_by p q r true) (requests_tell p q r board) ne)

      module _ (pair : (pair_by p q r true).number ≡ 0) where
        past-pair : board_told kind q r board dates ≡ (date_tells p q dates then requests_tell p q r board)
        past-pair = told-debit payers debit ∙ ap (λ (a : Answer). a then requests_tell p q r board) (then-second (pair_by p q r true) (date_tells p q dates) pair)

        pub told-date : later (day_of p q) (last_posted p dates) ≡ false → board_told kind q r board dates ≡ refused_at 40 0 5 0x30303030
        unfolding date_tells
        told-date early = past-pair ∙ rw early (then-first (refused_at 40 0 5 0x30303030) (requests_tell p q r board) (λ z. absurd (omega arith)))

        pub told-requests : later (day_of p q) (last_posted p dates) ≡ true → board_told kind q r board dates ≡ requests_tell p q r board
        unfolding date_tells
        told-requests late = past-pair ∙ rw late (then-second accepted (requests_tell p q r board) refl)
