-- The answer about a posting names the first thing wrong, in the order of the paper, and no other answer says so.
-- Assumes nothing.
use Prim.Native.Nat.{ℕ, ◌+◌, ◌<◌}
use mathlib.Core.Bool.{true, false}
use mathlib.Core.List.{List}
use mathlib.Core.Path.{◌≡◌, refl, sym, ◌∙◌, ap}
use mathlib.Core.Logic.{⊎_elim}
use native.Mathlib.Nat.{eq-or-lt_of_le}
use native.Mathlib.Omega.{arith}
use borrow.Author.Tests.{leb-true, leb-false}
use lib.Dec.{leb}
use lib.ListN.{length}
use Rattle.laws.specs.Least.{least}
use Rattle.laws.proofs.Bools.{either, clash}
use Rattle.laws.proofs.Leasts.{least-is, least-stop, least-none}
use Rattle.keys.specs.Keys.{repeats_in}
use Rattle.kinds.specs.declared.of_pairs.PairKind.{PairKind}
use Rattle.std.specs.Prelude.{Option, Some, None}
use Rattle.kinds.specs.declared.of_pairs.Family.{Family}
use Rattle.kinds.specs.declared.of_pairs.Family.TheVariants.{Enrolment, Debit}
use Rattle.kinds.specs.Pairs.{pair_of}
use Rattle.answers.specs.declared.told.Answer.{Answer}
use Rattle.answers.specs.Answers.{refused_at, refuses}
use Rattle.answers.proofs.Refusals.{number_of, refuses-zero, refuses-other, told, told-stop, told-all, so_far, First, Good}
use Rattle.matching.specs.Amounts.{taken_at}
use Rattle.pair.specs.Pairing.{pair_by}
use Rattle.payers.specs.declared.members.Member.{Member}
use Rattle.payers.specs.Members.{payer_on, owed_on, repeat_on, repeat_number}
use Rattle.payers.specs.Payers.{due_number, dues_tell_at, dues_tell}
use Rattle.dues.specs.Posting.{payer_at, last_posted, later, day_of, requests_tell, board_told}
use Rattle.board.specs.Each.{requests, taken_of}
use Rattle.board.specs.First.{HasPayer, Nobody, Differ, Stands, Known, Ready, Reached, BoardSays}
use Rattle.board.proofs.Repeats.{repeats-if, repeats-is, number-here, number-none, payers-differ, differ-number}
use Rattle.payers.proofs.Named.{over-not, over-is, over-good}
use Rattle.board.proofs.Covered.{found, due-nobody, due-member}
use Rattle.board.proofs.Stages.{due-good, due-none, due-told, told-repeat, told-unknown, told-enrolment, told-pair, told-date, told-requests}
use Rattle.board.proofs.Days.{later-is, later-if, day-most}

-- what is told of one request
module _ (p : PairKind) (q r : List ℕ) (board : List Member) (differ : Differ board) (i : ℕ) where
  abbrev number : ℕ
  number = due_number (payer_at p q) (taken_at p q r) (requests p q) board i

  stands-zero : Stands p q r board i → number ≡ 0
  stands-zero x =
      due-member (payer_at p q) (taken_at p q r) (requests p q) board differ i x.member x.has ∙
      over-not (taken_of p q r (payer_at p q i)) (owed_on board x.member) x.enough

  zero-stands : number ≡ 0 → Stands p q r board i
  zero-stands e = ⊎_elim has (λ none. absurd (not-nobody none)) (found board (payer_at p q i))
    where
      not-nobody : Nobody board (payer_at p q i) → ⊥
      not-nobody none = let z : ◌≡◌ {A = ℕ} 41 0 = sym (due-nobody (payer_at p q) (taken_at p q r) (requests p q) board i none) ∙ e in omega arith

      has : ((k : ℕ) × HasPayer board (payer_at p q i) k) → Stands p q r board i
      has x = record {
        member = x.0;
        has = x.1;
        enough = over-good (taken_of p q r (payer_at p q i)) (owed_on board x.0)
            (sym (due-member (payer_at p q) (taken_at p q r) (requests p q) board differ i x.0 x.1) ∙ e);
      }

module _ (kind : ℕ) (q r : List ℕ) (board : List Member) (dates : List ℕ) where
  abbrev Says : Type 0
  Says = BoardSays kind q r board dates (board_told kind q r board dates)

  -- the requests, one after the other
  module _ (p : PairKind) (x : Ready kind q r board dates p) where
    abbrev tells : ℕ → Answer
    tells = dues_tell_at (payer_at p q) (taken_at p q r) (requests p q) board

    reaches-requests : board_told kind q r board dates ≡ requests_tell p q r board
    reaches-requests =
        told-requests kind q r board dates p x.known.named (differ-number board x.known.payers) x.known.debit x.pair
        (later-if (day_of p q) (last_posted p dates) x.day)

    stands_good : (i : ℕ) → Stands p q r board i → (tells i).number ≡ 0
    unfolding dues_tell_at
    stands_good i s = number_of (due-none i _ (stands-zero p q r board x.known.payers i s))

    good-stands : (i : ℕ) → (tells i).number ≡ 0 → Stands p q r board i
    unfolding dues_tell_at
    good-stands i e = zero-stands p q r board x.known.payers i (due-good i (due_number (payer_at p q) (taken_at p q r) (requests p q) board i) e)

    -- nobody has the payer, or its member owes too little
    tells-nobody : (i : ℕ) → Nobody board (payer_at p q i) → tells i ≡ refused_at 41 (i + 1) 11 0x30303030
    unfolding dues_tell_at
    tells-nobody i none = rw (due-nobody (payer_at p q) (taken_at p q r) (requests p q) board i none) (due-told i 41 (λ z. absurd (omega arith)))

    tells-over : (i k : ℕ) → HasPayer board (payer_at p q i) k → owed_on board k < taken_of p q r (payer_at p q i) → tells i ≡ refused_at 42 (i + 1) 11 0x30303030
    unfolding dues_tell_at
    tells-over i k h l =
        rw (
          due-member (payer_at p q) (taken_at p q r) (requests p q) board x.known.payers i k h,
          over-is (taken_of p q r (payer_at p q i)) (owed_on board k) l,
        ) (due-told i 42 (λ z. absurd (omega arith)))

    says-requests : Says
    unfolding requests_tell dues_tell
    says-requests = ⊎_elim good bad (told tells (requests p q))
      where
        good : Good tells (requests p q) → Says
        good g = rw (reaches-requests ∙ g.told) (BoardSays.good p x (λ i h. good-stands i (g.all i h)))

        bad : ((i : ℕ) × First tells (requests p q) i) → Says
        bad y = ⊎_elim has none (found board (payer_at p q y.0))
          where
            i : ℕ
            i = y.0

            reached : Reached kind q r board dates p i
            reached = record { ready = x; below = y.1.below; earlier = λ j h. good-stands j (y.1.before j h) }

            none : Nobody board (payer_at p q i) → Says
            none n = rw (reaches-requests ∙ (y.1.told ∙ tells-nobody i n)) (BoardSays.payer p i reached n)

            has : ((k : ℕ) × HasPayer board (payer_at p q i) k) → Says
            has m =
                let k = m.0 in
                ⊎_elim
                (λ t. absurd (y.1.bad (stands_good i (record { member = k; has = m.1; enough = leb-true _ _ t }))))
                (λ f. let l = leb-false _ _ f in rw (reaches-requests ∙ (y.1.told ∙ tells-over i k m.1 l)) (BoardSays.over p i k reached m.1 l))
                (either (leb (taken_of p q r (payer_at p q i)) (owed_on board k)))

  -- a pair kind of debit
  says-debit : (p : PairKind) → Known kind board p → Says
  says-debit p x = ⊎_elim bad good (either (refuses (pair_by p q r true)))
    where
      zero : repeat_number board ≡ 0
      zero = differ-number board x.payers

      bad : refuses (pair_by p q r true) ≡ true → Says
      bad t = let ne = refuses-other (pair_by p q r true) t in rw (told-pair kind q r board dates p x.named zero x.debit ne) (BoardSays.pair p x ne)

      good : refuses (pair_by p q r true) ≡ false → Says
      good f = ⊎_elim late early (either (later (day_of p q) (last_posted p dates)))
        where
          e : (pair_by p q r true).number ≡ 0
          e = refuses-zero (pair_by p q r true) f

          late : later (day_of p q) (last_posted p dates) ≡ true → Says
          late t = says-requests p (record { known = x; pair = e; day = later-is (day_of p q) (last_posted p dates) (day-most p q) t })

          early : later (day_of p q) (last_posted p dates) ≡ false → Says
          early g =
              rw (told-date kind q r board dates p x.named zero x.debit e g)
              (BoardSays.date p x e (λ l. clash (later-if (day_of p q) (last_posted p dates) l) g))

  -- by the pair kind, and by its family
  says-family : (p : PairKind) → Differ board → pair_of kind ≡ Some p → (f : Family) → p.family ≡ f → Says
  says-family p d e Enrolment g = rw (told-enrolment kind q r board dates p e (differ-number board d) g) (BoardSays.enrolment p d e g)
  says-family p d e Debit g = says-debit p (record { payers = d; named = e; debit = g })

  says-named : Differ board → (n : Option PairKind) → pair_of kind ≡ n → Says
  says-named d (Some p) e = says-family p d e p.family refl
  says-named d None e = rw (told-unknown kind q r board dates (differ-number board d) e) (BoardSays.unknown d e)

  -- *First refusal* of a posting: the answer names the first thing wrong
  pub board-says : BoardSays kind q r board dates (board_told kind q r board dates)
  unfolding repeat_on
  board-says = ⊎_elim none some (eq-or-lt_of_le (least-is (repeats_in (payer_on board)) (length board)).within)
    where
      none : least (repeats_in (payer_on board)) (length board) ≡ length board → Says
      none e = says-named (payers-differ board (number-none board (sym e))) (pair_of kind) refl

      some : least (repeats_in (payer_on board)) (length board) < length board → Says
      some h =
          let k = repeat_on board in
          let e = number-here board k h refl in
          rw (told-repeat kind q r board dates (λ z. absurd (omega arith)), e)
          (BoardSays.repeated k h (repeats-is board k ((least-is (repeats_in (payer_on board)) (length board)).holds h))
          (λ j l s. clash (repeats-if board j s) ((least-is (repeats_in (payer_on board)) (length board)).before j l)))

  -- the first request that does not stand is the one that is told
  reached-told :
      (p : PairKind) (i : ℕ) (a : Answer) (x : Reached kind q r board dates p i) →
      dues_tell_at (payer_at p q) (taken_at p q r) (requests p q) board i ≡ a → (a.number ≡ 0 → ⊥) → a ≡ board_told kind q r board dates
  unfolding requests_tell dues_tell
  reached-told p i a x e ne =
      sym (reaches-requests p x.ready ∙
      (told-stop (tells p x.ready) i (requests p q) x.below
      (so_far (tells p x.ready) i (λ j h. stands_good p x.ready j (x.earlier j h))) (λ z. ne (number_of (sym e) ∙ z)) ∙ e))

  -- *No other answer says so*
  pub says-only : (a : Answer) → BoardSays kind q r board dates a → a ≡ board_told kind q r board dates
  unfolding repeat_on requests_tell dues_tell
  says-only a (BoardSays.good p x s) =
      sym (reaches-requests p x ∙ told-all (tells p x) (requests p q) (λ i h. stands_good p x i (s i h)))
  says-only a (BoardSays.repeated k h x f) =
      sym (told-repeat kind q r board dates (λ z. absurd (omega (arith, z, here))) ∙ ap (λ (m : ℕ). refused_at 43 m 0 0x30303030) here)
    where
      other : (j : ℕ) → j < k → repeats_in (payer_on board) j ≡ false
      other j l = ⊎_elim (λ t. absurd (f j l (repeats-is board j t))) (λ g. g) (either (repeats_in (payer_on board) j))

      here : repeat_number board ≡ k + 1
      here =
          number-here board k h
          (least-stop (repeats_in (payer_on board)) k (length board) h (least-none (repeats_in (payer_on board)) k other) (repeats-if board k x))
  says-only a (BoardSays.unknown d e) = sym (told-unknown kind q r board dates (differ-number board d) e)
  says-only a (BoardSays.enrolment p d e g) = sym (told-enrolment kind q r board dates p e (differ-number board d) g)
  says-only a (BoardSays.pair p x ne) = sym (told-pair kind q r board dates p x.named (differ-number board x.payers) x.debit ne)
  says-only a (BoardSays.date p x e l) =
      sym (told-date kind q r board dates p x.named (differ-number board x.payers) x.debit e
      (⊎_elim (λ t. absurd (l (later-is (day_of p q) (last_posted p dates) (day-most p q) t))) (λ f. f) (either (later (day_of p q) (last_posted p dates)))))
  says-only a (BoardSays.payer p i x none) = reached-told p i _ x (tells-nobody p x.ready i none) (λ z. absurd (omega arith))
  says-only a (BoardSays.over p i k x h l) = reached-told p i _ x (tells-over p x.ready i k h l) (λ z. absurd (omega arith))
