-- The dates of the board: an accepted posting moves that of its sort to its own, and no other.
-- Assumes nothing.
use Prim.Native.Nat.{ℕ, ◌+◌, ◌≤◌, ◌<◌}
use mathlib.Core.Bool.{true, false}
use mathlib.Core.List.{List}
use mathlib.Core.Path.{◌≡◌, sym, ◌∙◌, ap, subst}
use mathlib.Core.Logic.{⊎_elim, ◌⊎◌, inl, inr}
use native.Mathlib.Nat.{le_refl, eq-or-lt_of_le}
use native.Mathlib.Omega.{arith}
use borrow.Author.Tests.{lt-ltb, le-ltb, ltb-true, ltb-false, eqb-true, eq-eqb, ne_eqb, not-false}
use lib.Dec.{ltb}
use lib.ListN.{length, get_or, drop, length-take, get_or-eq_default}
use Rattle.laws.specs.Least.{least}
use Rattle.laws.specs.Part.{part, differ}
use Rattle.laws.proofs.Bools.{either}
use Rattle.laws.proofs.Leasts.{least-is, least-stop, least-none}
use Rattle.laws.proofs.Parts.{part_length}
use Rattle.laws.proofs.Stores.{stored-length, stored_here, stored-before, stored-behind}
use Rattle.kinds.specs.declared.of_files.Own.{Own}
use Rattle.kinds.specs.declared.of_pairs.PairKind.{PairKind}
use Rattle.std.specs.Prelude.{Some}
use Rattle.kinds.specs.declared.of_pairs.Family.{Family}
use Rattle.kinds.specs.declared.of_pairs.Family.TheVariants.{Enrolment, Debit}
use Rattle.kinds.specs.Kinds.{fixed_of}
use Rattle.kinds.specs.Pairs.{request_in, request_kind, pair_of}
use Rattle.answers.specs.Answers.{refuses}
use Rattle.answers.proofs.Refusals.{refuses-zero, refuses-other}
use Rattle.records.specs.Records.{record_at, record_of}
use Rattle.records.proofs.Places.{record-inside}
use Rattle.pair.specs.Pairing.{pair_by}
use Rattle.pair.proofs.Matched.{pair-known}
use Rattle.payers.specs.declared.members.Member.{Member}
use Rattle.dues.specs.Posting.{same_day, date_start, last_posted, first_other, later, day_of, board_told, dates_as, dates_after}
use Rattle.board.specs.First.{Later}
use Rattle.board.proofs.Stages.{posted, posted-kind, dates-posted, nothing-changed}

-- no day is later than itself
pub later-self : (a : List ℕ) → later a a ≡ false
unfolding later
later-self a = le-ltb _ _ (le_refl (get_or a (first_other a a) 0))

-- later, in plain words
pub later-if : (a b : List ℕ) → Later a b → later a b ≡ true
unfolding later first_other differ
later-if a b l = rw stop (lt-ltb (get_or b l.place 0) (get_or a l.place 0) l.greater)
  where
    stop : least (differ a b) 6 ≡ l.place
    stop =
        least-stop (differ a b) l.place 6 l.inside
        (least-none (differ a b) l.place (λ k h. rw (eq-eqb (get_or a k 0) (get_or b k 0) (l.before k h))))
        (rw (ne_eqb (get_or a l.place 0) (get_or b l.place 0) (λ e. absurd (omega (arith, l.greater)))))

pub later-is : (a b : List ℕ) → length a ≤ 6 → later a b ≡ true → Later a b
unfolding later first_other differ
later-is a b h t = record {
  place = least (differ a b) 6;
  inside = inside;
  before = λ k l. eqb-true (get_or a k 0) (get_or b k 0) (not-false _ ((least-is (differ a b) 6).before k l));
  greater = greater;
}
  where
    greater : get_or b (least (differ a b) 6) 0 < get_or a (least (differ a b) 6) 0
    greater = ltb-true _ _ t

    inside : least (differ a b) 6 < 6
    inside =
        ⊎_elim (λ e. absurd (let z = get_or-eq_default a 0 {n = least (differ a b) 6} (omega arith) in omega (arith, greater))) (λ l. l)
        (eq-or-lt_of_le (least-is (differ a b) 6).within)

-- what is later than a day that is later than a third is later than that
pub later_trans : (a b c : List ℕ) → Later a b → Later b c → Later a c
later_trans a b c l m = ⊎_elim first second (either (ltb m.place l.place))
  where
    -- the second two differ before the first two do
    first : ltb m.place l.place ≡ true → Later a c
    first t =
        let h : m.place < l.place = ltb-true _ _ t in
        record {
          place = m.place;
          inside = m.inside;
          before = λ k g. l.before k (omega arith) ∙ m.before k g;
          greater = let e = l.before m.place h in omega (arith, m.greater);
        }

    second : ltb m.place l.place ≡ false → Later a c
    second f = record {
      place = l.place;
      inside = l.inside;
      before = λ k g. l.before k g ∙ m.before k (omega (arith, ltb-false m.place l.place f));
      greater = at_first;
    }
      where
        at_first : get_or c l.place 0 < get_or a l.place 0
        at_first =
            ⊎_elim (λ e. let z = subst (λ (k : ℕ). get_or c k 0 < get_or b k 0) (sym e) m.greater in omega (arith, l.greater))
            (λ h. let z = m.before l.place h in omega (arith, l.greater)) (eq-or-lt_of_le (ltb-false m.place l.place f))

pub day-most : (p : PairKind) (q : List ℕ) → length (day_of p q) ≤ 6
unfolding day_of part
day-most p q = omega (arith, length-take 6 (drop 27 (record_of (request_kind p) q 0)))

-- the date of a request that is accepted is six bytes
header-size : (f : Family) (o : Own) → 33 ≤ (fixed_of (request_in f o)).size
header-size Enrolment o = omega arith
header-size Debit o = omega arith

pub day-length : (p : PairKind) (q r : List ℕ) → (pair_by p q r true).number ≡ 0 → length (day_of p q) ≡ 6
unfolding day_of record_at
day-length p q r e =
    let k = request_kind p in
    let m = (pair-known p q r true e).request.lengths in
    let l = record-inside k q 0 (omega (arith, m.fewest)) in
    let long : length (record_of k q 0) ≡ (fixed_of k).size = part_length _ (fixed_of k).size q l in
    part_length 27 6 (record_of k q 0) (omega (arith, header-size p.family p.request))

-- six bytes from the front on, or the six behind them
pub start-cases : (p : PairKind) → (date_start p ≡ 0) ⊎ (date_start p ≡ 6)
unfolding date_start
start-cases p = ⊎_elim (λ t. inr (rw t)) (λ f. inl (rw f)) (either (same_day p))

start-inside : (p : PairKind) → date_start p + 6 ≤ 12
start-inside p = ⊎_elim (λ e. omega arith) (λ e. omega arith) (start-cases p)

module _ (p : PairKind) (q dates : List ℕ) (twelve : length dates ≡ 12) (six : length (day_of p q) ≡ 6) where
  fits : date_start p + length (day_of p q) ≤ length dates
  fits = omega (arith, start-inside p)

  pub days-length : length (dates_as p q dates) ≡ 12
  unfolding dates_as
  days-length = stored-length (date_start p) (day_of p q) dates fits ∙ twelve

  pub day-moves : last_posted p (dates_as p q dates) ≡ day_of p q
  unfolding last_posted dates_as
  day-moves = stored_here (date_start p) (day_of p q) dates fits 6 six

  pub day-stays : (o : PairKind) → (date_start o ≡ date_start p → ⊥) → last_posted o (dates_as p q dates) ≡ last_posted o dates
  unfolding last_posted dates_as
  day-stays o ne =
      ⊎_elim
      (λ a. ⊎_elim (λ b. absurd (ne (a ∙ sym b))) (λ b. stored-before (date_start p) (day_of p q) dates fits (date_start o) 6 (omega arith)) (start-cases p))
      (λ a. ⊎_elim (λ b. stored-behind (date_start p) (day_of p q) dates fits (date_start o) 6 (omega arith)) (λ b. absurd (ne (a ∙ sym b))) (start-cases p))
      (start-cases o)

module _ (kind : ℕ) (q r : List ℕ) (board : List Member) (dates : List ℕ) (twelve : length dates ≡ 12) where
  module _ (p : PairKind) (is : pair_of kind ≡ Some p) where
    -- *An accepted posting moves the date of its sort to its own*
    pub own-date-moves : (board_told kind q r board dates).number ≡ 0 → last_posted p (dates_after kind q r board dates) ≡ day_of p q
    own-date-moves good =
        rw (dates-posted kind q r board dates p is good) (day-moves p q dates twelve (day-length p q r (posted kind q r board dates p is good).pair))

    -- *No posting moves the date of the other sort*
    pub other-date-stays : (o : PairKind) → (date_start o ≡ date_start p → ⊥) → last_posted o (dates_after kind q r board dates) ≡ last_posted o dates
    other-date-stays o ne = ⊎_elim bad good (either (refuses (board_told kind q r board dates)))
      where
        bad : refuses (board_told kind q r board dates) ≡ true → last_posted o (dates_after kind q r board dates) ≡ last_posted o dates
        bad t = ap (last_posted o) (nothing-changed kind q r board dates (refuses-other (board_told kind q r board dates) t)).1

        good : refuses (board_told kind q r board dates) ≡ false → last_posted o (dates_after kind q r board dates) ≡ last_posted o dates
        good f =
            let e = refuses-zero (board_told kind q r board dates) f in
            rw (dates-posted kind q r board dates p is e) (day-stays p q dates twelve (day-length p q r (posted kind q r board dates p is e).pair) o ne)

  -- twelve bytes they stay, accepted or not
  pub dates-length : length (dates_after kind q r board dates) ≡ 12
  dates-length = ⊎_elim bad good (either (refuses (board_told kind q r board dates)))
    where
      bad : refuses (board_told kind q r board dates) ≡ true → length (dates_after kind q r board dates) ≡ 12
      bad t = ap length (nothing-changed kind q r board dates (refuses-other (board_told kind q r board dates) t)).1 ∙ twelve

      good : refuses (board_told kind q r board dates) ≡ false → length (dates_after kind q r board dates) ≡ 12
      good f =
          let e = refuses-zero (board_told kind q r board dates) f in
          let x = posted-kind kind q r board dates e in
          let p = x.0 in
          ap length (dates-posted kind q r board dates p x.1 e) ∙ days-length p q dates twelve (day-length p q r (posted kind q r board dates p x.1 e).pair)
