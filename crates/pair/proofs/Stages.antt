-- The stages of a pair, one after the other.
-- Assumes nothing.
use Prim.Native.Nat.{ℕ, ◌≤◌}
use mathlib.Core.Bool.{Bool, true, false}
use mathlib.Core.List.{List, ◌++◌}
use mathlib.Core.Logic.{⊎_elim}
use mathlib.Core.Path.{◌≡◌, refl, ◌∙◌, ap}
use native.Mathlib.Omega.{arith}
use borrow.Author.Tests.{leb-true, eq-eqb, ne_eqb}
use lib.Dec.{leb}
use lib.ListN.{drop}
use Rattle.laws.specs.Tabulate.{tabulate}
use Rattle.laws.proofs.Bools.{and_left, and_right, either}
use Rattle.kinds.specs.declared.of_files.Kind.{Kind}
use Rattle.answers.specs.declared.told.Answer.{Answer}
use Rattle.answers.specs.Answers.{accepted, refused, ◌then◌, on_side}
use Rattle.answers.proofs.Refusals.{then-first, then-second, then-zero, number_of}
use Rattle.records.specs.Records.{data_of}
use Rattle.reader.specs.Reading.{read_as}
use Rattle.kinds.specs.declared.of_pairs.PairKind.{PairKind}
use Rattle.kinds.specs.Pairs.{request_kind, result_kind}
use Rattle.agreement.specs.Meeting.{headers_tell}
use Rattle.pair.specs.Results.{results_tell}
use Rattle.pair.specs.Pairing.{room_tells, pair_by, lists_fit, pair_as, list_after}

-- the number of an answer that reading gave for what is this kind
pub read_number : (kind k : Kind) (s : List ℕ) (a : Answer) → k ≡ kind → a ≡ read_as k s → a.number ≡ (read_as kind s).number
read_number kind k s a is told = number_of (told ∙ ap (λ (x : Kind). read_as x s) is)

module _ (p : PairKind) (q r : List ℕ) (fits : Bool) where
  pub by-request : ((read_as (request_kind p) q).number ≡ 0 → ⊥) → pair_by p q r fits ≡ on_side 1 (read_as (request_kind p) q)
  unfolding pair_by
  by-request ne = then-first (on_side 1 (read_as (request_kind p) q)) _ ne

  module _ (good : (read_as (request_kind p) q).number ≡ 0) where
    pub by_result : ((read_as (result_kind p) r).number ≡ 0 → ⊥) → pair_by p q r fits ≡ on_side 2 (read_as (result_kind p) r)
    unfolding pair_by
    by_result ne = then-second (on_side 1 (read_as (request_kind p) q)) _ good ∙ then-first (on_side 2 (read_as (result_kind p) r)) _ ne

    module _ (fine : (read_as (result_kind p) r).number ≡ 0) where
      both_read : pair_by p q r fits ≡ (headers_tell p q r then room_tells fits then results_tell p q r)
      unfolding pair_by
      both_read = then-second (on_side 1 (read_as (request_kind p) q)) _ good ∙ then-second (on_side 2 (read_as (result_kind p) r)) _ fine

      pub by-headers : ((headers_tell p q r).number ≡ 0 → ⊥) → pair_by p q r fits ≡ headers_tell p q r
      by-headers ne = both_read ∙ then-first (headers_tell p q r) _ ne

      module _ (agree : (headers_tell p q r).number ≡ 0) where
        pub by-room : fits ≡ false → pair_by p q r fits ≡ refused 8
        unfolding room_tells
        by-room f = both_read ∙ (then-second (headers_tell p q r) _ agree ∙ rw f (then-first (refused 8) (results_tell p q r) (λ z. absurd (omega arith))))

        pub by-results : fits ≡ true → pair_by p q r fits ≡ results_tell p q r
        unfolding room_tells
        by-results t = both_read ∙ (then-second (headers_tell p q r) _ agree ∙ rw t (then-second accepted (results_tell p q r) refl))

  -- a pair is accepted only where the lists fit
  pub pair_fits : (pair_by p q r fits).number ≡ 0 → fits ≡ true
  unfolding pair_by room_tells
  pair_fits e = ⊎_elim (λ t. t) short (either fits)
    where
      short : fits ≡ false → fits ≡ true
      short f =
          let a = then-zero (on_side 1 (read_as (request_kind p) q)) (on_side 2 (read_as (result_kind p) r) then headers_tell p q r then room_tells fits then results_tell p q r) e in
          let b = then-zero (on_side 2 (read_as (result_kind p) r)) (headers_tell p q r then room_tells fits then results_tell p q r) a.1 in
          let c = then-zero (headers_tell p q r) (room_tells fits then results_tell p q r) b.1 in
          let d = then-zero (room_tells fits) (results_tell p q r) c.1 in
          absurd (let z : ◌≡◌ {A = ℕ} 8 0 = rw f at d.0 in omega arith)

-- what it is that they fit
pub lists-fit-is : (n a b : ℕ) → lists_fit n a b ≡ true → (n ≤ a) × (n ≤ b)
unfolding lists_fit
lists-fit-is n a b t = (leb-true n a (and_left (leb n a) (leb n b) t), leb-true n b (and_right (leb n a) (leb n b) t))

-- the same from what was worked out on the way: the request's kind, its number of requests, and whether the lists fit
module _ (p : PairKind) (q r : List ℕ) (a b n : ℕ) (k : Kind) (fits : Bool) (kind : k ≡ request_kind p) (count : n ≡ data_of k q) (room : fits ≡ lists_fit n a b) where
  pub lent_fits : fits ≡ true → (data_of (request_kind p) q ≤ a) × (data_of (request_kind p) q ≤ b)
  lent_fits t = lists-fit-is (data_of (request_kind p) q) a b (rw (← kind, ← count, ← room) t)

  pub lent-told : (x : Answer) → x ≡ pair_by p q r fits → x ≡ pair_as p q r a b
  unfolding pair_as
  lent-told x e = rw (← kind, ← count, ← room) e

-- a lent list afterwards
pub list-filled : (a : Answer) (f : ℕ → ℕ) (n : ℕ) (l : List ℕ) → a.number ≡ 0 → list_after a f n l ≡ tabulate f n ++ drop n l
unfolding list_after
list-filled a f n l e = rw (eq-eqb a.number 0 e)

pub list-kept : (a : Answer) (f : ℕ → ℕ) (n : ℕ) (l : List ℕ) → (a.number ≡ 0 → ⊥) → list_after a f n l ≡ l
unfolding list_after
list-kept a f n l ne = rw (ne_eqb a.number 0 ne)
