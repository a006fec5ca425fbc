-- What the outcome says of a request is what the lists say of it.
-- Assumes nothing.
use Prim.Native.Nat.{ℕ, ◌-◌, ◌≤◌, ◌<◌}
use mathlib.Core.Bool.{Bool, true, false}
use mathlib.Core.List.{List, [], ◌∷◌}
use mathlib.Core.Path.{◌≡◌, refl, sym, ◌∙◌}
use mathlib.Core.Logic.{⊎_elim}
use native.Mathlib.Omega.{arith}
use borrow.Author.Tests.{ltb-true, ltb-false, leb-true, le-leb, ne_eqb}
use lib.Dec.{leb, ltb}
use lib.ListN.{get_or}
use Rattle.laws.proofs.Bools.{and_left, and_right, either}
use Rattle.kinds.specs.declared.of_files.Kind.{Kind}
use Rattle.tables.specs.Makers.{maker_of, maker_number}
use Rattle.kinds.specs.Kinds.{limit}
use Rattle.answers.specs.Answers.{accepted}
use Rattle.answers.proofs.Refusals.{refuses-not}
use Rattle.records.specs.Records.{data_of}
use Rattle.records.specs.Quantities.{worth_at}
use Rattle.reader.specs.Meets.{Lengths}
use Rattle.kinds.specs.declared.of_pairs.PairKind.{PairKind}
use Rattle.kinds.specs.Pairs.{request_kind, result_kind}
use Rattle.agreement.specs.Marks.{mark_in, code_in}
use Rattle.agreement.specs.Same.{result_at}
use Rattle.pair.proofs.Marks.{result-mark}
use Rattle.pair.proofs.Possible.{possible-all}
use Rattle.matching.specs.Matching.{result_for}
use Rattle.matching.specs.Amounts.{asked_at, taken_at, not_taken_by, not_taken_at}
use Rattle.pair.specs.Pairing.{pair_by, pair_as, list_after}
use Rattle.pair.proofs.Lent.{list_at}
use Rattle.pair.proofs.Keys.{result-found, result-none}
use Rattle.pair.proofs.Matched.{Paired, pair-known, lent-pair, result-met}
use Rattle.outcomes.specs.Outcomes.{numbers_of, told, failed_by, outcome_at, asks_for, outcome_as}
use Rattle.outcomes.specs.Listed.{OutcomeSays, Listed}

module _ (p : PairKind) (q r : List ℕ) (i : ℕ) where
  -- request i + 1 has a result, and its mark
  abbrev pub answered : Bool
  answered = ltb (result_for p q r i) (data_of (result_kind p) r)

  abbrev mark : ℕ
  mark = mark_in p (result_at p r (result_for p q r i))

  -- where it has none, nothing was not taken
  none_left : answered ≡ false → not_taken_at p q r i ≡ 0
  unfolding not_taken_at not_taken_by
  none_left f = rw f

  all-taken : answered ≡ false → taken_at p q r i ≡ asked_at p q i
  unfolding taken_at
  all-taken f = omega (arith, none_left f)

  module _ (x : Paired p q r) (h : i < data_of (request_kind p) q) where
    -- where it is marked "N", nothing was taken
    all_left : answered ≡ true → mark ≡ 0x4E → not_taken_at p q r i ≡ asked_at p q i
    unfolding not_taken_at not_taken_by asked_at worth_at
    all_left t n = rw t (possible-all p (result-met p q r x i h (ltb-true _ _ t)).possible n)

    none-taken : answered ≡ true → mark ≡ 0x4E → taken_at p q r i ≡ 0
    unfolding taken_at
    none-taken t n = omega (arith, all_left t n)

    abbrev Says : Type 0
    Says = OutcomeSays p q r i (numbers_of (outcome_at p q r i))

    outcome-says : Says
    unfolding outcome_at failed_by
    outcome-says = ⊎_elim some none (either answered)
      where
        part : answered ≡ true → mark ≡ 0x50 → Says
        part t m = rw (t, m) (OutcomeSays.part (result_for p q r i) (result-found p q r i h (ltb-true _ _ t)) m)

        refused : answered ≡ true → mark ≡ 0x4E → Says
        refused t m =
            let code = code_in p (result_at p r (result_for p q r i)) in
            let s : OutcomeSays p q r i (3 ∷ taken_at p q r i ∷ not_taken_at p q r i ∷ code ∷ maker_number (maker_of code) ∷ []) = OutcomeSays.refused (result_for p q r i) (result-found p q r i h (ltb-true _ _ t)) m in
            rw (t, ne_eqb mark 0x50 (λ z. absurd (omega arith))) (rw (none-taken t m) at s)

        some : answered ≡ true → Says
        some t = ⊎_elim (refused t) (part t) (result-mark p r x.result (result_for p q r i) (ltb-true _ _ t))

        none : answered ≡ false → Says
        none f =
            let s : OutcomeSays p q r i (1 ∷ taken_at p q r i ∷ not_taken_at p q r i ∷ 0x20202020 ∷ 0 ∷ []) = OutcomeSays.whole (result-none p q r i (ltb-false _ _ f)) in
            rw f (rw (all-taken f, none_left f) at s)

-- *One outcome*: the amounts are the lists', the code and its maker are the result's, and the case is what the result's mark says
pub one-outcome :
    (p : PairKind) (q r : List ℕ) (fits : Bool) → (pair_by p q r fits).number ≡ 0 →
    (i : ℕ) → i < data_of (request_kind p) q → OutcomeSays p q r i (numbers_of (outcome_at p q r i))
one-outcome p q r fits e i h = outcome-says p q r i (pair-known p q r fits e) h

-- the amounts alone
said-taken : (p : PairKind) (q r : List ℕ) (i : ℕ) (l : List ℕ) → OutcomeSays p q r i l → get_or l 1 0 ≡ taken_at p q r i
said-taken p q r i l (OutcomeSays.whole n) = refl
said-taken p q r i l (OutcomeSays.part j x m) = refl
said-taken p q r i l (OutcomeSays.refused j x m) = refl

said-left : (p : PairKind) (q r : List ℕ) (i : ℕ) (l : List ℕ) → OutcomeSays p q r i l → get_or l 2 0 ≡ not_taken_at p q r i
said-left p q r i l (OutcomeSays.whole n) = refl
said-left p q r i l (OutcomeSays.part j x m) = refl
said-left p q r i l (OutcomeSays.refused j x m) = refl

-- a request that is asked for is one of them
pub asks-for-is : (n rec : ℕ) → asks_for n rec ≡ true → (1 ≤ rec) × (rec ≤ n)
unfolding asks_for
asks-for-is n rec t = (leb-true 1 rec (and_left (leb 1 rec) (leb rec n) t), leb-true rec n (and_right (leb 1 rec) (leb rec n) t))

-- one that is asked for of an accepted pair: it is inside, and both files have as many records as they may
pub record Asked (p : PairKind) (q r : List ℕ) (rec : ℕ) : Type 0 where
  pub requests : Lengths (request_kind p) q
  pub results : Lengths (result_kind p) r
  pub inside : rec - 1 < data_of (request_kind p) q
  pub below : rec - 1 < limit

-- from what was worked out on the way: the request's kind, its number of requests, and whether it is asked for
pub asked-for :
    (p : PairKind) (q r : List ℕ) (rec : ℕ) (k : Kind) (n : ℕ) (asks : Bool) →
    (pair_by p q r true).number ≡ 0 → k ≡ request_kind p → n ≡ data_of k q → asks ≡ asks_for n rec → asks ≡ true → Asked p q r rec
asked-for p q r rec k n asks zero kind count is t =
    let known = pair-known p q r true zero in
    let asked = asks-for-is (data_of (request_kind p) q) rec (rw (← kind, ← count, ← is) t) in
    record {
      requests = known.request.lengths;
      results = known.result.lengths;
      inside = omega (arith, asked.0, asked.1);
      below = omega (arith, asked.0, asked.1, known.request.lengths.most);
    }

module _ (p : PairKind) (q r : List ℕ) (rec : ℕ) (first : 1 ≤ rec) (last : rec ≤ data_of (request_kind p) q) where
  -- one of the requests, asked for by its record
  pub outcome-asked : (pair_by p q r true).number ≡ 0 → outcome_as p q r rec ≡ told accepted (outcome_at p q r (rec - 1))
  unfolding outcome_as asks_for
  outcome-asked e = rw (refuses-not (pair_by p q r true) e, le-leb 1 rec first, le-leb rec (data_of (request_kind p) q) last)

  -- so what is asked for one request agrees with the lists that were lent for all
  pub outcome-listed :
      (taken notTaken : ℕ) → (pair_as p q r taken notTaken).number ≡ 0 → (l m : List ℕ) →
      Listed (outcome_as p q r rec) (list_after (pair_as p q r taken notTaken) (taken_at p q r) (data_of (request_kind p) q) l)
      (list_after (pair_as p q r taken notTaken) (not_taken_at p q r) (data_of (request_kind p) q) m) (rec - 1)
  outcome-listed taken notTaken e l m =
      let a = pair_as p q r taken notTaken in
      let n = data_of (request_kind p) q in
      let g = lent-pair p q r taken notTaken e in
      let s = one-outcome p q r true g (rec - 1) (omega arith) in
      rw (outcome-asked g) (record {
        answer = refl;
        took = said-taken p q r (rec - 1) _ s ∙ sym (list_at a (taken_at p q r) n l e (rec - 1) (omega arith));
        left = said-left p q r (rec - 1) _ s ∙ sym (list_at a (not_taken_at p q r) n m e (rec - 1) (omega arith));
      })
