-- What pairing tells, and leaves in lent lists, is what a result gives a request; so *one story* holds of it.
-- Assumes nothing.
use Prim.Native.Nat.{ℕ, ◌-◌, ◌<◌}
use mathlib.Core.Bool.{true, false}
use mathlib.Core.List.{List}
use mathlib.Core.Logic.{⊎_elim, ◌↔◌}
use mathlib.Core.Path.{◌≡◌, sym, ◌∙◌, ap}
use native.Mathlib.Nat.{le_refl}
use native.Mathlib.Omega.{arith}
use borrow.Author.Tests.{ltb-true, ltb-false}
use lib.Dec.{ltb}
use lib.ListN.{length, get_or}
use Rattle.laws.proofs.Bools.{either}
use Rattle.laws.proofs.Tabs.{tab-within}
use Rattle.kinds.specs.declared.of_files.Kind.{Kind}
use Rattle.kinds.specs.declared.of_files.Own.{Own}
use Rattle.kinds.specs.declared.of_pairs.PairKind.{PairKind}
use Rattle.std.specs.Prelude.{Some}
use Rattle.kinds.specs.declared.of_pairs.Family.TheVariants.{Debit}
use Rattle.kinds.specs.Pairs.{pair_kind, request_kind, result_kind, pair_of}
use Rattle.answers.proofs.Refusals.{number_of}
use Rattle.records.specs.Records.{data_of}
use Rattle.records.specs.Quantities.{worth, worth_at}
use Rattle.writer.specs.Says.{Bytes}
use Rattle.matching.specs.Matching.{request_for, result_for}
use Rattle.matching.specs.Amounts.{asked_at, taken_at, not_taken_by, not_taken_at}
use Rattle.pair.specs.Pairing.{pair_by, pair_as, list_after, pair_told, taken_after, not_taken_after}
use Rattle.pair.specs.Assigned.{Assignment}
use Rattle.pair.proofs.Keys.{request-found, request-back, result-none}
use Rattle.pair.proofs.Stages.{list-filled}
use Rattle.pair.proofs.Matched.{Paired, pair-known, lent-pair, met-is}
use Rattle.pair.proofs.Exact.{paired-assigned, pair-exact}
use Rattle.pair.proofs.Lent.{list_at}
use Rattle.pair.proofs.Named.{pair-named, taken-named, not-taken-named}
use Rattle.two_results.specs.Same.{SameResults}
use Rattle.two_results.specs.Gives.{Amounts, Gives, Equal}
use Rattle.two_results.proofs.Staged.{pair_read}
use Rattle.two_results.proofs.Lists.{gives_one}
use Rattle.two_results.proofs.Story.{one-story}

module _ (a b : Own) where
  abbrev debit : PairKind
  debit = pair_kind Debit a b

  abbrev kind : Kind
  kind = result_kind debit

  module _ (q r : List ℕ) where
    -- an accepted pair gives the lists of what was taken and what was not
    pub pair-gives : (pair_by debit q r true).number ≡ 0 → Gives debit q r (taken_at debit q r) (not_taken_at debit q r)
    unfolding taken_at not_taken_at not_taken_by asked_at worth_at worth
    pair-gives z = record {
      request = (pair_read debit q r z).request;
      result = (pair_read debit q r z).result;
      headers = known.headers;
      assignment = assignment;
      amounts = λ i h. ⊎_elim (found i h) (missing i h) (either (ltb (result_for debit q r i) (data_of kind r)));
    }
      where
        known : Paired debit q r
        known = pair-known debit q r true z

        assignment : Assignment debit q r
        assignment = paired-assigned debit q r known

        -- each result is assigned to the request that is found for it
        found-for : (j : ℕ) → j < data_of kind r → request_for debit q r j ≡ assignment.to j
        found-for j l = met-is debit q r known.request (assignment.to j) j l (assignment.met j l)

        found : (i : ℕ) → i < data_of (request_kind debit) q → ltb (result_for debit q r i) (data_of kind r) ≡ true → Amounts debit q r assignment.to i (taken_at debit q r i) (not_taken_at debit q r i)
        found i h t =
            let l = ltb-true (result_for debit q r i) (data_of kind r) t in
            rw t (Amounts.failed (result_for debit q r i) l (sym (found-for (result_for debit q r i) l) ∙ request-back debit q r known.request.keys i h l))

        missing : (i : ℕ) → i < data_of (request_kind debit) q → ltb (result_for debit q r i) (data_of kind r) ≡ false → Amounts debit q r assignment.to i (taken_at debit q r i) (not_taken_at debit q r i)
        missing i h f =
            let all : asked_at debit q i - 0 ≡ asked_at debit q i = omega arith in
            rw (f, all)
            (Amounts.whole (λ j l e. result-none debit q r i (ltb-false (result_for debit q r i) (data_of kind r) f) j (rw (found-for j l ∙ e) at (request-found debit q r j l (known.each j l).inside))))

    -- what gives lists is an accepted pair, and these are its lists
    pub gives-pair :
        {taken left : ℕ → ℕ} → Gives debit q r taken left →
        ((pair_by debit q r true).number ≡ 0) × Equal (data_of (request_kind debit) q) taken left (taken_at debit q r) (not_taken_at debit q r)
    gives-pair g = (pairs, gives_one debit q r g (pair-gives pairs))
      where
        n : ℕ
        n = data_of (request_kind debit) q

        pairs : (pair_by debit q r true).number ≡ 0
        pairs = lent-pair debit q r n n (number_of ((pair-exact debit q r g.request g.result g.headers n n (le_refl n) (le_refl n)).1 g.assignment))

  -- *One story* of what pairing leaves in two lent lists, whatever they held
  pub one-story-told :
      (number : ℕ) → pair_of number ≡ Some debit → (q r s taken notTaken : List ℕ) → Bytes r → Bytes s →
      (pair_told number q r (length taken) (length notTaken)).number ≡ 0 → (pair_told number q s (length taken) (length notTaken)).number ≡ 0 →
      ((taken_after number q r (length taken) (length notTaken) taken ≡ taken_after number q s (length taken) (length notTaken) taken) ×
      (not_taken_after number q r (length taken) (length notTaken) notTaken ≡ not_taken_after number q s (length taken) (length notTaken) notTaken)) ↔
      SameResults kind r s
  one-story-told number named q r s taken notTaken br bs er es =
      rw (
        taken-named number q r debit named (length taken) (length notTaken) taken,
        taken-named number q s debit named (length taken) (length notTaken) taken,
        not-taken-named number q r debit named (length taken) (length notTaken) notTaken,
        not-taken-named number q s debit named (length taken) (length notTaken) notTaken,
      ) (
        λ e. both.0 (λ i h. (same_at (taken_at debit q r) (taken_at debit q s) taken e.0 i h, same_at (not_taken_at debit q r) (not_taken_at debit q s) notTaken e.1 i h)),
        λ e. (all_same (taken_at debit q r) (taken_at debit q s) taken (λ i h. (both.1 e i h).0), all_same (not_taken_at debit q r) (not_taken_at debit q s) notTaken (λ i h. (both.1 e i h).1)),
      )
    where
      n : ℕ
      n = data_of (request_kind debit) q

      good : (pair_as debit q r (length taken) (length notTaken)).number ≡ 0
      good = rw (pair-named number q r debit named (length taken) (length notTaken)) at er

      fine : (pair_as debit q s (length taken) (length notTaken)).number ≡ 0
      fine = rw (pair-named number q s debit named (length taken) (length notTaken)) at es

      both : Equal n (taken_at debit q r) (not_taken_at debit q r) (taken_at debit q s) (not_taken_at debit q s) ↔ SameResults kind r s
      both = one-story a b q r s (pair-gives q r (lent-pair debit q r (length taken) (length notTaken) good)) (pair-gives q s (lent-pair debit q s (length taken) (length notTaken) fine)) br bs

      same_at :
          (f g : ℕ → ℕ) (l : List ℕ) → list_after (pair_as debit q r (length taken) (length notTaken)) f n l ≡ list_after (pair_as debit q s (length taken) (length notTaken)) g n l →
          (i : ℕ) → i < n → f i ≡ g i
      same_at f g l e i h =
          sym (list_at (pair_as debit q r (length taken) (length notTaken)) f n l good i h) ∙
          (ap (λ (x : List ℕ). get_or x i 0) e ∙ list_at (pair_as debit q s (length taken) (length notTaken)) g n l fine i h)

      all_same :
          (f g : ℕ → ℕ) (l : List ℕ) → ((i : ℕ) → i < n → f i ≡ g i) →
          list_after (pair_as debit q r (length taken) (length notTaken)) f n l ≡ list_after (pair_as debit q s (length taken) (length notTaken)) g n l
      all_same f g l e = rw (list-filled (pair_as debit q r (length taken) (length notTaken)) f n l good, list-filled (pair_as debit q s (length taken) (length notTaken)) g n l fine, tab-within f g n e)
