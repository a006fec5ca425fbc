-- What the comparison tells: the first request in which the lists differ, and 0 exactly where both results tell one story.
-- Assumes nothing.
use Prim.Native.Nat.{ℕ, ◌+◌, ◌<◌}
use mathlib.Core.Bool.{true, false}
use mathlib.Core.List.{List}
use mathlib.Core.Logic.{⊎_elim, ◌↔◌}
use mathlib.Core.Path.{◌≡◌, refl, sym, ◌∙◌, ap}
use native.Mathlib.Nat.{eq-or-lt_of_le}
use native.Mathlib.Omega.{arith}
use borrow.Author.Tests.{eqb-true, not-false}
use lib.Dec.{eqb}
use Rattle.laws.specs.Least.{least}
use Rattle.laws.proofs.Bools.{and_left, and_right, either, clash}
use Rattle.laws.proofs.Leasts.{Least, least-is, least-none, number-here, number-none}
use Rattle.kinds.specs.declared.of_files.Kind.{Kind}
use Rattle.kinds.specs.declared.of_files.Own.{Own}
use Rattle.kinds.specs.declared.of_pairs.PairKind.{PairKind}
use Rattle.std.specs.Prelude.{Option, Some, None}
use Rattle.kinds.specs.declared.of_pairs.Family.{Family}
use Rattle.kinds.specs.declared.of_pairs.Family.TheVariants.{Enrolment, Debit}
use Rattle.kinds.specs.Pairs.{pair_kind, request_kind, result_kind, pair_of}
use Rattle.answers.specs.OfTwo.{Story}
use Rattle.answers.specs.Answers.{accepted, refuses}
use Rattle.answers.proofs.Refusals.{refuses-zero, refuses-other}
use Rattle.records.specs.Records.{data_of}
use Rattle.writer.specs.Says.{Bytes}
use Rattle.matching.specs.Amounts.{taken_at, not_taken_at}
use Rattle.pair.specs.Pairing.{pair_by}
use Rattle.two_results.specs.Comparing.{story, same_at, other_at, first_other, story_as, story_in, story_named, story_told}
use Rattle.two_results.specs.Same.{SameResults}
use Rattle.two_results.specs.Gives.{Gives, Equal}
use Rattle.two_results.specs.Says.{Says}
use Rattle.two_results.proofs.Firsts.{other-false, other-here, other_none}
use Rattle.two_results.proofs.Staged.{story-first, story-second, story-both}
use Rattle.two_results.proofs.Story.{one-story}
use Rattle.two_results.proofs.Told.{pair-gives, gives-pair}

module _ (a b : Own) (q r s : List ℕ) where
  abbrev debit : PairKind
  debit = pair_kind Debit a b

  abbrev kind : Kind
  kind = result_kind debit

  abbrev n : ℕ
  n = data_of (request_kind debit) q

  -- the lists of both pairs are equal at each of so many requests
  abbrev Alike : ℕ → Type 0
  Alike m = Equal m (taken_at debit q r) (not_taken_at debit q r) (taken_at debit q s) (not_taken_at debit q s)

  -- at one request they are, or they are not
  alike_at : (i : ℕ) → other_at debit q r s i ≡ false → (taken_at debit q r i ≡ taken_at debit q s i) × (not_taken_at debit q r i ≡ not_taken_at debit q s i)
  unfolding other_at same_at
  alike_at i f =
      let t = not-false (same_at debit q r s i) f in
      (eqb-true _ _ (and_left (eqb (taken_at debit q r i) (taken_at debit q s i)) _ t), eqb-true _ _ (and_right (eqb (taken_at debit q r i) (taken_at debit q s i)) _ t))

  -- the first request at which they are not, from 1; 0 where there is none
  first : Least (other_at debit q r s) n (least (other_at debit q r s) n)
  first = least-is (other_at debit q r s) n

  alike-zero : Alike n → first_other debit q r s ≡ 0
  alike-zero e = sym (other_none debit q r s (least-none (other_at debit q r s) n (λ i h. other-false debit q r s i (e i h).1)))

  zero-alike : first_other debit q r s ≡ 0 → Alike n
  unfolding first_other
  zero-alike z i h = alike_at i (⊎_elim (λ e. first.before i (rw e h)) (λ l. absurd (omega (arith, sym (number-here n (least (other_at debit q r s) n) l) ∙ z))) (eq-or-lt_of_le first.within))

  module _ (number : ℕ) (named : pair_of number ≡ Some debit) where
    -- where both pairs are accepted
    module _ (good : (pair_by debit q r true).number ≡ 0) (fine : (pair_by debit q s true).number ≡ 0) where
      says_both : Says number q r s (story accepted 0 (first_other debit q r s))
      unfolding first_other
      says_both = ⊎_elim same other (eq-or-lt_of_le first.within)
        where
          same : least (other_at debit q r s) n ≡ n → Says number q r s (story accepted 0 (first_other debit q r s))
          same e =
              rw (e, number-none n)
              (Says.equal a b named (pair-gives a b q r good) (pair-gives a b q s fine) (λ i h. alike_at i (first.before i (rw e h))))

          other : least (other_at debit q r s) n < n → Says number q r s (story accepted 0 (first_other debit q r s))
          other l =
              rw (number-here n (least (other_at debit q r s) n) l)
              (Says.differ a b named (pair-gives a b q r good) (pair-gives a b q s fine) (least (other_at debit q r s) n) l
              (λ e. clash (first.holds l) (other-false debit q r s (least (other_at debit q r s) n) e.1)) (λ i h. alike_at i (first.before i h)))

    says-debit : Says number q r s (story_as debit q r s)
    says-debit = ⊎_elim bad good (either (refuses (pair_by debit q r true)))
      where
        bad : refuses (pair_by debit q r true) ≡ true → Says number q r s (story_as debit q r s)
        bad t =
            let ne = refuses-other (pair_by debit q r true) t in
            rw (story-first debit q r s ne) (Says.first a b named ne)

        good : refuses (pair_by debit q r true) ≡ false → Says number q r s (story_as debit q r s)
        good f =
            let z = refuses-zero (pair_by debit q r true) f in
            ⊎_elim
            (λ t. let ne = refuses-other (pair_by debit q s true) t in rw (story-second debit q r s z ne) (Says.second a b named (pair-gives a b q r z) ne))
            (λ g. let y = refuses-zero (pair_by debit q s true) g in rw (story-both debit q r s z y) (says_both z y))
            (either (refuses (pair_by debit q s true)))

    told-debit : story_told number q r s ≡ story_as debit q r s
    unfolding story_told
    told-debit = rw named

    -- *One story* by the comparison: where both pairs are accepted it names no request exactly when both hold the same results in some order
    pub told_same :
        Bytes r → Bytes s → (pair_by debit q r true).number ≡ 0 → (pair_by debit q s true).number ≡ 0 → ((story_told number q r s).request ≡ 0) ↔ SameResults kind r s
    told_same br bs good fine =
        let same = one-story a b q r s (pair-gives a b q r good) (pair-gives a b q s fine) br bs in
        rw (told-debit, story-both debit q r s good fine) (λ z. same.0 (zero-alike z), λ e. alike-zero (same.1 e))

    -- what is said is what is told
    said-first : ((pair_by debit q r true).number ≡ 0 → ⊥) → story (pair_by debit q r true) 1 0 ≡ story_told number q r s
    said-first ne = sym (told-debit ∙ story-first debit q r s ne)

    said-second : {taken left : ℕ → ℕ} → Gives debit q r taken left → ((pair_by debit q s true).number ≡ 0 → ⊥) → story (pair_by debit q s true) 2 0 ≡ story_told number q r s
    said-second g ne = sym (told-debit ∙ story-second debit q r s (gives-pair a b q r g).0 ne)

    module _ {taken left gone kept : ℕ → ℕ} (g : Gives debit q r taken left) (h : Gives debit q s gone kept) where
      -- the lists that are given are those of both pairs
      given-alike : (m : ℕ) → ((i : ℕ) → i < m → i < n) → Equal m taken left gone kept → Alike m
      given-alike m below e i l =
          let x = (gives-pair a b q r g).1 i (below i l) in
          let y = (gives-pair a b q s h).1 i (below i l) in
          (sym x.0 ∙ ((e i l).0 ∙ y.0), sym x.1 ∙ ((e i l).1 ∙ y.1))

      told-both : story_told number q r s ≡ story accepted 0 (first_other debit q r s)
      told-both = told-debit ∙ story-both debit q r s (gives-pair a b q r g).0 (gives-pair a b q s h).0

      said-equal : Equal n taken left gone kept → story accepted 0 0 ≡ story_told number q r s
      said-equal e = sym (told-both ∙ ap (story accepted 0) (alike-zero (given-alike n (λ i l. l) e)))

      said-differ :
          (i : ℕ) → i < n → ((taken i ≡ gone i) × (left i ≡ kept i) → ⊥) → Equal i taken left gone kept → story accepted 0 (i + 1) ≡ story_told number q r s
      unfolding taken_at
      said-differ i l ne e = sym (told-both ∙ ap (story accepted 0) (sym (other-here debit q r s i l before other)))
        where
          before : least (other_at debit q r s) i ≡ i
          before = least-none (other_at debit q r s) i (λ k x. other-false debit q r s k (given-alike i (λ j y. omega arith) e k x).1)

          other : not_taken_at debit q r i ≡ not_taken_at debit q s i → ⊥
          other same =
              let x = (gives-pair a b q r g).1 i l in
              let y = (gives-pair a b q s h).1 i l in
              ne (x.0 ∙ (rw same (sym y.0)), x.1 ∙ (same ∙ sym y.1))

says-in : (number : ℕ) (f : Family) (a b : Own) → pair_of number ≡ Some (pair_kind f a b) → (q r s : List ℕ) → Says number q r s (story_in f (pair_kind f a b) q r s)
says-in number Enrolment a b e q r s = Says.enrolment a b e
says-in number Debit a b e q r s = says-debit a b q r s number e

module _ (number : ℕ) (q r s : List ℕ) where
  says-named : (named : Option PairKind) → pair_of number ≡ named → Says number q r s (story_named named q r s)
  says-named (Some p) e = says-in number p.family p.request p.result e q r s
  says-named None e = Says.unknown e

  -- *The first*: every answer, by its case; the request that is named is the first in which the lists differ
  pub story-says : Says number q r s (story_told number q r s)
  unfolding story_told
  story-says = says-named (pair_of number) refl

  -- *No other*: what can be said is what is told
  pub says-only : (x : Story) → Says number q r s x → x ≡ story_told number q r s
  unfolding story_told
  says-only x (Says.unknown e) = rw e
  says-only x (Says.enrolment a b e) = rw e
  says-only x (Says.first a b e ne) = said-first a b q r s number e ne
  says-only x (Says.second a b e g ne) = said-second a b q r s number e g ne
  says-only x (Says.equal a b e g h same) = said-equal a b q r s number e g h same
  says-only x (Says.differ a b e g h i l ne same) = said-differ a b q r s number e g h i l ne same
