-- What the text says of an accepted pair: each line what became of its request, the first line the sums over all of them.
-- Assumes nothing.
use Prim.Native.Nat.{ℕ, ◌+◌, ◌-◌, ◌≤◌, ◌<◌}
use mathlib.Core.Bool.{true}
use mathlib.Core.List.{List, ◌++◌}
use mathlib.Core.Path.{◌≡◌, sym, ◌∙◌}
use mathlib.Core.Logic.{⊎_elim}
use native.Mathlib.Omega.{arith}
use borrow.Author.Tests.{le-leb, lt-leb, ltb-false}
use lib.Dec.{ltb}
use lib.ListN.{length, drop}
use Rattle.laws.proofs.Sums.{sum-add}
use Rattle.laws.proofs.Bools.{either}
use Rattle.kinds.specs.Kinds.{EB21}
use Rattle.answers.specs.declared.told.Answer.{Answer}
use Rattle.answers.specs.Answers.{◌then◌}
use Rattle.answers.proofs.Refusals.{refuses-is, refuses-not, then-first, then-second, then-zero}
use Rattle.records.specs.Records.{count_of, data_of}
use Rattle.kinds.specs.Pairs.{debit_pair}
use Rattle.matching.specs.Amounts.{asked_at, taken_at, not_taken_at}
use Rattle.outcomes.specs.Outcomes.{asks_for, outcome_as}
use Rattle.pair.specs.Pairing.{pair_by}
use Rattle.outcomes.specs.Sums.{sums_of}
use Rattle.pair.proofs.Matched.{Paired, pair-known}
use Rattle.pair.proofs.Money.{each-request}
use Rattle.posting.specs.Lines.{refusal_line, request_line}
use Rattle.posting.specs.Posting.{most, requests, size_tells, post_tells, line_at, accepted_text, post_text, post_size, post_after}

-- a file that is not refused for its size, and how many requests it has
size-taken : (side : ℕ) (s : List ℕ) → (size_tells side s).number ≡ 0 → length s ≤ most
unfolding size_tells
size-taken side s e = ⊎_elim (λ t. absurd (omega (arith, rw t at e))) (λ f. ltb-false most (length s) f) (either (ltb most (length s)))

pub requests-few : (s : List ℕ) → length s ≤ most → data_of EB21 s ≤ requests
unfolding count_of
requests-few s h = omega (arith, h)

module _ (q r : List ℕ) where
  -- the stages: the request's size, the result's, the pair
  pub by-request-size : ((size_tells 1 q).number ≡ 0 → ⊥) → post_tells q r ≡ size_tells 1 q
  unfolding post_tells
  by-request-size ne = then-first (size_tells 1 q) _ ne

  module _ (good : (size_tells 1 q).number ≡ 0) where
    pub by-result-size : ((size_tells 2 r).number ≡ 0 → ⊥) → post_tells q r ≡ size_tells 2 r
    unfolding post_tells
    by-result-size ne = then-second (size_tells 1 q) _ good ∙ then-first (size_tells 2 r) _ ne

    pub by-pair : (size_tells 2 r).number ≡ 0 → post_tells q r ≡ pair_by debit_pair q r true
    unfolding post_tells
    by-pair fine = then-second (size_tells 1 q) _ good ∙ then-second (size_tells 2 r) _ fine

  -- the two texts
  pub text-refused : (a : Answer) → a ≡ post_tells q r → (a.number ≡ 0 → ⊥) → post_text q r ≡ refusal_line a
  unfolding post_text
  text-refused a e ne = rw (← e, refuses-is a ne)

  pub text-accepted : (a : Answer) → a ≡ post_tells q r → a.number ≡ 0 → post_text q r ≡ accepted_text q r
  unfolding post_text
  text-accepted a e z = rw (← e, refuses-not a z)

  -- the buffer where the text fits, and where it is longer
  pub size_fits : (room : ℕ) → length (post_text q r) ≤ room → post_size q r room ≡ length (post_text q r)
  unfolding post_size
  size_fits room h = rw (le-leb (length (post_text q r)) room h)

  pub size-short : (room : ℕ) → room < length (post_text q r) → post_size q r room ≡ 0
  unfolding post_size
  size-short room h = rw (lt-leb (length (post_text q r)) room h)

  pub after-fits : (text : List ℕ) → length (post_text q r) ≤ length text → post_after q r text ≡ post_text q r ++ drop (length (post_text q r)) text
  unfolding post_after
  after-fits text h = rw (le-leb (length (post_text q r)) (length text) h)

  pub after-short : (text : List ℕ) → length text < length (post_text q r) → post_after q r text ≡ text
  unfolding post_after
  after-short text h = rw (lt-leb (length (post_text q r)) (length text) h)

  -- where nothing is refused neither file is too long, and the pair is accepted
  pub posted-short : (a : Answer) → a ≡ post_tells q r → a.number ≡ 0 → length q ≤ most
  unfolding post_tells
  posted-short a e z = size-taken 1 q (then-zero (size_tells 1 q) (size_tells 2 r then pair_by debit_pair q r true) (rw e at z)).0

  pub posted-pair : (post_tells q r).number ≡ 0 → (pair_by debit_pair q r true).number ≡ 0
  unfolding post_tells
  posted-pair e =
      let a = then-zero (size_tells 1 q) (size_tells 2 r then pair_by debit_pair q r true) e in
      (then-zero (size_tells 2 r) (pair_by debit_pair q r true) a.1).1

  pub posted-known : (a : Answer) → a ≡ post_tells q r → a.number ≡ 0 → Paired debit_pair q r
  posted-known a e z = pair-known debit_pair q r true (posted-pair (rw e at z))

  -- *Posted sums*: the first line's sums are over all requests, and what was asked is what was taken and what was not
  pub posted-sums : (post_tells q r).number ≡ 0 → (sums_of debit_pair q r).asked ≡ (sums_of debit_pair q r).taken + (sums_of debit_pair q r).not_taken
  unfolding sums_of
  posted-sums e =
      sum-add (taken_at debit_pair q r) (not_taken_at debit_pair q r) (asked_at debit_pair q) (data_of EB21 q)
      (λ i l. sym (each-request debit_pair q r true (posted-pair e) i l))

  -- *Posted lines*: each line says what `outcome` says of its request
  pub posted-line : (post_tells q r).number ≡ 0 → (i : ℕ) → i < data_of EB21 q → line_at q r i ≡ request_line (i + 1) (outcome_as debit_pair q r (i + 1)).outcome
  unfolding line_at outcome_as asks_for
  posted-line e i h =
      let less : (i + 1) - 1 ≡ i = omega arith in
      rw (refuses-not (pair_by debit_pair q r true) (posted-pair e), le-leb 1 (i + 1) (omega arith), le-leb (i + 1) (data_of EB21 q) (omega arith), less)
