-- The stages of the comparison, one after the other.
-- Assumes nothing.
use Prim.Native.Nat.{ℕ}
use mathlib.Core.Bool.{true}
use mathlib.Core.List.{List}
use mathlib.Core.Path.{◌≡◌, ◌∙◌, ap}
use Rattle.answers.specs.declared.told.Answer.{Answer}
use Rattle.answers.specs.declared.of_two.OfResults.{OfResults}
use Rattle.answers.specs.declared.of_two.OfResults.TheVariants.{WithFirst, WithSecond}
use Rattle.answers.specs.Answers.{accepted}
use Rattle.answers.specs.OfTwo.{Story, refused_story}
use Rattle.answers.proofs.Tellings.{two-refuses}
use Rattle.answers.proofs.Refusals.{refuses-is, refuses-not}
use Rattle.reader.proofs.Exact.{read-exact}
use Rattle.kinds.specs.declared.of_pairs.PairKind.{PairKind}
use Rattle.kinds.specs.declared.of_pairs.Family.{Family}
use Rattle.kinds.specs.declared.of_pairs.Family.TheVariants.{Debit}
use Rattle.kinds.specs.Pairs.{request_kind, result_kind}
use Rattle.pair.specs.Pairing.{pair_by}
use Rattle.pair.specs.First.{BothRead}
use Rattle.pair.proofs.Matched.{pair-known}
use Rattle.two_results.specs.Comparing.{story, first_other, story_as, story_in}

-- of an accepted pair both files are accepted
pub pair_read : (p : PairKind) (q r : List ℕ) → (pair_by p q r true).number ≡ 0 → BothRead p q r
pair_read p q r e =
    let known = pair-known p q r true e in
    record { request = (read-exact (request_kind p) q).1 known.request; result = (read-exact (result_kind p) r).1 known.result }

-- a refusal of a pair is told of no accepted one
pub bad-story : (x : OfResults) (a : Answer) (which : ℕ) → refused_story x ≡ story a which 0 → a.number ≡ 0 → ⊥
bad-story (WithFirst t) a which e z = two-refuses t (ap (λ (s : Story). s.answer.number) e ∙ z)
bad-story (WithSecond t) a which e z = two-refuses t (ap (λ (s : Story). s.answer.number) e ∙ z)

module _ (p : PairKind) (q r s : List ℕ) where
  pub story-debit : p.family ≡ Debit → story_in p.family p q r s ≡ story_as p q r s
  story-debit e = ap (λ (f : Family). story_in f p q r s) e

  pub story-first : ((pair_by p q r true).number ≡ 0 → ⊥) → story_as p q r s ≡ story (pair_by p q r true) 1 0
  unfolding story_as
  story-first ne = rw (refuses-is (pair_by p q r true) ne)

  module _ (good : (pair_by p q r true).number ≡ 0) where
    pub story-second : ((pair_by p q s true).number ≡ 0 → ⊥) → story_as p q r s ≡ story (pair_by p q s true) 2 0
    unfolding story_as
    story-second ne = rw (refuses-not (pair_by p q r true) good, refuses-is (pair_by p q s true) ne)

    pub story-both : (pair_by p q s true).number ≡ 0 → story_as p q r s ≡ story accepted 0 (first_other p q r s)
    unfolding story_as
    story-both fine = rw (refuses-not (pair_by p q r true) good, refuses-not (pair_by p q s true) fine)
