-- *One answer*: any two outcomes that the contract of an entry point allows are equal: the number that it returns, and what
-- each list that it may change holds at exit. `Post` is what the contract's `ensures` say in the source.
-- Assumes nothing.
use Prim.Native.Nat.{ℕ}
use mathlib.Core.List.{List, [], ◌∷◌}
use mathlib.Core.Path.{◌≡◌, refl}
use seplogic.Ra.Ura.{Ura}
use base.Logic.{SProp}
use prog.Memory.{Memory}
use prog.Routine.{Routine}
use types.Logic.{Logic}
use contract.Lifetimes.{Lfts}
use contract.Monad.{Fun, fact}
use borrow.Fn.World.{ArgsD, ResD}
use denote.Triple.Clauses.{AtExit}
use Rattle.laws.proofs.Answers.{one_answer}
use Rattle.cms.proofs.read.cms_read.Reads as read
use Rattle.cms.proofs.write.cms_write.Reads as write
use Rattle.cms.proofs.pairs.cms_pair.Reads as pair
use Rattle.cms.proofs.pairs.cms_outcome.Reads as outcome
use Rattle.cms.proofs.pairs.cms_two_results.Reads as two-results
use Rattle.cms.proofs.walk.cms_walk.Reads as walk
use Rattle.cms.proofs.arrive.cms_part.Reads as part
use Rattle.cms.proofs.arrive.cms_end.Reads as ending
use Rattle.cms.proofs.post.cms_post.Reads as post
use Rattle.cms.proofs.taking.cms_apart.Reads as apart
use Rattle.cms.proofs.of_evidence.cms_evidence_read.Reads as evidence-read
use Rattle.cms.proofs.of_evidence.cms_evidence_part.Reads as evidence-part
use Rattle.cms.proofs.of_evidence.cms_evidence_write.Reads as evidence-write
use Rattle.cms.proofs.of_evidence.cms_evidence_compare.Reads as evidence-compare
use Rattle.cms.proofs.of_evidence.cms_signed.Reads as signed
use Rattle.cms.proofs.of_days.cms_day_read.Reads as day-read
use Rattle.cms.proofs.of_days.cms_day_body.Reads as day-body
use Rattle.cms.proofs.of_days.cms_day_write.Reads as day-write
use Rattle.cms.specs.contracts.of_boards.cms_board_post as board-post
use Rattle.cms.proofs.of_changes.cms_write_eb12.Reads as write-eb12
use Rattle.payers.specs.declared.members.Member.{Member}
use Rattle.dues.specs.Posting.{board_told, board_after, dates_after}
use Rattle.telling.specs.Numbers.{five}

-- what a caller sees of a call: the number that it returns, and what each list that it may change holds at exit
pub record Seen : Type 0 where
  pub returned : ℕ
  pub lists : List (List ℕ)

abbrev pub sees : ℕ → List (List ℕ) → Seen
sees r ls = record { returned = r; lists = ls }

-- a contract, at lifetimes, of the arguments, the result and the parameters at exit; and what is seen of the last two
module _ {K O : Type 0} {X R S : K → Type 0} (Post : (κ : K) → X κ → R κ → S κ → Type 0) (seen : (κ : K) → R κ → S κ → O) where
  -- of the same arguments it allows one outcome
  abbrev pub Alike : Type 0
  Alike = (κ : K) (x : X κ) (r t : R κ) (s u : S κ) → Post κ x r s → Post κ x t u → seen κ r s ≡ seen κ t u

  -- so it does where it says what is seen
  alike : (f : (κ : K) → X κ → O) → ((κ : K) (x : X κ) (r : R κ) (s : S κ) → Post κ x r s → seen κ r s ≡ f κ x) → Alike
  alike f says κ x r t s u p q = one_answer (f κ) x (seen κ r s) (seen κ t u) (says κ x r s p) (says κ x t u q)

-- what it says of the number and of each list
infixr 5 ◌with◌
◌with◌ : {r t : ℕ} {ls ms : List (List ℕ)} → r ≡ t → ls ≡ ms → sees r ls ≡ sees t ms
p with q = λ i. sees (p i) (q i)

infixr 6 ◌also◌
◌also◌ : {l m : List ℕ} {ls ms : List (List ℕ)} → l ≡ m → ls ≡ ms → l ∷ ls ≡ m ∷ ms
p also q = λ i. p i ∷ q i

end : ◌≡◌ {A = List (List ℕ)} [] []
end = refl

pub read_alike : Alike read.Post (λ κ r s. sees r (s.1.1.0.now ∷ []))
read_alike = alike read.Post _ _ (λ κ x r s p. p.0 with p.1 also end)

pub write-alike : Alike write.Post (λ κ r s. sees r (s.1.1.1.1.1.1.0.now ∷ s.1.1.1.1.1.1.1.0.now ∷ []))
write-alike = alike write.Post _ _ (λ κ x r s p. p.0 with p.1.0 also p.1.1 also end)

pub pair-alike : Alike pair.Post (λ κ r s. sees r (s.1.1.1.0.now ∷ s.1.1.1.1.0.now ∷ s.1.1.1.1.1.0.now ∷ []))
pair-alike = alike pair.Post _ _ (λ κ x r s p. p.0 with p.1.0 also p.1.1.0 also p.1.1.1 also end)

pub outcome-alike : Alike outcome.Post (λ κ r s. sees r (s.1.1.1.1.0.now ∷ []))
outcome-alike = alike outcome.Post _ _ (λ κ x r s p. p.0 with p.1 also end)

pub two-results-alike : Alike two-results.Post (λ κ r s. sees r (s.1.1.1.1.0.now ∷ []))
two-results-alike = alike two-results.Post _ _ (λ κ x r s p. p.0 with p.1 also end)

pub walk-alike : Alike walk.Post (λ κ r s. sees r (s.1.1.1.0.now ∷ []))
walk-alike = alike walk.Post _ _ (λ κ x r s p. p.0 with p.1 also end)

pub part-alike : Alike part.Post (λ κ r s. sees r (s.0.now ∷ s.1.0.now ∷ []))
part-alike = alike part.Post _ _ (λ κ x r s p. p.0 with p.1.0 also p.1.1 also end)

pub end-alike : Alike ending.Post (λ κ r s. sees r (s.1.0.now ∷ s.1.1.0.now ∷ s.1.1.1.0.now ∷ []))
end-alike = alike ending.Post _ _ (λ κ x r s p. p.0 with p.1.0 also p.1.1.0 also p.1.1.1 also end)

pub post-alike : Alike post.Post (λ κ r s. sees r (s.1.1.0.now ∷ []))
post-alike = alike post.Post _ _ (λ κ x r s p. p.0 with p.1 also end)

pub apart-alike : Alike apart.Post (λ κ r s. sees r (s.1.1.0.now ∷ s.1.1.1.0.now ∷ []))
apart-alike = alike apart.Post _ _ (λ κ x r s p. p.0 with p.1.0 also p.1.1 also end)

pub evidence-read-alike : Alike evidence-read.Post (λ κ r s. sees r (s.1.1.0.now ∷ []))
evidence-read-alike = alike evidence-read.Post _ _ (λ κ x r s p. p.0 with p.1 also end)

pub evidence-part-alike : Alike evidence-part.Post (λ κ r s. sees r (s.1.1.1.0.now ∷ []))
evidence-part-alike = alike evidence-part.Post _ _ (λ κ x r s p. p.0 with p.1 also end)

pub evidence-write-alike : Alike evidence-write.Post (λ κ r s. sees r (s.1.1.1.1.0.now ∷ s.1.1.1.1.1.0.now ∷ []))
evidence-write-alike = alike evidence-write.Post _ _ (λ κ x r s p. p.0 with p.1.0 also p.1.1 also end)

pub evidence-compare-alike : Alike evidence-compare.Post (λ κ r s. sees r (s.1.1.1.0.now ∷ []))
evidence-compare-alike = alike evidence-compare.Post _ _ (λ κ x r s p. p.0 with p.1 also end)

pub signed-alike : Alike signed.Post (λ κ r s. sees r [])
signed-alike = alike signed.Post _ _ (λ κ x r s p. p with end)

pub day-read-alike : Alike day-read.Post (λ κ r s. sees r (s.1.0.now ∷ []))
day-read-alike = alike day-read.Post _ _ (λ κ x r s p. p.0 with p.1 also end)

pub day-body-alike : Alike day-body.Post (λ κ r s. sees r (s.1.1.0.now ∷ []))
day-body-alike = alike day-body.Post _ _ (λ κ x r s p. p.0 with p.1 also end)

pub day-write-alike : Alike day-write.Post (λ κ r s. sees r (s.1.1.1.0.now ∷ s.1.1.1.1.0.now ∷ []))
day-write-alike = alike day-write.Post _ _ (λ κ x r s p. p.0 with p.1.0 also p.1.1 also end)

pub write-eb12-alike : Alike write-eb12.Post (λ κ r s. sees r (s.1.1.0.now ∷ s.1.1.1.0.now ∷ []))
write-eb12-alike = alike write-eb12.Post _ _ (λ κ x r s p. p.0 with p.1.0 also p.1.1 also end)

-- of a posting the members are seen, too
pub record SeenBoard : Type 0 where
  pub board : List Member
  pub rest : Seen

abbrev pub sees-board : List Member → ℕ → List (List ℕ) → SeenBoard
sees-board ms r ls = record { board = ms; rest = sees r ls }

-- what its contract says
abbrev pub BoardPost : (κ : Lfts 5) → ArgsD board-post.signature κ → ResD board-post.signature κ → AtExit board-post.ended κ → Type 0
BoardPost κ x r s =
    let told = board_told x.0 x.1.0.now x.1.1.0.now x.1.1.1.0.now x.1.1.1.1.0.now in
    let after = board_after x.0 x.1.0.now x.1.1.0.now x.1.1.1.0.now x.1.1.1.1.0.now in
    let days = dates_after x.0 x.1.0.now x.1.1.0.now x.1.1.1.0.now x.1.1.1.1.0.now in
    (r ≡ told.number) × ((s.1.1.1.0.now ≡ after) × ((s.1.1.1.1.0.now ≡ days) × (s.1.1.1.1.1.0.now ≡ five told)))

-- as the source has it
pub board-post-says :
    {M : Type 1} {𝓤 : Ura M} (𝓛 : Logic 𝓤) (mem : Memory → SProp 𝓤) (run : Routine → Fun 𝓤)
    (κ : Lfts 5) (x : ArgsD board-post.signature κ) (r : ResD board-post.signature κ) (s : AtExit board-post.ended κ) →
    (board-post.clauses 𝓛 mem run κ x).ensures tt r s ≡ fact 𝓤 (BoardPost κ x r s)
board-post-says 𝓛 mem run κ x r s = refl

pub board-post-alike : Alike BoardPost (λ κ r s. sees-board s.1.1.1.0.now r (s.1.1.1.1.0.now ∷ s.1.1.1.1.1.0.now ∷ []))
board-post-alike = alike BoardPost _ _ (λ κ x r s p. λ i. sees-board (p.1.0 i) (p.0 i) (p.1.1.0 i ∷ p.1.1.1 i ∷ []))
