-- The laws of `part_of`, case by case.
-- Assumes nothing.
use Prim.Native.Nat.{ℕ, ◌+◌, ◌-◌, ◌*◌, ◌≤◌, ◌<◌}
use mathlib.Core.Bool.{Bool, true, false}
use mathlib.Core.List.{List}
use mathlib.Core.Path.{◌≡◌, refl, sym, ◌∙◌}
use native.Mathlib.Omega.{arith}
use lib.ListN.{get_or}
use Rattle.answers.specs.Lying.{is_one, Refused, From, Nowhere}
use Rattle.answers.specs.declared.refusing.Refusal.{Refusal}
use Rattle.answers.specs.Answers.{accepted}
use Rattle.answers.specs.Refusing.{told_by}
use Rattle.answers.proofs.Refusals.{refuses-is, refuses-not}
use Rattle.answers.proofs.Tellings.{told-refuses, good}
use Rattle.answers.proofs.Lies.{one-true}
use Rattle.evidence.specs.Blocks.{block, most_blocks, blocks_in, start_of, evidence_start, evidence_length, records_in}
use Rattle.evidence.specs.Judged.{byte_of}
use Rattle.evidence.specs.Reading.{read_of, good_in, places_of}
use Rattle.evidence.specs.Lying.{lies_in, part_of}
use Rattle.kinds.specs.Kinds.{limit}
use Rattle.evidence.proofs.Walks.{record-begins}
use Rattle.evidence.proofs.Stages.{size-good}
use Rattle.evidence.proofs.Looked.{read-good, read_all, records-few, place_at}

module _ (exempt : Bool) (s : List ℕ) (k : ℕ) where
  pub shown-refused : (r : Refusal) → told_by r ≡ read_of exempt s → record { answer = told_by r; lies = Refused } ≡ part_of exempt s k
  unfolding part_of
  shown-refused r e = rw (← e, refuses-is (told_by r) (told-refuses r))

  module _ (z : accepted ≡ read_of exempt s) where
    pub shown-from :
        is_one k (records_in s) ≡ true →
        record { answer = accepted; lies = From (evidence_start s (k - 1)) (evidence_length s (k - 1)) } ≡ part_of exempt s k
    unfolding part_of lies_in
    shown-from t = rw (← z, refuses-not accepted refl, t)

    pub shown-nowhere : is_one k (records_in s) ≡ false → record { answer = accepted; lies = Nowhere } ≡ part_of exempt s k
    unfolding part_of lies_in
    shown-nowhere f = rw (← z, refuses-not accepted refl, f)

-- record k of an accepted file, by the place that its first byte was left in
pub record Stands (s : List ℕ) (k place : ℕ) : Type 0 where
  pub one : is_one k (records_in s) ≡ true
  pub low : 1 ≤ k
  pub below : k - 1 < limit
  pub first : place ≡ start_of s (k - 1) * block
  pub inside : start_of s (k - 1) < blocks_in s
  pub few : blocks_in s ≤ most_blocks + 2

pub stands :
    (exempt : Bool) (s old places : List ℕ) (k n : ℕ) →
    accepted ≡ read_of exempt s → n ≡ good_in exempt s → places ≡ places_of exempt s old → true ≡ is_one k n →
    Stands s k (get_or places (k - 1) 0)
unfolding byte_of
stands exempt s old places k n a e f t =
    let z = good _ a in
    let g = read-good exempt s z in
    let all = e ∙ read_all exempt s z in
    let one = one-true k n (sym t) in
    let l : k - 1 < records_in s = omega (arith, one.0, one.1, all) in
    record {
      one = rw (← all) (sym t);
      low = one.0;
      below = omega (arith, l, records-few exempt s g.1.1);
      first = rw f (place_at exempt s old (k - 1) (rw (read_all exempt s z) l));
      inside = omega (arith, record-begins s (k - 1) l);
      few = (size-good s g.0).most;
    }
