-- Of an accepted file every evidence part lies inside its own record and the file, and no two overlap.
-- Assumes nothing.
use Prim.Native.Nat.{ℕ, ◌+◌, ◌-◌, ◌*◌, ◌≤◌, ◌<◌}
use mathlib.Core.Bool.{Bool, true, false}
use mathlib.Core.List.{List}
use mathlib.Core.Path.{◌≡◌, sym, ap}
use mathlib.Core.Logic.{⊎_elim}
use native.Mathlib.Nat.{le_refl, le_of_eq, le_of_lt, eq-or-lt_of_le}
use native.Mathlib.Omega.{arith}
use borrow.Author.Tests.{ltb-true, ltb-false}
use lib.Dec.{ltb}
use Rattle.laws.proofs.Bools.{either}
use Rattle.answers.specs.Answers.{accepted, refuses}
use Rattle.answers.proofs.Refusals.{refuses-zero}
use Rattle.evidence.specs.Blocks.{block, front, length_at, next_of, start_of, records_in, evidence_start, evidence_length}
use Rattle.evidence.specs.Reading.{read_of}
use Rattle.answers.specs.Lying.{From, Nowhere, is_one, case_of, first_of, size_of}
use Rattle.answers.proofs.Lies.{one-true}
use Rattle.evidence.specs.Lying.{lies_in, part_of}
use Rattle.evidence.specs.Parts.{Covers, Inside, Shows}
use Rattle.evidence.proofs.Walks.{blocks-enough, start-more, start-before, start-some}
use Rattle.evidence.proofs.Stages.{read-good, good-read, stages-exact}

-- a part ends with its record's blocks
part-own : (s : List ℕ) (i : ℕ) → evidence_start s i + evidence_length s i ≤ start_of s (i + 1) * block
unfolding next_of
part-own s i = rw (start-more s i) (omega (arith, blocks-enough (length_at s (start_of s i))))

-- *Parts*: each lies inside
pub part-inside : (exempt : Bool) (s : List ℕ) → read_of exempt s ≡ accepted → (i : ℕ) → i < records_in s → Inside s i
part-inside exempt s e i h =
    let m = (stages-exact exempt s).0 e in
    record {
      header = omega (arith, start-some s i);
      items = le_refl (start_of s i * block + front);
      own = part-own s i;
      file = rw (start-more s i) (omega (arith, m.sizes.whole, m.sizes.fewest, (m.each i h).inside));
    }

-- a record that comes later begins behind all evidence of an earlier one
start-behind : (s : List ℕ) (i j x : ℕ) → i < j → Covers s i x → Covers s j x → ⊥
start-behind s i j x l a b =
    let up : start_of s (i + 1) ≤ start_of s j = ⊎_elim (λ e. le_of_eq (ap (start_of s) e)) (λ g. le_of_lt (start-before s (i + 1) j g)) (eq-or-lt_of_le (omega arith)) in
    omega (arith, part-own s i, a.below, b.from)

-- and no byte is evidence of two records
pub parts-apart : (s : List ℕ) (i j x : ℕ) → Covers s i x → Covers s j x → i ≡ j
parts-apart s i j x a b =
    ⊎_elim (λ t. absurd (start-behind s i j x (ltb-true i j t) a b))
    (λ f. ⊎_elim (λ t. absurd (start-behind s j i x (ltb-true j i t) b a)) (λ g. omega (arith, ltb-false)) (either (ltb j i)))
    (either (ltb i j))

-- a part is shown only of an accepted file, and then it is the evidence of the record that was asked for
pub part-shown : (exempt : Bool) (s : List ℕ) (k start size : ℕ) → (part_of exempt s k).lies ≡ From start size → Shows exempt s k start size
unfolding part_of lies_in
part-shown exempt s k start size e = ⊎_elim bad good (either (refuses (read_of exempt s)))
  where
    bad : refuses (read_of exempt s) ≡ true → Shows exempt s k start size
    bad t = absurd (let z : ◌≡◌ {A = ℕ} 0 1 = ap case_of (rw t at e) in omega arith)

    here : refuses (read_of exempt s) ≡ false → is_one k (records_in s) ≡ true → Shows exempt s k start size
    here f t =
        let a = good-read exempt s (read-good exempt s (refuses-zero (read_of exempt s) f)) in
        let p : From (evidence_start s (k - 1)) (evidence_length s (k - 1)) ≡ From start size = rw (f, t) at e in
        let one = one-true k (records_in s) t in
        record { good = a; first = one.0; last = one.1; from = sym (ap first_of p); long = sym (ap size_of p); inside = part-inside exempt s a (k - 1) (omega (arith, one.0, one.1)) }

    nowhere : refuses (read_of exempt s) ≡ false → is_one k (records_in s) ≡ false → Shows exempt s k start size
    nowhere f n =
        let p : Nowhere ≡ From start size = rw (f, n) at e in
        absurd (let z : ◌≡◌ {A = ℕ} 2 1 = ap case_of p in omega arith)

    good : refuses (read_of exempt s) ≡ false → Shows exempt s k start size
    good f = ⊎_elim (here f) (nowhere f) (either (is_one k (records_in s)))
