-- An EB12 holds exactly the refused records of its EB11, in order.
-- Assumes nothing.
use Prim.Native.Nat.{ℕ, ◌+◌, ◌*◌, ◌<◌}
use mathlib.Core.Bool.{true, false}
use mathlib.Core.List.{List, ◌++◌}
use mathlib.Core.Logic.{⊎_elim}
use mathlib.Core.Path.{◌≡◌, sym, ◌∙◌, ap, subst}
use native.Mathlib.Nat.{le_refl}
use native.Mathlib.Omega.{arith}
use lib.ListN.{length, get_or}
use Rattle.laws.specs.Joined.{joined}
use Rattle.laws.specs.Part.{part}
use Rattle.laws.specs.Sum.{sum}
use Rattle.laws.proofs.Bools.{clash}
use Rattle.laws.proofs.Joins.{joined-long, joined-piece}
use Rattle.laws.proofs.Parts.{part_length, part-part, part-short}
use Rattle.laws.proofs.Pieces.{part-within, part-behind, part-first}
use Rattle.kinds.specs.Kinds.{EB11}
use Rattle.tables.specs.Among.{Among}
use Rattle.records.specs.Records.{record_at, record_of, data_of, key_at}
use Rattle.records.proofs.Places.{record-inside}
use Rattle.changes.specs.Halves.{record_in}
use Rattle.changes.specs.Answers.{our_codes, says_no}
use Rattle.changes.specs.Says.{Whole}
use Rattle.changes.proofs.Found.{record-length}
use Rattle.changes_writer.specs.Building.{refused_to, header_for, refused_for, record_for, trailer_for, file_for, Answered}
use Rattle.changes_writer.specs.Says.{record_from, Headed, Refused, Holds}
use Rattle.changes_writer.proofs.Built.{no-yes, no_record, refused-length, header-length, trailer-length, records-length, file-length}
use Rattle.changes_writer.proofs.Counts.{in_order, some-no}
use Rattle.changes_writer.proofs.Items.{headed, refused-holds}
use Rattle.changes_writer.proofs.Closing.{closed}

module _ (s answers : List ℕ) (whole : Whole s answers) where
  pub ready : Answered s answers
  ready = record { meets = whole.replied.paired.meets; many = whole.replied.given.many }

  abbrev n : ℕ
  n = data_of EB11 s

  abbrev m : ℕ
  m = refused_to answers n

  abbrev H : List ℕ
  H = header_for s

  abbrev D : List ℕ
  D = joined (record_for s answers) n

  abbrev T : List ℕ
  T = trailer_for s answers

  -- where each piece ends
  head-long : length H ≡ 120
  head-long = header-length s answers ready

  data-long : length D ≡ m * 120
  data-long = rw (← ready.many) (records-length s answers ready (length answers) (le_refl (length answers)))

  tail-long : length T ≡ 120
  tail-long = trailer-length s answers ready

  pub all-long : length (file_for s answers) ≡ (m + 2) * 120
  all-long = file-length s answers ready ∙ rw ready.many (omega arith)

  -- the first record is the header
  pub first : record_from (file_for s answers) 0 ≡ H
  unfolding record_at file_for
  first = part-first H (D ++ T) 120 head-long

  -- the last is the trailer
  pub last : record_from (file_for s answers) (m + 1) ≡ T
  unfolding record_at file_for
  last =
      ap (λ (a : ℕ). part a 120 (H ++ (D ++ T))) at ∙
      (part-behind H (D ++ T) 120 (m * 120) 120 head-long ∙
      (ap (λ (a : ℕ). part a 120 (D ++ T)) more ∙
      (part-behind D T (m * 120) 0 120 data-long ∙ whole_part)))
    where
      at : (m + 1) * 120 ≡ 120 + m * 120
      at = omega arith

      more : m * 120 ≡ m * 120 + 0
      more = omega arith

      whole_part : part 0 120 T ≡ T
      whole_part = part-short 0 120 T (omega (arith, tail-long))

  -- a refused record by its place
  module _ (i : ℕ) (h : i < n) (t : says_no answers i ≡ true) where
    abbrev k : ℕ
    k = refused_to answers i

    pub here : record_for s answers i ≡ refused_for (record_in s i) (k + 1) (get_or answers i 0)
    here = no_record s answers i t

    pub old-long : length (record_in s i) ≡ 120
    old-long = record-length s ready.meets i h

    here-long : length (record_for s answers i) ≡ 120
    here-long = rw here (refused-length (record_in s i) (k + 1) (get_or answers i 0) old-long)

    start : sum (λ j. length (record_for s answers j)) i ≡ k * 120
    start = sym (joined-long (record_for s answers) i) ∙ records-length s answers ready i (omega (arith, ready.many))

    inside : k < m
    inside = in_order answers i n h t

    piece : part (k * 120) 120 D ≡ record_for s answers i
    piece = ap (λ (a : ℕ). part a 120 D) (sym start) ∙ (ap (λ (c : ℕ). part (sum (λ j. length (record_for s answers j)) i) c D) (sym here-long) ∙ joined-piece (record_for s answers) n i h)

    pub stands : record_from (file_for s answers) (k + 1) ≡ record_for s answers i
    unfolding record_at file_for
    stands =
        ap (λ (a : ℕ). part a 120 (H ++ (D ++ T))) at ∙
        (part-behind H (D ++ T) 120 (k * 120) 120 head-long ∙ (part-within D T (k * 120) 120 (omega (arith, data-long, inside)) ∙ piece))
      where
        at : (k + 1) * 120 ≡ 120 + k * 120
        at = omega arith

    -- its answer is one of the codes
    pub ours : Among our_codes (get_or answers i 0)
    ours = ⊎_elim (λ e. absurd (clash t (no-yes answers i e))) (λ a. a) (whole.replied.given.each i h)

    pub each_holds : Refused (record_in s i) (k + 1) (get_or answers i 0) (record_from (file_for s answers) (k + 1))
    each_holds = rw (stands, here) (refused-holds (record_in s i) old-long (k + 1) (get_or answers i 0) ours)

    -- its key is what it was
    pub same_key : part 25 21 (record_from (file_for s answers) (k + 1)) ≡ key_at EB11 s i
    unfolding key_at
    same_key =
        sym (part-part 16 21 9 82 (record_from (file_for s answers) (k + 1)) (omega arith) (rw (stands, here-long) (omega arith))) ∙
        (ap (part 16 21) each_holds.before ∙ part-part 16 21 9 82 (record_in s i) (omega arith) (rw old-long (omega arith)))

  -- a record with a yes stands nowhere
  none-holds : (i k : ℕ) → i < n → says_no answers i ≡ false → k < m → part 25 21 (record_from (file_for s answers) (k + 1)) ≡ key_at EB11 s i → ⊥
  none-holds i k h f l e =
      let x = some-no answers n k l in
      let j = x.0 in
      let t = x.1.1.0 in
      let key = subst (λ (p : ℕ). part 25 21 (record_from (file_for s answers) (p + 1)) ≡ key_at EB11 s j) x.1.1.1 (same_key j x.1.0 t) in
      let is : j ≡ i = ready.meets.keys j i x.1.0 h (sym key ∙ e) in
      clash (rw is at t) f

  header-here : length (record_of EB11 s 0) ≡ 120
  unfolding record_at
  header-here = part_length (0 * 120) 120 s (record-inside EB11 s 0 (omega (arith, ready.meets.lengths.fewest)))

  head-holds : Headed (record_of EB11 s 0) H
  unfolding header_for
  head-holds = headed (record_of EB11 s 0) header-here

  -- *Exactly the refused*: the file is all of that, and nothing else
  pub holds : Holds s answers (file_for s answers)
  holds = record {
    long = all-long;
    header = rw first head-holds;
    trailer = rw last (closed s answers ready.meets);
    each = each_holds;
    order = λ i j h l t. in_order answers i j h t;
    only = λ k l. some-no answers n k l;
    nowhere = none-holds;
  }
