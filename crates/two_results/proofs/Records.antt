-- Two results of one request that leave the same amount agree in every byte but serial and failure code.
-- Assumes nothing.
use Prim.Native.Nat.{ℕ, ◌+◌, ◌<◌}
use mathlib.Core.Bool.{true}
use mathlib.Core.List.{List}
use mathlib.Core.Path.{◌≡◌, sym, ◌∙◌}
use native.Mathlib.Omega.{arith}
use lib.ListN.{length, get_or}
use Rattle.laws.specs.Part.{part}
use Rattle.laws.proofs.Parts.{part_length, part_join, bytes-part}
use Rattle.text.specs.Characters.{each, digits}
use Rattle.numbers.proofs.Values.{digits_same}
use Rattle.kinds.specs.declared.of_files.Kind.{Kind}
use Rattle.kinds.specs.declared.of_files.Own.{Own}
use Rattle.kinds.specs.declared.of_pairs.PairKind.{PairKind}
use Rattle.kinds.specs.declared.of_pairs.Family.TheVariants.{Debit}
use Rattle.kinds.specs.Pairs.{pair_kind, result_kind}
use Rattle.tables.specs.Copied.{no_item, among, items_but, debit_copied}
use Rattle.tables.specs.Tables.{data_front, debit_data, debit_request_data, debit_result_data}
use Rattle.tables.specs.Places.{place_in}
use Rattle.layout.specs.Items.{amount_of, mark_of}
use Rattle.layout.specs.Rules.{meets, holds}
use Rattle.records.specs.Records.{data_of}
use Rattle.reader.specs.Meets.{Meets}
use Rattle.reader.proofs.Accepted.{data-row}
use Rattle.reader.proofs.Cut.{record-length}
use Rattle.agreement.specs.Items.{Records, compared_of}
use Rattle.agreement.specs.Same.{result_at, SameItem}
use Rattle.agreement.specs.Possible.{PossibleIn}
use Rattle.pair.specs.Assigned.{Met}
use Rattle.two_results.specs.Same.{SameBut, serial_and_code}
use Rattle.two_results.proofs.Bytes.{same-between, only_same}

-- all of a request and a part of it are never the same amount, so one amount has one mark
pub one-mark :
    (least : ℕ) {request x y : List ℕ} → PossibleIn least Debit request x → PossibleIn least Debit request y → amount_of x ≡ amount_of y → mark_of x ≡ mark_of y
one-mark least (PossibleIn.nothing m e) (PossibleIn.nothing n f) same = m ∙ sym n
one-mark least (PossibleIn.nothing m e) (PossibleIn.some n ne l less base) same = absurd (omega arith)
one-mark least (PossibleIn.some m ne l less base) (PossibleIn.nothing n f) same = absurd (omega arith)
one-mark least (PossibleIn.some m ne l less base) (PossibleIn.some n nf k lesser basis) same = m ∙ sym n

module _ (a b : Own) where
  abbrev debit : PairKind
  debit = pair_kind Debit a b

  abbrev kind : Kind
  kind = result_kind debit

  -- what is known of one result record of an accepted file
  module _ (r : List ℕ) (m : Meets kind r) (j : ℕ) (h : j < data_of kind r) where
    pub record-long : length (result_at debit r j) ≡ 150
    record-long = record-length kind r m (j + 1) (omega arith)

    marked : each 0x52 0x52 (part 0 1 (result_at debit r j)) ≡ true
    unfolding holds meets data_front debit_data debit_result_data
    marked = data-row kind r m j h 0 (omega arith)

    numbered : digits (part 42 13 (result_at debit r j)) ≡ true
    unfolding holds meets digits data_front debit_data debit_result_data
    numbered = data-row kind r m j h 5 (omega arith)

  module _ (q r s : List ℕ) (mr : Meets kind r) (ms : Meets kind s) (i j l : ℕ) (hj : j < data_of kind r) (hl : l < data_of kind s)
      (one : Met debit q r i j) (two : Met debit q s i l) (same : amount_of (result_at debit r j) ≡ amount_of (result_at debit s l)) where
    abbrev x : List ℕ
    x = result_at debit r j

    abbrev y : List ℕ
    y = result_at debit s l

    long : length x ≡ 150
    long = record-long r mr j hj

    wide : length y ≡ 150
    wide = record-long s ms l hl

    -- copied items are the request's in both
    copied : (c : ℕ) → c < length (compared_of debit Records) → SameItem (get_or (compared_of debit Records) c no_item) x y
    copied c h = sym (one.agree c h) ∙ two.agree c h

    -- item 6: digits that say the same
    amounts : part 42 13 x ≡ part 42 13 y
    amounts =
        digits_same (part 42 13 x) (part 42 13 y) (numbered r mr j hj) (numbered s ms l hl)
        (part_length 42 13 x (omega (arith, long)) ∙ sym (part_length 42 13 y (omega (arith, wide)))) same

    -- the mark of item 8
    marks : part 68 1 x ≡ part 68 1 y
    marks =
        bytes-part 68 1 x y (omega (arith, long)) (long ∙ sym wide)
        (λ k low high. let e : k ≡ 68 = omega arith in rw e (one-mark a.least one.possible two.possible same))

    -- items 3 to 7 with the mark, and items 9 to 15
    front : part 9 60 x ≡ part 9 60 y
    unfolding debit_copied items_but among debit_request_data debit_data data_front
    front =
        part_join 9 59 1 x y
        (part_join 9 46 13 x y
        (part_join 9 33 13 x y
        (part_join 9 17 16 x y
        (part_join 9 10 7 x y
        (copied 0 (omega arith))
        (copied 1 (omega arith)))
        (copied 2 (omega arith)))
        amounts)
        (copied 3 (omega arith)))
        marks

    behind : part 73 77 x ≡ part 73 77 y
    unfolding debit_copied items_but among debit_request_data debit_data data_front
    behind =
        part_join 73 56 21 x y
        (part_join 73 44 12 x y
        (part_join 73 43 1 x y
        (part_join 73 38 5 x y
        (part_join 73 18 20 x y
        (part_join 73 16 2 x y
        (copied 4 (omega arith))
        (copied 5 (omega arith)))
        (copied 6 (omega arith)))
        (copied 7 (omega arith)))
        (copied 8 (omega arith)))
        (copied 9 (omega arith)))
        (copied 10 (omega arith))

    pub same-record : SameBut (serial_and_code kind) x y
    unfolding serial_and_code place_in debit_result_data debit_data data_front
    same-record = same-between 150 x y long wide _ (only_same 0x52 0 1 x y (omega (arith, long)) (omega (arith, wide)) (marked r mr j hj) (marked s ms l hl), (front, behind))
