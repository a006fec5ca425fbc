-- The headers of two results that agree with one request's are the same, and trailers that say the same totals are, but in items 10 and 12 and the MAC.
-- Assumes nothing.
use Prim.Native.Nat.{ℕ, ◌+◌, ◌≤◌, ◌<◌}
use mathlib.Core.Bool.{true}
use mathlib.Core.List.{List}
use mathlib.Core.Path.{◌≡◌, refl, sym, ◌∙◌, ap}
use native.Mathlib.Omega.{arith}
use lib.ListN.{length, get_or}
use Rattle.laws.specs.Part.{part, same}
use Rattle.laws.proofs.Parts.{part_join, same-equal}
use Rattle.text.specs.Characters.{each}
use Rattle.numbers.specs.Numbers.{digits_of}
use Rattle.numbers.proofs.Values.{says-part}
use Rattle.kinds.specs.declared.of_files.Kind.{Kind}
use Rattle.kinds.specs.declared.of_files.Own.{Own}
use Rattle.kinds.specs.declared.of_pairs.PairKind.{PairKind}
use Rattle.kinds.specs.declared.of_pairs.Family.TheVariants.{Debit}
use Rattle.kinds.specs.Pairs.{pair_kind, result_kind}
use Rattle.tables.specs.Tables.{trailer_front, debit_result_trailer}
use Rattle.tables.specs.Places.{place_in}
use Rattle.tables.specs.Totals.{no_total, debit_result_totals, totals_of}
use Rattle.layout.specs.Rules.{meets, holds}
use Rattle.records.specs.Records.{record_of, trailer_of}
use Rattle.records.specs.Quantities.{quantity_of}
use Rattle.reader.specs.Totals.{total_holds}
use Rattle.reader.specs.Meets.{Meets}
use Rattle.reader.proofs.Accepted.{trailer-row}
use Rattle.reader.proofs.Cut.{record-length}
use Rattle.builder.specs.Records.{header_built}
use Rattle.writer.specs.Says.{Bytes}
use Rattle.writer.specs.Apart.{head_in}
use Rattle.writer.proofs.Rewritten.{header-rebuilt}
use Rattle.agreement.specs.Items.{header_items}
use Rattle.agreement.specs.Same.{HeadersAgree}
use Rattle.two_results.specs.Same.{SameBut, ten_twelve_and_mac}
use Rattle.two_results.proofs.Bytes.{same-between, only_same}

module _ (a b : Own) where
  abbrev debit : PairKind
  debit = pair_kind Debit a b

  abbrev kind : Kind
  kind = result_kind debit

  -- a header is made of its date, code, and items 6 and 7, and these agree with the request's
  pub same-header :
      (q r s : List ℕ) → Meets kind r → Meets kind s → Bytes r → Bytes s → HeadersAgree debit q r → HeadersAgree debit q s → record_of kind r 0 ≡ record_of kind s 0
  unfolding head_in header_items
  same-header q r s mr ms br bs one two = sym (header-rebuilt kind r mr br) ∙ (ap (header_built kind) heads ∙ header-rebuilt kind s ms bs)
    where
      heads : head_in kind r ≡ head_in kind s
      heads =
          rw (
            sym (one 0 (omega arith)) ∙ two 0 (omega arith),
            sym (one 1 (omega arith)) ∙ two 1 (omega arith),
            sym (one 2 (omega arith)) ∙ two 2 (omega arith),
            sym (one 3 (omega arith)) ∙ two 3 (omega arith),
          )

  -- the trailer of an accepted file
  module _ (r : List ℕ) (m : Meets kind r) where
    trailer-long : length (trailer_of kind r) ≡ 150
    trailer-long = record-length kind r m _ (omega (arith, m.lengths.fewest))

  module _ (r s : List ℕ) (mr : Meets kind r) (ms : Meets kind s) (headers : record_of kind r 0 ≡ record_of kind s 0) where
    abbrev x : List ℕ
    x = trailer_of kind r

    abbrev y : List ℕ
    y = trailer_of kind s

    long : length x ≡ 150
    long = trailer-long r mr

    wide : length y ≡ 150
    wide = trailer-long s ms

    -- an item that is one byte over and over, and one that is the header's
    fixed : (b at w : ℕ) → at + w ≤ 150 → each b b (part at w x) ≡ true → each b b (part at w y) ≡ true → part at w x ≡ part at w y
    fixed b at w h = only_same b at w x y (rw long h) (rw wide h)

    headed :
        (at w : ℕ) → same (part at w x) (part at w (record_of kind r 0)) ≡ true → same (part at w y) (part at w (record_of kind s 0)) ≡ true →
        part at w x ≡ part at w y
    headed at w t u = same-equal _ _ t ∙ (ap (part at w) headers ∙ sym (same-equal _ _ u))

    -- items 1 and 2 are the same in every trailer
    marks : part 0 9 x ≡ part 0 9 y
    unfolding holds meets trailer_front debit_result_trailer
    marks =
        part_join 0 1 8 x y
        (fixed 0x54 0 1 (omega arith) (trailer-row kind r mr 0 (omega arith)) (trailer-row kind s ms 0 (omega arith)))
        (fixed 0x39 1 8 (omega arith) (trailer-row kind r mr 1 (omega arith)) (trailer-row kind s ms 1 (omega arith)))

    -- items 3 and 4 are the header's
    named : part 9 18 x ≡ part 9 18 y
    unfolding holds meets trailer_front debit_result_trailer
    named =
        part_join 9 10 8 x y
        (headed 9 10 (trailer-row kind r mr 2 (omega arith)) (trailer-row kind s ms 2 (omega arith)))
        (headed 19 8 (trailer-row kind r mr 3 (omega arith)) (trailer-row kind s ms 3 (omega arith)))

    -- items 11, 13 and 14 are zeros and spaces
    eleven : part 85 4 x ≡ part 85 4 y
    unfolding holds meets trailer_front debit_result_trailer
    eleven = fixed 0x30 85 4 (omega arith) (trailer-row kind r mr 10 (omega arith)) (trailer-row kind s ms 10 (omega arith))

    rest : part 100 40 x ≡ part 100 40 y
    unfolding holds meets trailer_front debit_result_trailer
    rest =
        part_join 100 11 29 x y
        (fixed 0x30 100 11 (omega arith) (trailer-row kind r mr 12 (omega arith)) (trailer-row kind s ms 12 (omega arith)))
        (fixed 0x20 111 29 (omega arith) (trailer-row kind r mr 13 (omega arith)) (trailer-row kind s ms 13 (omega arith)))

    module _ (equal : (t : ℕ) → t < 5 → quantity_of kind r (get_or (totals_of kind) t no_total).3 ≡ quantity_of kind s (get_or (totals_of kind) t no_total).3) where
      -- items 5 to 9 are the first five totals
      totals : part 27 50 x ≡ part 27 50 y
      unfolding total_holds debit_result_totals
      totals =
          part_join 27 37 13 x y
          (part_join 27 29 8 x y
          (part_join 27 16 13 x y
          (part_join 27 8 8 x y
          (total 0 (omega arith) (omega arith) (omega arith))
          (total 1 (omega arith) (omega arith) (omega arith)))
          (total 2 (omega arith) (omega arith) (omega arith)))
          (total 3 (omega arith) (omega arith) (omega arith)))
          (total 4 (omega arith) (omega arith) (omega arith))
        where
          total :
              (t : ℕ) → t < 5 → t < length (totals_of kind) → (get_or (totals_of kind) t no_total).1 + (get_or (totals_of kind) t no_total).2 ≤ 150 →
              part (get_or (totals_of kind) t no_total).1 (get_or (totals_of kind) t no_total).2 x ≡ part (get_or (totals_of kind) t no_total).1 (get_or (totals_of kind) t no_total).2 y
          total t h l inside =
              let c = get_or (totals_of kind) t no_total in
              says-part (quantity_of kind r c.3) c.1 c.2 x (omega (arith, long)) (mr.totals t l) ∙
              (ap (digits_of c.2) (equal t h) ∙ sym (says-part (quantity_of kind s c.3) c.1 c.2 y (omega (arith, wide)) (ms.totals t l)))

      pub same-trailer : SameBut (ten_twelve_and_mac kind) x y
      unfolding ten_twelve_and_mac place_in trailer_front debit_result_trailer part
      same-trailer = same-between 150 x y long wide _ (part_join 0 27 50 x y (part_join 0 9 18 x y marks named) totals, (eleven, (rest, refl)))
