-- The records of an EB12 keep the rules of its layout, since those of the EB11 keep theirs.
-- Assumes nothing.
use Prim.Native.Nat.{ℕ, ◌+◌, ◌*◌, ◌^◌, ◌≤◌, ◌<◌}
use mathlib.Core.Bool.{Bool, true, ◌&&◌}
use mathlib.Core.List.{List}
use mathlib.Core.Path.{◌≡◌, refl, sym, ◌∙◌, ap}
use native.Mathlib.Omega.{arith}
use borrow.Author.Tests.{lt-ltb}
use lib.Dec.{eqb}
use lib.ListN.{length, get_or, replicate}
use Rattle.laws.specs.Part.{part, same}
use Rattle.laws.specs.Least.{least, further}
use Rattle.laws.proofs.Bools.{and_both}
use Rattle.laws.specs.Stored.{stored}
use Rattle.laws.proofs.Parts.{part_length, part_join, part-part, part-byte, same-equal, same_self}
use Rattle.text.specs.Characters.{within, takes, stops_at, front, each, digits, spaces, zeros}
use Rattle.numbers.specs.Numbers.{word_of}
use Rattle.numbers.proofs.Values.{digits_are, says-within}
use Rattle.kinds.specs.declared.of_files.Role.TheVariants.{Data}
use Rattle.kinds.specs.Kinds.{EB11}
use Rattle.tables.specs.Rows.{blank}
use Rattle.tables.specs.Tables.{header_front, enrolment_header, data_front, enrolment_data, bank_enrolment_data, trailer_front, enrolment_trailer, enrolment_request_trailer, enrolment_result_trailer, rows_of}
use Rattle.tables.specs.Totals.{enrolment_totals, totals_of}
use Rattle.layout.specs.Items.{application_of}
use Rattle.layout.specs.Rules.{owner, meets, holds}
use Rattle.tables.specs.Among.{Among}
use Rattle.records.specs.Records.{record_at, record_of, data_of, trailer_of}
use Rattle.records.proofs.Places.{record-inside}
use Rattle.reader.specs.Meets.{Meets}
use Rattle.reader.proofs.Accepted.{header_row, data-row, trailer-row}
use Rattle.changes.specs.Halves.{record_in}
use Rattle.changes.specs.Answers.{our_codes}
use Rattle.changes.proofs.Found.{record-length}
use Rattle.changes_writer.specs.Building.{name, refused_for, refused_of, total_in, trailer_for}
use Rattle.changes_writer.specs.Layout.{EB12, but, all_hold}
use Rattle.changes_writer.specs.Says.{Closed}
use Rattle.changes_writer.proofs.Closing.{old-long, total-digits, trailer-front, closed}
use Rattle.changes_writer.proofs.Items.{named_here, named-before, named-behind, refused-mark, refused-serial, refused-before, refused-behind}

infixr 6 ◌also◌
◌also◌ : {a b : Bool} → a ≡ true → b ≡ true → (a && b) ≡ true
◌also◌ {a} {b} p q = and_both a b p q

end : true ≡ true
end = refl

name-word : eqb (word_of name) 0x45423132 ≡ true
unfolding name word_of
name-word = refl

blanks : each 0x20 0x20 (replicate 10 0x20) ≡ true
unfolding each front stops_at takes within least further
blanks = refl

module _ (s : List ℕ) (m : Meets EB11 s) where
  abbrev H : List ℕ
  H = record_of EB11 s 0

  H-long : length H ≡ 120
  unfolding record_at
  H-long = part_length (0 * 120) 120 s (record-inside EB11 s 0 (omega (arith, m.lengths.fewest)))

  -- the header under the other name
  abbrev new : List ℕ
  new = stored 19 name H

  new-front : (a c : ℕ) → a + c ≤ 19 → part a c new ≡ part a c H
  new-front a c h = named-before H H-long a c h

  new-back : (a c : ℕ) → 23 ≤ a → part a c new ≡ part a c H
  new-back a c h = named-behind H H-long a c h

  pub header-laid : all_hold EB12.own new new 0 enrolment_header ≡ true
  unfolding all_hold holds meets header_front enrolment_header
  header-laid =
      (rw (← new-front 0 1 (omega arith)) at (header_row EB11 s m 0 (omega arith))) also
      (rw (← new-front 1 8 (omega arith)) at (header_row EB11 s m 1 (omega arith))) also
      (rw (← new-front 9 10 (omega arith)) at (header_row EB11 s m 2 (omega arith))) also
      named-word also
      (rw (← new-back 23 4 (omega arith)) at (header_row EB11 s m 4 (omega arith))) also
      (rw (← new-back 27 6 (omega arith)) at (header_row EB11 s m 5 (omega arith))) also
      (rw (← new-back 27 6 (omega arith)) at (header_row EB11 s m 6 (omega arith))) also
      (rw (← new-back 27 6 (omega arith), ← new-back 23 4 (omega arith)) at (header_row EB11 s m 7 (omega arith))) also
      (rw (← new-back 33 87 (omega arith)) at (header_row EB11 s m 8 (omega arith))) also
      end
    where
      named-word : eqb (word_of (part 19 4 new)) 0x45423132 ≡ true
      named-word = rw (named_here H H-long) name-word

  -- a refused record
  module _ (i : ℕ) (h : i < data_of EB11 s) (serial code : ℕ) (ours : Among our_codes code) (few : serial < 10 ^ 8) where
    abbrev rec : List ℕ
    rec = record_in s i

    rec-long : length rec ≡ 120
    rec-long = record-length s m i h

    abbrev made : List ℕ
    made = refused_for rec serial code

    before : (a c : ℕ) → 9 ≤ a → a + c ≤ 91 → part a c made ≡ part a c rec
    before = refused-before rec rec-long serial code ours

    behind : (a c : ℕ) → 96 ≤ a → part a c made ≡ part a c rec
    behind = refused-behind rec rec-long serial code ours

    row : (j : ℕ) → j < length (rows_of EB11 Data) → holds EB11.own rec H (i + 1) (get_or (rows_of EB11 Data) j blank) ≡ true
    row j l = data-row EB11 s m i h j l

    pub same_kind : application_of made ≡ application_of rec
    same_kind = part-byte 25 1 25 made rec (before 25 1 (omega arith) (omega arith)) (omega arith) (omega arith)

    pub items-laid : all_hold EB12.own made new serial (but 12 bank_enrolment_data) ≡ true
    unfolding all_hold but holds meets owner data_front enrolment_data bank_enrolment_data
    items-laid =
        (rw (← refused-mark rec rec-long serial code ours) at (row 0 (omega arith))) also
        (rw (← refused-serial rec rec-long serial code ours) at (says-within 8 serial (omega arith) ∙ lt-ltb serial (10 ^ 8) few)) also
        (rw (← before 9 10 (omega arith) (omega arith), ← new-front 9 10 (omega arith)) at (row 2 (omega arith))) also
        (rw (← before 19 6 (omega arith) (omega arith), ← new-back 27 6 (omega arith)) at (row 3 (omega arith))) also
        (rw (← before 25 1 (omega arith) (omega arith)) at (row 4 (omega arith))) also
        (rw (← before 26 20 (omega arith) (omega arith)) at (row 5 (omega arith))) also
        (rw (← before 46 7 (omega arith) (omega arith)) at (row 6 (omega arith))) also
        (rw (← before 53 16 (omega arith) (omega arith)) at (row 7 (omega arith))) also
        (rw (← before 69 16 (omega arith) (omega arith), ← same_kind) at (row 8 (omega arith))) also
        (rw (← before 85 4 (omega arith) (omega arith)) at (row 9 (omega arith))) also
        (rw (← before 89 2 (omega arith) (omega arith)) at (row 10 (omega arith))) also
        (rw (← behind 96 1 (omega arith)) at (row 12 (omega arith))) also
        (rw (← behind 97 12 (omega arith)) at (row 13 (omega arith))) also
        (rw (← behind 109 1 (omega arith)) at (row 14 (omega arith))) also
        (rw (← behind 110 10 (omega arith)) at (row 15 (omega arith))) also
        end

  -- the trailer
  module _ (answers : List ℕ) (number : ℕ) where
    abbrev old : List ℕ
    old = trailer_of EB11 s

    abbrev last : List ℕ
    last = trailer_for s answers

    kept : Closed s answers old last
    kept = closed s answers m

    in-front : (a c : ℕ) → a + c ≤ 19 → part a c last ≡ part a c old
    in-front = trailer-front s answers m

    name-row : same (part 19 8 old) (part 19 8 H) ≡ true
    unfolding holds meets trailer_front enrolment_trailer enrolment_result_trailer
    name-row = trailer-row EB11 s m 3 (omega arith)

    -- its name is the header's
    day-same : part 23 4 old ≡ part 23 4 H
    day-same =
        sym (part-part 4 4 19 8 old (omega arith) (rw (old-long s answers m) (omega arith))) ∙
        (ap (part 4 4) (same-equal (part 19 8 old) (part 19 8 H) name-row) ∙ part-part 4 4 19 8 H (omega arith) (rw H-long (omega arith)))

    name-same : part 19 8 last ≡ part 19 8 new
    name-same = part_join 19 4 4 last new (kept.named ∙ sym (named_here H H-long)) (kept.day ∙ (day-same ∙ sym (new-back 23 4 (omega arith))))

    digits-here : (t : ℕ) → t < length (totals_of EB11) → digits (part (total_in t).1 (total_in t).2 last) ≡ true
    digits-here t h = rw (total-digits s answers m t h) (digits_are 8 (refused_of s answers (total_in t).3))

    pub trailer-laid : all_hold EB12.own last new number enrolment_request_trailer ≡ true
    unfolding all_hold holds meets digits zeros spaces trailer_front enrolment_trailer enrolment_request_trailer enrolment_result_trailer enrolment_totals
    trailer-laid =
        (rw (← in-front 0 1 (omega arith)) at (trailer-row EB11 s m 0 (omega arith))) also
        (rw (← in-front 1 8 (omega arith)) at (trailer-row EB11 s m 1 (omega arith))) also
        (rw (← in-front 9 10 (omega arith), ← new-front 9 10 (omega arith)) at (trailer-row EB11 s m 2 (omega arith))) also
        names-agree also
        digits-here 0 (omega arith) also
        digits-here 1 (omega arith) also
        (rw (← kept.zeros) at (trailer-row EB11 s m 6 (omega arith))) also
        digits-here 2 (omega arith) also
        digits-here 3 (omega arith) also
        (rw (← kept.blank) at (trailer-row EB11 s m 9 (omega arith))) also
        (rw (← kept.mac) at blanks) also
        end
      where
        names-agree : same (part 19 8 last) (part 19 8 new) ≡ true
        names-agree = rw name-same (same_self (part 19 8 new))
