-- The totals of a file to be written: each item says its quantity as long as it has digits enough.
-- Assumes nothing.
use Prim.Native.Nat.{ℕ, zero, suc, ◌+◌, ◌-◌, ◌^◌, ◌≤◌, ◌<◌}
use mathlib.Core.Bool.{true}
use mathlib.Core.List.{List}
use mathlib.Core.Path.{◌≡◌, refl, sym, ◌∙◌, ap}
use native.Mathlib.Omega.{arith}
use borrow.Author.Tests.{lt-ltb, leb-true}
use lib.Dec.{leb, ltb}
use lib.ListN.{length, get_or}
use lib.Seq.{ext_get_or}
use Rattle.laws.specs.Least.{further, least, none}
use Rattle.laws.specs.Part.{part}
use Rattle.laws.proofs.Bools.{clash}
use Rattle.laws.proofs.Parts.{part_length, part_at}
use Rattle.laws.proofs.Tabs.{tab-at}
use Rattle.numbers.specs.Numbers.{digits_of}
use Rattle.numbers.proofs.Values.{digits-length, says-within}
use Rattle.kinds.specs.declared.of_files.Kind.{Kind}
use Rattle.kinds.specs.declared.of_files.Form.{Form}
use Rattle.kinds.specs.declared.of_files.Form.TheVariants.{EnrolmentRequest, EnrolmentResult, DebitRequest, DebitResult, BankEnrolment}
use Rattle.kinds.specs.declared.of_files.Own.{Own}
use Rattle.kinds.specs.declared.of_files.Role.TheVariants.{Trailer}
use Rattle.tables.specs.declared.row.Row.{Row}
use Rattle.tables.specs.declared.totals.Total.{Total}
use Rattle.kinds.specs.Kinds.{kind, fixed_for, fixed_of}
use Rattle.tables.specs.Rows.{blank}
use Rattle.tables.specs.Tables.{trailer_front, enrolment_trailer, enrolment_request_trailer, debit_request_trailer, rows_of}
use Rattle.tables.specs.Totals.{no_total, enrolment_totals, debit_request_totals, debit_result_totals, totals_for, totals_of, most_totals}
use Rattle.records.specs.Records.{record_of, trailer_of}
use Rattle.records.specs.Quantities.{quantity_of}
use Rattle.reader.specs.Totals.{total_holds}
use Rattle.reader.specs.Meets.{total_at}
use Rattle.builder.specs.Bytes.{fill_by}
use Rattle.builder.specs.Records.{Head, header_built, built_quantity, built_total, built_totals, total_is, total_for, trailer_fill, trailer_byte, trailer_built}
use Rattle.builder.specs.Files.{file_of}
use Rattle.builder.proofs.Lengths.{trailer-length}
use Rattle.builder.proofs.Over.{starts, ends_past, starts-over}
use Rattle.tables.proofs.Counts.{totals-few}
use Rattle.kinds.proofs.Forms.{of-form}
use Rattle.laws.proofs.Every.{every, every-at}
use Rattle.writer.proofs.Built.{file-trailer, file-quantity}
use Rattle.writer.proofs.Taken.{file-count}

-- where a row of the trailer is given its item's total, the total's digits stand there
module _ (k : Kind) (H totals : List ℕ) (i : ℕ) where
  abbrev r : Row
  r = get_or (rows_of k Trailer) i blank

  abbrev Given : Type 0
  Given = (given theirs : ℕ) → fill_by r.3 given 0 0 theirs ≡ given

  given-total :
      starts (rows_of k Trailer) i ≡ true → Given → r.1 + r.2 ≤ (fixed_of k).size →
      part r.1 r.2 (trailer_built k H totals) ≡ digits_of r.2 (total_for k totals r.0)
  unfolding trailer_built trailer_byte trailer_fill
  given-total t fills inside = ext_get_or 0 (part r.1 r.2 (trailer_built k H totals)) (digits_of r.2 n) (size ∙ sym (digits-length r.2 n)) same
    where
      n : ℕ
      n = total_for k totals r.0

      size : length (part r.1 r.2 (trailer_built k H totals)) ≡ r.2
      size = part_length r.1 r.2 (trailer_built k H totals) (rw (trailer-length k H totals) inside)

      same : (d : ℕ) → d < length (part r.1 r.2 (trailer_built k H totals)) → get_or (part r.1 r.2 (trailer_built k H totals)) d 0 ≡ get_or (digits_of r.2 n) d 0
      same d l =
          let b : d < r.2 = omega (arith, size) in
          rw (
            part_at r.1 r.2 (trailer_built k H totals) d b,
            tab-at (trailer_byte k H totals) (fixed_of k).size (r.1 + d) (omega arith),
            starts-over (rows_of k Trailer) i d t b,
            fills (get_or (digits_of r.2 n) (r.1 + d - r.1) 0) (get_or H (r.1 + d) 0),
          ) (ap (λ (x : ℕ). get_or (digits_of r.2 n) x 0) (omega arith))

-- total t of a kind
abbrev at : Kind → ℕ → Total
at k t = get_or (totals_of k) t no_total

-- the digits of each total stand at its item
totals-stand-in :
    (f : Form) (o : Own) → (fixed_for f).written ≡ true → (H totals : List ℕ) (t : ℕ) → t < length (totals_for f) →
    part (at (kind f o) t).1 (at (kind f o) t).2 (trailer_built (kind f o) H totals) ≡ digits_of (at (kind f o) t).2 (get_or totals t 0)
unfolding starts ends_past none least further trailer_front enrolment_trailer enrolment_request_trailer debit_request_trailer enrolment_totals debit_request_totals total_for total_is
totals-stand-in EnrolmentRequest o e H totals zero h = given-total (kind EnrolmentRequest o) H totals 4 refl (λ g t. refl) (omega arith)
totals-stand-in EnrolmentRequest o e H totals (suc zero) h = given-total (kind EnrolmentRequest o) H totals 5 refl (λ g t. refl) (omega arith)
totals-stand-in EnrolmentRequest o e H totals (suc (suc zero)) h = given-total (kind EnrolmentRequest o) H totals 7 refl (λ g t. refl) (omega arith)
totals-stand-in EnrolmentRequest o e H totals (suc (suc (suc zero))) h = given-total (kind EnrolmentRequest o) H totals 8 refl (λ g t. refl) (omega arith)
totals-stand-in EnrolmentRequest o e H totals (suc (suc (suc (suc t)))) h = absurd (omega arith)
totals-stand-in EnrolmentResult o e H totals t h = absurd (clash refl (sym e))
totals-stand-in DebitRequest o e H totals zero h = given-total (kind DebitRequest o) H totals 4 refl (λ g t. refl) (omega arith)
totals-stand-in DebitRequest o e H totals (suc zero) h = given-total (kind DebitRequest o) H totals 5 refl (λ g t. refl) (omega arith)
totals-stand-in DebitRequest o e H totals (suc (suc zero)) h = given-total (kind DebitRequest o) H totals 6 refl (λ g t. refl) (omega arith)
totals-stand-in DebitRequest o e H totals (suc (suc (suc t))) h = absurd (omega arith)
totals-stand-in DebitResult o e H totals t h = absurd (clash refl (sym e))
totals-stand-in BankEnrolment o e H totals t h = absurd (clash refl (sym e))

totals-stand :
    (k : Kind) → (fixed_of k).written ≡ true → (H totals : List ℕ) (t : ℕ) → t < length (totals_of k) →
    part (at k t).1 (at k t).2 (trailer_built k H totals) ≡ digits_of (at k t).2 (get_or totals t 0)
totals-stand k e = totals-stand-in k.form k.own e

total-narrow : (k : Kind) (t : ℕ) → t < length (totals_of k) → (at k t).2 ≤ 19
unfolding enrolment_totals debit_request_totals debit_result_totals
total-narrow k t h =
    leb-true (at k t).2 19
    (every-at (λ (x : Total). leb x.2 19) (totals_of k) (of-form (λ f. every (λ (x : Total). leb x.2 19) (totals_for f)) refl k.form) t no_total h)

module _ (k : Kind) (h : Head) (bodies : List ℕ) where
  abbrev H : List ℕ
  H = header_built k h

  -- the trailer of the file is the one that was built
  trailer-is : trailer_of k (file_of k h bodies) ≡ trailer_built k H (built_totals k H bodies)
  trailer-is = ap (λ (i : ℕ). record_of k (file_of k h bodies) i) (omega (arith, file-count k h bodies)) ∙ file-trailer k h bodies

  -- *Totals within their digits*: a total of the file to be written holds exactly when its item has digits enough for it
  pub total-within :
      (fixed_of k).written ≡ true → (t : ℕ) → t < length (totals_of k) →
      total_at k (file_of k h bodies) t ≡ ltb (quantity_of k (file_of k h bodies) (at k t).3) (10 ^ (at k t).2)
  unfolding total_holds built_totals built_total
  total-within e t l =
      rw (
        trailer-is,
        totals-stand k e H (built_totals k H bodies) t l,
        tab-at (built_total k H bodies) most_totals t (omega (arith, totals-few k)),
        lt-ltb t (length (totals_of k)) l,
        file-quantity k h bodies (at k t).3,
      ) (says-within (at k t).2 (built_quantity k H bodies (at k t).3) (total-narrow k t l))
