-- No kind's reader is trivial, computed.
-- Assumes nothing.
use Prim.Native.Nat.{ℕ, ◌/◌, ◌%◌}
use mathlib.Core.Bool.{true, false, not, ◌&&◌}
use mathlib.Core.List.{[]}
use mathlib.Core.Path.{◌≡◌, refl}
use borrow.Author.Tests.{eqb-true, not-true}
use lib.Dec.{eqb, leb}
use Rattle.laws.proofs.Every.{every}
use Rattle.laws.specs.Joined.{all}
use Rattle.laws.specs.Tabulate.{tabulate}
use Rattle.laws.specs.Least.{least, further, some, none}
use Rattle.laws.specs.Part.{part, differ, same}
use Rattle.laws.specs.Sum.{sum}
use Rattle.text.specs.Characters.{within, takes, stops_at, front, each, digits, spaces, zeros, code_text, filled}
use Rattle.numbers.specs.Numbers.{digit_of, letter_of, value_to, value_of, digits_of, says, word_of}
use Rattle.numbers.specs.Dates.{month_days, leap_day, days_of, has_day, is_date}
use Rattle.kinds.specs.declared.of_files.Kind.{Kind}
use Rattle.std.specs.Prelude.{Some}
use Rattle.kinds.specs.Kinds.{fixed_for, kinds, kind_of}
use Rattle.kinds.proofs.Forms.{of-form}
use Rattle.kinds.proofs.Known.{known-every}
use Rattle.tables.specs.Tables.{header_front, enrolment_header, debit_header, trailer_front, enrolment_trailer, enrolment_request_trailer, enrolment_result_trailer, debit_request_trailer, debit_result_trailer}
use Rattle.tables.specs.Totals.{enrolment_totals, debit_request_totals, debit_result_totals}
use Rattle.answers.specs.Answers.{accepted, refused, refuses, ◌then◌, refuses_at, told_at, first_told}
use Rattle.layout.specs.Rules.{institution, meets, holds}
use Rattle.layout.specs.Judging.{row_tells, judge_by, judge_of}
use Rattle.records.specs.Records.{record_at, count_of}
use Rattle.reader.specs.Judged.{role_of, judged_at, records_tell}
use Rattle.records.specs.Quantities.{worth, worth_at, quantity_of}
use Rattle.reader.specs.Totals.{total_holds, total_tells, totals_tell}
use Rattle.reader.specs.Keys.{repeats, repeat_told, keys_tell}
use Rattle.reader.specs.Reading.{is_whole, length_tells, read_as}
use Rattle.reader.proofs.Accepted.{read-zero}
use Rattle.reader.proofs.Exact.{read_short}
use Rattle.reader.specs.Samples.{code, letters, header_rest, header_for, trailer_for, no_totals, empty_on, empty_file}

-- a sample of each kind has the number 0, computed over all kinds
samples-good : every (λ k. eqb (read_as k (empty_file k)).number 0) kinds ≡ true
unfolding kinds tabulate letter_of least further some none part differ same sum within takes stops_at front each digits spaces zeros code_text filled digit_of value_to value_of digits_of says word_of month_days leap_day days_of has_day is_date institution meets holds header_front enrolment_header debit_header trailer_front enrolment_trailer enrolment_request_trailer enrolment_result_trailer debit_request_trailer debit_result_trailer enrolment_totals debit_request_totals debit_result_totals refuses ◌then◌ refuses_at told_at first_told row_tells judge_by judge_of record_at count_of role_of judged_at records_tell worth worth_at quantity_of total_holds total_tells totals_tell repeats repeat_told keys_tell is_whole length_tells read_as all code letters header_rest header_for no_totals trailer_for empty_on empty_file
samples-good = refl

-- no bytes are no whole number of records
nothing-whole : (k : Kind) → is_whole k 0 ≡ false
unfolding is_whole
nothing-whole k = not-true (is_whole k 0) (of-form (λ f. not (eqb (0 % (fixed_for f).size) 0 && leb 2 (0 / (fixed_for f).size))) refl k.form)

-- so they are refused as 2, of any kind
pub read-nothing : (k : Kind) → read_as k [] ≡ refused 2
read-nothing k = read_short k [] (nothing-whole k)

-- *Not trivial*: of each kind that a number names a file is accepted and another refused
pub not-trivial : (n : ℕ) (k : Kind) → kind_of n ≡ Some k → (read_as k (empty_file k) ≡ accepted) × (read_as k [] ≡ refused 2)
not-trivial n k e = (
  read-zero k (empty_file k) (eqb-true _ 0 (known-every (λ l. eqb (read_as l (empty_file l)).number 0) samples-good n k e)),
  read-nothing k,
)
