-- How many items a result copies and how many totals a trailer has at most, each computed once.
-- Assumes nothing.
use Prim.Native.Nat.{◌≤◌}
use mathlib.Core.Path.{◌≡◌, refl}
use borrow.Author.Tests.{leb-true}
use lib.Dec.{leb}
use lib.ListN.{length}
use Rattle.kinds.specs.declared.of_files.Kind.{Kind}
use Rattle.kinds.proofs.Forms.{of-form}
use Rattle.tables.specs.Copied.{among, items_but, enrolment_copied, debit_copied}
use Rattle.tables.specs.Tables.{data_front, enrolment_data, debit_data, enrolment_request_data, debit_request_data}
use Rattle.tables.specs.Totals.{enrolment_totals, debit_request_totals, debit_result_totals, totals_for, totals_of, most_totals}

pub enrolment-count : length enrolment_copied ≡ 13
unfolding enrolment_copied items_but among enrolment_request_data enrolment_data data_front
enrolment-count = refl

pub debit-count : length debit_copied ≡ 11
unfolding debit_copied items_but among debit_request_data debit_data data_front
debit-count = refl

pub totals-few : (k : Kind) → length (totals_of k) ≤ most_totals
unfolding enrolment_totals debit_request_totals debit_result_totals
totals-few k = leb-true (length (totals_of k)) most_totals (of-form (λ f. leb (length (totals_for f)) most_totals) refl k.form)
