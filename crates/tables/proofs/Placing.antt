-- Every place that is read beside its row is a row's place.
-- Assumes nothing.
use mathlib.Core.Bool.{true}
use mathlib.Core.Path.{◌≡◌, refl}
use Rattle.kinds.specs.declared.of_files.Form.{Form}
use Rattle.kinds.proofs.Forms.{of-form}
use Rattle.tables.specs.Tables.{header_front, enrolment_header, debit_header, data_front, enrolment_data, debit_data, enrolment_request_data, enrolment_result_data, debit_request_data, debit_result_data, bank_enrolment_data, trailer_front, enrolment_trailer, enrolment_request_trailer, enrolment_result_trailer, debit_request_trailer, debit_result_trailer}
use Rattle.tables.specs.Totals.{enrolment_totals, debit_request_totals, debit_result_totals}
use Rattle.tables.specs.Places.{place_in, stands, all_stand, totals_stand, key_is, body_stands, places_stand}

-- the computed test over all places of all forms
pub places-stand : (f : Form) → places_stand f ≡ true
unfolding places_stand place_in stands all_stand totals_stand key_is body_stands header_front enrolment_header debit_header data_front enrolment_data debit_data enrolment_request_data enrolment_result_data debit_request_data debit_result_data bank_enrolment_data trailer_front enrolment_trailer enrolment_request_trailer enrolment_result_trailer debit_request_trailer debit_result_trailer enrolment_totals debit_request_totals debit_result_totals
places-stand = of-form places_stand refl
