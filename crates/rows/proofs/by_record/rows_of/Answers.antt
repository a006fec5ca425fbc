-- Each role of each kind by its table, unfolded.
use Rattle.std.proofs.Common.{rules}
use Rattle.tables.specs.Tables.{enrolment_header, header_front, debit_header, enrolment_request_data, enrolment_data, data_front, enrolment_result_data, debit_request_data, debit_data, debit_result_data, bank_enrolment_data, enrolment_request_trailer, enrolment_trailer, trailer_front, enrolment_result_trailer, debit_request_trailer, debit_result_trailer}
use Rattle.rows.proofs.by_record.rows_of.Goals as goal

pub returns-in-EnrolmentRequest : goal.returns-in-EnrolmentRequest
unfolding enrolment_header header_front
returns-in-EnrolmentRequest c = search rules

pub returns-in-DebitRequest : goal.returns-in-DebitRequest
unfolding debit_header header_front
returns-in-DebitRequest c = search rules

pub returns-in-EnrolmentRequest-form : goal.returns-in-EnrolmentRequest-form
unfolding enrolment_request_data enrolment_data data_front
returns-in-EnrolmentRequest-form c = search rules

pub returns-in-EnrolmentResult : goal.returns-in-EnrolmentResult
unfolding enrolment_result_data enrolment_data data_front
returns-in-EnrolmentResult c = search rules

pub returns-in-DebitRequest-form : goal.returns-in-DebitRequest-form
unfolding debit_request_data debit_data data_front
returns-in-DebitRequest-form c = search rules

pub returns-in-DebitResult : goal.returns-in-DebitResult
unfolding debit_result_data debit_data data_front
returns-in-DebitResult c = search rules

pub returns-in-BankEnrolment : goal.returns-in-BankEnrolment
unfolding bank_enrolment_data enrolment_data data_front
returns-in-BankEnrolment c = search rules

pub returns-in-EnrolmentRequest-form-2 : goal.returns-in-EnrolmentRequest-form-2
unfolding enrolment_request_trailer enrolment_trailer trailer_front
returns-in-EnrolmentRequest-form-2 c = search rules

pub returns-in-EnrolmentResult-form : goal.returns-in-EnrolmentResult-form
unfolding enrolment_result_trailer enrolment_trailer trailer_front
returns-in-EnrolmentResult-form c = search rules

pub returns-in-DebitRequest-form-2 : goal.returns-in-DebitRequest-form-2
unfolding debit_request_trailer trailer_front
returns-in-DebitRequest-form-2 c = search rules

pub returns-in-DebitResult-form : goal.returns-in-DebitResult-form
unfolding debit_result_trailer trailer_front
returns-in-DebitResult-form c = search rules
