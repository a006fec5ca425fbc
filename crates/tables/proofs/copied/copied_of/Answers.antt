-- Each kind by its table, unfolded.
use Rattle.std.proofs.Common.{rules}
use Rattle.tables.specs.Copied.{among, items_but, enrolment_copied, debit_copied}
use Rattle.tables.specs.Tables.{data_front, enrolment_data, debit_data, enrolment_request_data, debit_request_data}
use Rattle.tables.proofs.copied.copied_of.Goals as goal

pub returns-in-EnrolmentRequest : goal.returns-in-EnrolmentRequest
unfolding enrolment_copied items_but among enrolment_request_data enrolment_data data_front
returns-in-EnrolmentRequest c = search rules

pub returns-in-DebitRequest : goal.returns-in-DebitRequest
unfolding debit_copied items_but among debit_request_data debit_data data_front
returns-in-DebitRequest c = search rules
