-- Each kind by its table, unfolded.
use Rattle.std.proofs.Common.{rules}
use Rattle.tables.specs.Totals.{enrolment_totals, debit_request_totals, debit_result_totals}
use Rattle.tables.proofs.totals.totals_of.Goals as goal

pub returns-in-EnrolmentRequest : goal.returns-in-EnrolmentRequest
unfolding enrolment_totals
returns-in-EnrolmentRequest c = search rules

pub returns-in-DebitRequest : goal.returns-in-DebitRequest
unfolding debit_request_totals
returns-in-DebitRequest c = search rules

pub returns-in-DebitResult : goal.returns-in-DebitResult
unfolding debit_result_totals
returns-in-DebitResult c = search rules
