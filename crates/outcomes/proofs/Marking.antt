-- The marked edge cases, computed: the definitions say what the paper says.
-- Assumes nothing.
use mathlib.Core.List.{map}
use mathlib.Core.Path.{◌≡◌, refl}
use Rattle.laws.specs.Least.{least, further, some, none}
use Rattle.laws.specs.Part.{part, differ, same, begins}
use Rattle.laws.specs.Sum.{sum}
use Rattle.laws.specs.Joined.{all}
use Rattle.laws.specs.Tabulate.{tabulate}
use Rattle.text.specs.Characters.{within, takes, stops_at, front, each, digits, spaces, zeros, code_text, filled, letter, two_byte, one_byte}
use Rattle.text.specs.Passbook.{setting, two_byte_form, one_byte_form, passbook_form}
use Rattle.numbers.specs.Numbers.{digit_of, letter_of, value_to, value_of, digits_of, says, word_of}
use Rattle.numbers.specs.Dates.{month_days, leap_day, days_of, has_day, is_date}
use Rattle.kinds.specs.Kinds.{kinds, kind_from, name_is, kind_of}
use Rattle.tables.specs.Among.{code_is, place_among, is_among}
use Rattle.tables.specs.Codes.{bank_codes, centre_codes, table_codes}
use Rattle.tables.specs.Makers.{maker_of}
use Rattle.tables.specs.Tables.{header_front, debit_header, data_front, debit_data, debit_request_data, debit_result_data, trailer_front, debit_request_trailer, debit_result_trailer}
use Rattle.tables.specs.Totals.{debit_request_totals, debit_result_totals}
use Rattle.tables.specs.Copied.{among, items_but, debit_copied}
use Rattle.answers.specs.Answers.{refuses, ◌then◌, refuses_at, told_at, first_told}
use Rattle.layout.specs.Rules.{institution, failed, partly, enough, meets, holds}
use Rattle.layout.specs.Judging.{row_tells, judge_by, judge_of}
use Rattle.records.specs.Records.{record_at, count_of, key_at}
use Rattle.reader.specs.Judged.{role_of, judged_at, records_tell}
use Rattle.records.specs.Quantities.{worth, worth_at, quantity_of}
use Rattle.reader.specs.Totals.{total_holds, total_tells, totals_tell}
use Rattle.reader.specs.Keys.{repeats, repeat_told, keys_tell}
use Rattle.reader.specs.Reading.{is_whole, length_tells, read_as, read_of}
use Rattle.reader.specs.Samples.{code, letters, header_rest, header_for, trailer_for, no_totals, empty_on}
use Rattle.kinds.specs.Pairs.{pairs, pair_from, request_is, pair_of}
use Rattle.agreement.specs.Items.{header_items, agrees, item_tells, items_tell}
use Rattle.agreement.specs.Amounts.{base_of, possible, part_of_one, debit_tells}
use Rattle.agreement.specs.Meeting.{meets_tell, headers_tell}
use Rattle.agreement.specs.Marks.{mark_in, code_in}
use Rattle.matching.specs.Matching.{has_key, place_of, request_for, result_for}
use Rattle.matching.specs.Amounts.{asked_at, not_taken_by, not_taken_at, taken_at}
use Rattle.pair.specs.Results.{result_tells, results_tell}
use Rattle.pair.specs.Pairing.{room_tells, pair_by, lists_fit, pair_as, pair_told}
use Rattle.outcomes.specs.Outcomes.{failed_by, outcome_at, asks_for, outcome_as, outcome_told}
use Rattle.outcomes.specs.Samples.{account, payer, passbook, record_for, request_totals, request_file, result_of, marked, result_totals, result_file}
use Rattle.outcomes.specs.Marked.{Case, of_file, of_sized, of_record, of_day, request, of_pair, of_request, broken_account, cases}

pub marked-cases : map (λ (c : Case). c.said) cases ≡ map (λ (c : Case). c.paper) cases
unfolding least further some none part differ same sum within takes letter stops_at front each digits spaces zeros code_text filled two_byte one_byte begins setting two_byte_form one_byte_form passbook_form digit_of value_to value_of digits_of says word_of month_days leap_day days_of has_day is_date kind_of kind_from kinds name_is tabulate letter_of bank_codes centre_codes table_codes code_is place_among is_among maker_of header_front debit_header data_front debit_data debit_request_data debit_result_data trailer_front debit_request_trailer debit_result_trailer debit_request_totals debit_result_totals among items_but debit_copied refuses ◌then◌ refuses_at told_at first_told institution failed partly enough meets holds row_tells judge_by judge_of record_at count_of role_of judged_at records_tell worth worth_at quantity_of total_holds total_tells totals_tell key_at repeats repeat_told keys_tell is_whole length_tells read_as read_of all code letters header_rest header_for trailer_for no_totals empty_on pair_of pair_from pairs request_is header_items agrees item_tells items_tell has_key place_of request_for result_for base_of possible part_of_one debit_tells asked_at not_taken_by not_taken_at taken_at meets_tell result_tells results_tell headers_tell room_tells pair_by lists_fit pair_as pair_told mark_in code_in failed_by outcome_at asks_for outcome_as outcome_told account payer passbook record_for request_totals request_file result_of marked result_totals result_file of_file of_sized of_record of_day request of_pair of_request broken_account cases
marked-cases = refl
