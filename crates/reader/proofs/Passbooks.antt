-- The passbook texts of an accepted debit request.
-- Assumes nothing.
use Prim.Native.Nat.{ℕ, ◌+◌, ◌<◌}
use mathlib.Core.Bool.{true}
use mathlib.Core.List.{List}
use mathlib.Core.Path.{◌≡◌, ◌∙◌}
use native.Mathlib.Omega.{arith}
use Rattle.text.specs.Passbook.{passbook_form, forms_of}
use Rattle.text.proofs.Passbooks.{one_of_three}
use Rattle.kinds.specs.declared.of_files.Kind.{Kind}
use Rattle.kinds.specs.declared.of_files.Form.TheVariants.{DebitRequest}
use Rattle.tables.specs.Tables.{data_front, debit_data, debit_request_data}
use Rattle.layout.specs.Items.{passbook_of}
use Rattle.layout.specs.Rules.{meets, holds}
use Rattle.records.specs.Records.{record_of, data_of}
use Rattle.reader.specs.Meets.{Meets}
use Rattle.reader.proofs.Accepted.{data-row}

module _ (k : Kind) (request : k.form ≡ DebitRequest) (s : List ℕ) (m : Meets k s) (i : ℕ) (h : i < data_of k s) where
  in-form : passbook_form (passbook_of (record_of k s (i + 1))) ≡ true
  unfolding data_front debit_data debit_request_data holds meets
  in-form = rw request (rw request at (data-row k s m i h 10 (rw request (omega arith))))

  -- every data record has exactly one of the three forms
  pub one-form-each : forms_of (passbook_of (record_of k s (i + 1))) ≡ 1
  one-form-each = one_of_three (passbook_of (record_of k s (i + 1))) ∙ rw in-form
