-- What is told of item 9 of a debit request: 0068 first, then 0087 for all that is in none of the three forms.
-- Assumes nothing.
use Prim.Native.Nat.{ℕ, ◌<◌}
use mathlib.Core.Bool.{true, false}
use mathlib.Core.List.{List}
use mathlib.Core.Path.{◌≡◌}
use native.Mathlib.Omega.{arith}
use lib.ListN.{get_or}
use Rattle.text.specs.Characters.{each}
use Rattle.text.specs.Passbook.{passbook_form}
use Rattle.text.proofs.Passbooks.{form-wide}
use Rattle.kinds.specs.declared.of_files.Kind.{Kind}
use Rattle.kinds.specs.declared.of_files.Own.{Own}
use Rattle.kinds.specs.declared.of_files.Form.TheVariants.{DebitRequest}
use Rattle.kinds.specs.declared.of_files.Role.TheVariants.{Data}
use Rattle.tables.specs.declared.row.Class.TheVariants.{PassbookForm}
use Rattle.tables.specs.Rows.{blank, passbook}
use Rattle.tables.specs.Tables.{data_front, debit_data, debit_request_data}
use Rattle.answers.specs.Answers.{refused_at}
use Rattle.answers.proofs.Refusals.{so_far, told_more}
use Rattle.layout.specs.Items.{passbook_of}
use Rattle.layout.specs.Rules.{meets, holds}
use Rattle.layout.specs.Judging.{row_tells, judge_by, judge_of}
use Rattle.layout.proofs.Judged.{row-good, judge-stop}

-- what meets the class of requests meets that of results too
pub form-meets :
    (o : Own) (item theirs rec header : List ℕ) (n : ℕ) →
    meets PassbookForm o item theirs rec header n ≡ true → meets passbook o item theirs rec header n ≡ true
unfolding meets
form-meets o item theirs rec header n t = form-wide item t

module _ (o : Own) (rec header : List ℕ) (n : ℕ) where
  -- items 1 to 8 keep their rules
  abbrev pub Up-to-8 : Type 0
  Up-to-8 = (i : ℕ) → i < 9 → holds o rec header n (get_or debit_request_data i blank) ≡ true

  below : Up-to-8 → each 0x20 0xFF (passbook_of rec) ≡ false → judge_by o debit_request_data rec header n ≡ refused_at 4 n 9 0x30303638
  unfolding debit_request_data debit_data data_front holds meets
  below h f =
      judge-stop o debit_request_data rec header n 9 (omega arith)
      (so_far (row_tells o debit_request_data rec header n) 9 (λ i l. row-good o debit_request_data rec header n i (h i l))) f

  no-form : Up-to-8 → each 0x20 0xFF (passbook_of rec) ≡ true → passbook_form (passbook_of rec) ≡ false → judge_by o debit_request_data rec header n ≡ refused_at 4 n 9 0x30303837
  unfolding debit_request_data debit_data data_front holds meets
  no-form h t f =
      judge-stop o debit_request_data rec header n 10 (omega arith)
      (told_more (row_tells o debit_request_data rec header n) 9
      (so_far (row_tells o debit_request_data rec header n) 9 (λ i l. row-good o debit_request_data rec header n i (h i l)))
      (row-good o debit_request_data rec header n 9 t)) f

-- of a request of either debit
module _ (k : Kind) (request : k.form ≡ DebitRequest) (rec header : List ℕ) (n : ℕ) where
  pub item9-0068 : Up-to-8 k.own rec header n → each 0x20 0xFF (passbook_of rec) ≡ false → judge_of k Data rec header n ≡ refused_at 4 n 9 0x30303638
  unfolding judge_of
  item9-0068 h f = rw request (below k.own rec header n h f)

  pub item9-0087 :
      Up-to-8 k.own rec header n → each 0x20 0xFF (passbook_of rec) ≡ true → passbook_form (passbook_of rec) ≡ false →
      judge_of k Data rec header n ≡ refused_at 4 n 9 0x30303837
  unfolding judge_of
  item9-0087 h t f = rw request (no-form k.own rec header n h t f)
