-- A record that holds is the one that is built from what is taken from it.
-- Assumes nothing.
use Prim.Native.Nat.{ℕ, ◌+◌, ◌-◌, ◌*◌, ◌≤◌, ◌<◌}
use mathlib.Core.Bool.{true, false}
use mathlib.Core.List.{List, ◌++◌}
use mathlib.Core.Path.{◌≡◌, refl, sym, ◌∙◌, ap, subst}
use mathlib.Core.Logic.{⊎_elim}
use native.Mathlib.Omega.{arith}
use borrow.Author.Tests.{leb-true, ltb-true, ltb-false}
use lib.Dec.{leb, ltb}
use lib.ListN.{length, get_or, drop}
use Rattle.laws.specs.Part.{part}
use Rattle.laws.proofs.Bools.{either, clash}
use Rattle.laws.specs.Least.{least, further}
use Rattle.numbers.specs.Numbers.{says}
use Rattle.laws.proofs.Every.{every}
use Rattle.laws.proofs.Parts.{part_at, same-equal}
use Rattle.kinds.specs.declared.of_files.Kind.{Kind}
use Rattle.kinds.specs.declared.of_files.Form.{Form}
use Rattle.kinds.specs.declared.of_files.Form.TheVariants.{EnrolmentRequest, EnrolmentResult, DebitRequest, DebitResult, BankEnrolment}
use Rattle.kinds.specs.declared.of_files.Own.{Own}
use Rattle.kinds.specs.declared.of_files.Role.TheVariants.{Header, Data, Trailer}
use Rattle.tables.specs.declared.row.Row.{Row}
use Rattle.kinds.specs.Kinds.{fixed_of, fixed_for, kind}
use Rattle.kinds.proofs.Forms.{of-form}
use Rattle.tables.proofs.Fronts.{fronts, rows-front, front-row, front-some}
use Rattle.tables.specs.Tables.{header_front, enrolment_header, debit_header, data_front, enrolment_data, debit_data, enrolment_request_data, enrolment_result_data, debit_request_data, debit_result_data, bank_enrolment_data, trailer_front, enrolment_trailer, enrolment_request_trailer, debit_request_trailer, rows_for, rows_of}
use Rattle.tables.specs.Totals.{no_total, enrolment_totals, debit_request_totals, totals_of}
use Rattle.layout.specs.Items.{date_of, name_day}
use Rattle.layout.specs.Rules.{meets, holds}
use Rattle.layout.proofs.Judged.{All-hold}
use Rattle.laws.specs.Tabulate.{tabulate}
use Rattle.builder.specs.Records.{given_item, header_fill, header_byte, header_built, front_fill, data_byte, data_built, total_is, total_for, trailer_fill, trailer_byte, trailer_built}
use Rattle.writer.specs.Apart.{head_from}
use Rattle.laws.proofs.Tabs.{tab-list}
use Rattle.writer.specs.Says.{Bytes}
use Rattle.builder.proofs.Sizes.{body-size}
use Rattle.writer.proofs.Held.{part-place, All, end, ◌also◌, all-every, Back, back_at, given_back, only-back, same_back, says_back, total-back, word_back}

-- a list is what is tabulated, if it has these bytes
pub tab-is : (f : ℕ → ℕ) (n : ℕ) (s : List ℕ) → length s ≡ n → ((j : ℕ) → j < n → f j ≡ get_or s j 0) → tabulate f n ≡ s
tab-is f n s long same = rw (← long) (tab-list f s (λ j h. same j (rw long at h)))

-- the header
module _ (k : Kind) (H : List ℕ) (bytes : Bytes H) (day : drop 2 (date_of H) ≡ name_day H) where
  abbrev w : ℕ
  w = (fixed_of k).size

  abbrev HeaderBack : Row → Type 0
  HeaderBack = Back k H H 0 (header_fill k (head_from k H)) w

  header-front : (rest : List Row) → All HeaderBack rest → All HeaderBack (header_front ++ rest)
  unfolding header_front header_fill holds meets given_item
  header-front rest a =
      only-back H w 0 1 0x48 also
      only-back H w 1 8 0x30 also
      given_back H w 9 10 also
      word_back H w k.own.name 19 bytes also
      (λ i t j l h b. ap (λ (x : List ℕ). get_or x (j - 23) 0) day ∙ part-place H 23 4 j l h) also
      given_back H w 27 6 also
      given_back H w 27 6 also
      given_back H w 27 6 also
      a

header-rows-in : (f : Form) (o : Own) (H : List ℕ) → Bytes H → drop 2 (date_of H) ≡ name_day H → All (Back (kind f o) H H 0 (header_fill (kind f o) (head_from (kind f o) H)) (fixed_for f).size) (rows_for f Header)
unfolding header_front enrolment_header debit_header header_fill holds meets given_item
header-rows-in EnrolmentRequest o H b d = header-front (kind EnrolmentRequest o) H b d _ (only-back H 120 33 87 0x20 also end)
header-rows-in EnrolmentResult o H b d = header-front (kind EnrolmentResult o) H b d _ (only-back H 120 33 87 0x20 also end)
header-rows-in DebitRequest o H b d = header-front (kind DebitRequest o) H b d _ (given_back H 150 33 7 also given_back H 150 40 16 also only-back H 150 56 94 0x20 also end)
header-rows-in DebitResult o H b d = header-front (kind DebitResult o) H b d _ (given_back H 150 33 7 also given_back H 150 40 16 also only-back H 150 56 94 0x20 also end)
header-rows-in BankEnrolment o H b d = header-front (kind BankEnrolment o) H b d _ (only-back H 120 33 87 0x20 also end)

header-rows : (k : Kind) (H : List ℕ) → Bytes H → drop 2 (date_of H) ≡ name_day H → All (Back k H H 0 (header_fill k (head_from k H)) (fixed_of k).size) (rows_of k Header)
header-rows k H b d = header-rows-in k.form k.own H b d

-- the MMDD of the name is the date's
name-day : (k : Kind) (H : List ℕ) → All-hold k.own (rows_of k Header) H H 0 → drop 2 (date_of H) ≡ name_day H
unfolding header_front holds meets
name-day k H hold =
    same-equal (drop 2 (date_of H)) (name_day H) (rw (front-row k Header 7 (omega arith)) at (hold 7 (front-some k Header 7 (omega arith))))

pub header-again : (k : Kind) (H : List ℕ) → length H ≡ (fixed_of k).size → Bytes H → All-hold k.own (rows_of k Header) H H 0 → header_built k (head_from k H) ≡ H
unfolding header_built header_byte
header-again k H long bytes hold =
    tab-is (header_byte k (head_from k H)) (fixed_of k).size H long
    (λ j h. back_at k H H 0 (header_fill k (head_from k H)) (fixed_of k).size Header long (header-rows k H bytes (name-day k H hold)) hold j h h)

-- a data record: items 1 to 3 by their rows, then the body
module _ (k : Kind) (rec H : List ℕ) (n : ℕ) where
  abbrev fill : Row → ℕ → ℕ
  fill r j = front_fill r H n j

  abbrev DataBack : Row → Type 0
  DataBack = Back k rec H n fill 19

  behind : (r : Row) → leb 19 r.1 ≡ true → DataBack r
  behind r t i u j l h b = absurd (omega (arith, leb-true 19 r.1 t))

  data-front : (rest : List Row) → every (λ (r : Row). leb 19 r.1) rest ≡ true → All DataBack (data_front ++ rest)
  unfolding data_front front_fill holds meets
  data-front rest t =
      only-back rec 19 0 1 0x52 also
      says_back rec 19 n 1 8 also
      same_back rec 19 H 9 10 also
      all-every DataBack (λ (r : Row). leb 19 r.1) behind rest t

-- all rows past items 1 to 3 begin behind them
rest-behind : (k : Kind) → every (λ (r : Row). leb 19 r.1) (drop (length (fronts Data)) (rows_of k Data)) ≡ true
unfolding data_front enrolment_data debit_data enrolment_request_data enrolment_result_data debit_request_data debit_result_data bank_enrolment_data
rest-behind k = of-form (λ f. every (λ (r : Row). leb 19 r.1) (drop (length (fronts Data)) (rows_for f Data))) refl k.form

data-rows : (k : Kind) (rec H : List ℕ) (n : ℕ) → All (Back k rec H n (λ r j. front_fill r H n j) 19) (rows_of k Data)
data-rows k rec H n =
    subst (All (Back k rec H n (λ r j. front_fill r H n j) 19)) (sym (rows-front k Data))
    (data-front k rec H n (drop (length (fronts Data)) (rows_of k Data)) (rest-behind k))

pub data-again :
    (k : Kind) (H bodies rec : List ℕ) (i : ℕ) → length rec ≡ (fixed_of k).size → All-hold k.own (rows_of k Data) rec H (i + 1) →
    part (i * (fixed_of k).body) (fixed_of k).body bodies ≡ part 19 (fixed_of k).body rec → data_built k H bodies i ≡ rec
unfolding data_built data_byte
data-again k H bodies rec i long hold body =
    tab-is (data_byte k H bodies i) (fixed_of k).size rec long (λ j h. ⊎_elim (front j h) (behind j h) (either (ltb j 19)))
  where
    front : (j : ℕ) → j < (fixed_of k).size → ltb j 19 ≡ true → data_byte k H bodies i j ≡ get_or rec j 0
    front j h t =
        rw t
        (back_at k rec H (i + 1) (λ r x. front_fill r H (i + 1) x) 19 Data long (data-rows k rec H (i + 1)) hold j h (ltb-true j 19 t))

    behind : (j : ℕ) → j < (fixed_of k).size → ltb j 19 ≡ false → data_byte k H bodies i j ≡ get_or rec j 0
    behind j h f =
        let l : 19 ≤ j = ltb-false j 19 f in
        let size = body-size k in
        rw f
        (sym (part_at (i * (fixed_of k).body) (fixed_of k).body bodies (j - 19) (omega arith)) ∙
        (ap (λ (x : List ℕ). get_or x (j - 19) 0) body ∙ part-place rec 19 (fixed_of k).body j l (omega arith)))

-- the trailer of a request: each row is one byte, the header's, or a total
module _ (k : Kind) (rec H : List ℕ) (n : ℕ) (totals : List ℕ) where
  abbrev TrailerBack : Row → Type 0
  TrailerBack = Back k rec H n (λ r j. trailer_fill r H (total_for k totals r.0) j) (fixed_of k).size

  trailer-front : says (part 27 8 rec) (total_for k totals 5) ≡ true → (rest : List Row) → All TrailerBack rest → All TrailerBack (trailer_front ++ rest)
  unfolding trailer_front trailer_fill holds meets
  trailer-front t rest a =
      only-back rec (fixed_of k).size 0 1 0x54 also
      only-back rec (fixed_of k).size 1 8 0x39 also
      same_back rec (fixed_of k).size H 9 10 also
      same_back rec (fixed_of k).size H 19 8 also
      total-back rec (fixed_of k).size (total_for k totals 5) 27 8 t also
      a

-- each total of the trailer says its number
abbrev pub Said : Kind → List ℕ → List ℕ → Type 0
Said k rec totals =
    (t : ℕ) → t < length (totals_of k) → says (part (get_or (totals_of k) t no_total).1 (get_or (totals_of k) t no_total).2 rec) (get_or totals t 0) ≡ true

trailer-rows-in :
    (f : Form) (o : Own) → (fixed_for f).written ≡ true → (rec H : List ℕ) (n : ℕ) (totals : List ℕ) → Said (kind f o) rec totals →
    All (Back (kind f o) rec H n (λ r j. trailer_fill r H (total_for (kind f o) totals r.0) j) (fixed_for f).size) (rows_for f Trailer)
unfolding trailer_front enrolment_trailer enrolment_request_trailer debit_request_trailer trailer_fill holds meets enrolment_totals debit_request_totals total_for total_is least further
trailer-rows-in EnrolmentRequest o w rec H n totals said =
    trailer-front (kind EnrolmentRequest o) rec H n totals (said 0 (omega arith)) _
    (total-back rec 120 (get_or totals 1 0) 35 8 (said 1 (omega arith)) also
    only-back rec 120 43 8 0x30 also
    total-back rec 120 (get_or totals 2 0) 51 8 (said 2 (omega arith)) also
    total-back rec 120 (get_or totals 3 0) 59 8 (said 3 (omega arith)) also
    only-back rec 120 67 43 0x20 also
    only-back rec 120 110 10 0x20 also
    end)
trailer-rows-in EnrolmentResult o w rec H n totals said = absurd (clash refl (sym w))
trailer-rows-in DebitRequest o w rec H n totals said =
    trailer-front (kind DebitRequest o) rec H n totals (said 0 (omega arith)) _
    (total-back rec 150 (get_or totals 1 0) 35 8 (said 1 (omega arith)) also
    total-back rec 150 (get_or totals 2 0) 43 13 (said 2 (omega arith)) also
    only-back rec 150 56 8 0x30 also
    only-back rec 150 64 13 0x30 also
    only-back rec 150 77 63 0x20 also
    only-back rec 150 140 10 0x20 also
    end)
trailer-rows-in DebitResult o w rec H n totals said = absurd (clash refl (sym w))
trailer-rows-in BankEnrolment o w rec H n totals said = absurd (clash refl (sym w))

trailer-rows :
    (k : Kind) → (fixed_of k).written ≡ true → (rec H : List ℕ) (n : ℕ) (totals : List ℕ) → Said k rec totals →
    All (Back k rec H n (λ r j. trailer_fill r H (total_for k totals r.0) j) (fixed_of k).size) (rows_of k Trailer)
trailer-rows k w = trailer-rows-in k.form k.own w

pub trailer-again :
    (k : Kind) → (fixed_of k).written ≡ true → (H rec totals : List ℕ) (n : ℕ) → length rec ≡ (fixed_of k).size →
    All-hold k.own (rows_of k Trailer) rec H n → Said k rec totals → trailer_built k H totals ≡ rec
unfolding trailer_built trailer_byte
trailer-again k e H rec totals n long hold said =
    tab-is (trailer_byte k H totals) (fixed_of k).size rec long
    (λ j h.
    back_at k rec H n (λ r x. trailer_fill r H (total_for k totals r.0) x) (fixed_of k).size Trailer long (trailer-rows k e rec H n totals said) hold j h h)
