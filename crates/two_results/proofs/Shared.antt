-- What two result records share that are the same but for serial and failure code.
-- Assumes nothing.
use Prim.Native.Nat.{ℕ, zero, suc, ◌+◌, ◌<◌}
use mathlib.Core.Bool.{true}
use mathlib.Core.List.{List}
use mathlib.Core.Path.{◌≡◌, refl, sym, ◌∙◌, ap}
use native.Mathlib.Omega.{arith}
use borrow.Author.Tests.{lt-ltb}
use lib.ListN.{length, get_or}
use Rattle.laws.proofs.Every.{every, every-at}
use Rattle.laws.proofs.Parts.{part-byte}
use Rattle.laws.proofs.Sums.{sum_same, sum-along}
use Rattle.numbers.specs.Numbers.{value_of}
use Rattle.kinds.specs.declared.of_files.Kind.{Kind}
use Rattle.kinds.specs.declared.of_files.Own.{Own}
use Rattle.kinds.specs.declared.of_pairs.PairKind.{PairKind}
use Rattle.kinds.specs.declared.of_pairs.Family.TheVariants.{Debit}
use Rattle.kinds.specs.Pairs.{pair_kind, result_kind}
use Rattle.tables.specs.declared.totals.Quantity.{Quantity}
use Rattle.tables.specs.Copied.{no_item, among, items_but, debit_copied}
use Rattle.tables.specs.Tables.{data_front, debit_data, debit_request_data, debit_result_data}
use Rattle.tables.specs.Places.{place, amount_place, place_in}
use Rattle.tables.specs.Totals.{no_total, debit_result_totals, totals_of}
use Rattle.layout.specs.Items.{amount_of, mark_of}
use Rattle.records.specs.Records.{record_of, data_of}
use Rattle.records.specs.Quantities.{worth, worth_at, quantity_of}
use Rattle.agreement.specs.Items.{Records, compared_of}
use Rattle.agreement.specs.Same.{SameItem, Agree}
use Rattle.agreement.specs.Possible.{PossibleIn}
use Rattle.agreement.proofs.Places.{compared-inside}
use Rattle.two_results.specs.Same.{SameBut, serial_and_code}
use Rattle.two_results.proofs.Bytes.{clear, same-part}

module _ (a b : Own) where
  abbrev debit : PairKind
  debit = pair_kind Debit a b

  abbrev kind : Kind
  kind = result_kind debit

  -- every copied item is clear of serial and code
  copied-clear : every (λ c. every (clear c) (serial_and_code kind)) (compared_of debit Records) ≡ true
  unfolding serial_and_code place_in debit_copied items_but among debit_request_data debit_result_data debit_data data_front
  copied-clear = refl

  module _ (x y : List ℕ) (e : SameBut (serial_and_code kind) x y) (long : length x ≡ 150) where
    -- copied items, amount and mark
    pub same-copied : (c : ℕ) → c < length (compared_of debit Records) → SameItem (get_or (compared_of debit Records) c no_item) x y
    same-copied c h =
        same-part (serial_and_code kind) x y e (get_or (compared_of debit Records) c no_item)
        (every-at (λ c. every (clear c) (serial_and_code kind)) (compared_of debit Records) copied-clear c no_item h)
        (rw long (compared-inside debit Records c h))

    pub same-amount : amount_of x ≡ amount_of y
    unfolding serial_and_code place_in debit_result_data debit_data data_front
    same-amount = ap value_of (same-part (serial_and_code kind) x y e amount_place refl (omega (arith, long)))

    pub same-mark : mark_of x ≡ mark_of y
    unfolding serial_and_code place_in debit_result_data debit_data data_front
    same-mark = part-byte 68 1 68 x y (same-part (serial_and_code kind) x y e (place 8 68 1) refl (omega (arith, long))) (omega arith) (omega arith)

    -- so what they add to every total but the last, which goes by the codes
    pub same-worth : (t : ℕ) → t < 5 → worth (get_or (totals_of kind) t no_total).3 x ≡ worth (get_or (totals_of kind) t no_total).3 y
    unfolding worth debit_result_totals
    same-worth zero h = refl
    same-worth (suc zero) h = rw same-mark
    same-worth (suc (suc zero)) h = rw (same-mark, same-amount)
    same-worth (suc (suc (suc zero))) h = rw same-mark
    same-worth (suc (suc (suc (suc zero)))) h = rw (same-mark, same-amount)
    same-worth (suc (suc (suc (suc (suc t))))) h = absurd (omega arith)

    -- a request that one of them can answer the other can, too
    pub same-agree : (request : List ℕ) → Agree debit request x → Agree debit request y
    same-agree request agree c h = agree c h ∙ same-copied c h

    pub same-possible : {request : List ℕ} → PossibleIn a.least Debit request x → PossibleIn a.least Debit request y
    same-possible (PossibleIn.nothing m f) = PossibleIn.nothing (sym same-mark ∙ m) (sym same-amount ∙ f)
    same-possible (PossibleIn.some m ne l less base) =
        PossibleIn.some (sym same-mark ∙ m) ne (rw same-amount at l) (rw same-amount at less) (rw same-amount at base)

-- records that stand for each other and add the same to a quantity give the same of it
pub same-quantity :
    (k : Kind) (r s : List ℕ) (to back : ℕ → ℕ) → ((j : ℕ) → j < data_of k r → to j < data_of k s) → ((l : ℕ) → l < data_of k s → back l < data_of k r) →
    ((j : ℕ) → j < data_of k r → back (to j) ≡ j) → ((l : ℕ) → l < data_of k s → to (back l) ≡ l) →
    (quantity : Quantity) → ((j : ℕ) → j < data_of k r → worth quantity (record_of k r (j + 1)) ≡ worth quantity (record_of k s (to j + 1))) →
    quantity_of k r quantity ≡ quantity_of k s quantity
unfolding quantity_of worth_at
same-quantity k r s to back inside outside there here quantity same =
    sym (sum-along (worth_at k r quantity) to back (data_of k s) (data_of k r) inside there (λ l h g. here l h)) ∙
    sum_same _ (worth_at k s quantity) (data_of k s)
    (λ l h. rw (lt-ltb (back l) (data_of k r) (outside l h)) (same (back l) (outside l h) ∙ ap (worth_at k s quantity) (here l h)))
