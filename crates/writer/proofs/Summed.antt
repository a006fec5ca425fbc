-- The sums of the records that are built, one record more at a time.
-- Assumes nothing.
use Prim.Native.Nat.{ℕ, ◌+◌, ◌*◌, ◌≤◌, ◌<◌, ◌^◌}
use mathlib.Core.Bool.{Bool, true, false, cond}
use mathlib.Core.List.{List, [], ◌∷◌, ◌++◌}
use mathlib.Core.Path.{◌≡◌, refl, sym, ◌∙◌, ap}
use mathlib.Core.Logic.{⊎_elim}
use native.Mathlib.Nat.{min-le_left}
use native.Mathlib.Omega.{arith}
use borrow.Author.Tests.{ltb-true, ltb-false}
use lib.Dec.{ltb, eqb}
use lib.ListN.{length, get_or, drop, length-take, length-drop, length-append}
use Rattle.laws.specs.Part.{part}
use Rattle.laws.specs.Sum.{sum}
use Rattle.laws.specs.Tabulate.{tabulate}
use Rattle.laws.proofs.Bools.{either}
use Rattle.laws.proofs.Sums.{sum_more, sum_bound, sum_same, sum-zero}
use Rattle.laws.proofs.Tabs.{tab-at, tab-same, tab-within, tab-length, tab-list, fill-at, fill-past}
use Rattle.kinds.specs.declared.of_files.Kind.{Kind}
use Rattle.kinds.specs.Kinds.{limit}
use Rattle.tables.specs.declared.totals.Quantity.{Quantity}
use Rattle.tables.specs.declared.totals.Quantity.TheVariants.{Records, OfKind, Amounts, Marked, AmountsMarked, MarkedByCentre}
use Rattle.tables.specs.Makers.{maker_of}
use Rattle.tables.proofs.Making.{centre-one}
use Rattle.tables.specs.Totals.{no_total, totals_of, most_totals}
use Rattle.layout.specs.Items.{application_of, amount_of, mark_of, code_of}
use Rattle.numbers.specs.Numbers.{value_of}
use Rattle.numbers.proofs.Values.{value-within}
use Rattle.records.specs.Quantities.{worth}
use Rattle.builder.specs.Records.{data_built, body_count, built_worth, built_quantity, built_total, built_totals}
use Rattle.writer.specs.Writing.{worth_for, worth_built, sum_to, sum_with}

-- what one record adds is small
amount-small : (rec : List ℕ) → amount_of rec ≤ 10 ^ 13
unfolding value_of part
amount-small rec = omega (arith, value-within (part 42 13 rec) (length (part 42 13 rec)) 13 (rw (length-take 13 (drop 42 rec)) (min-le_left 13 (length (drop 42 rec)))))

if-small : (b : Bool) (n m : ℕ) → n ≤ m → cond b n 0 ≤ m
if-small true n m h = h
if-small false n m h = omega arith

worth-small : (q : Quantity) (rec : List ℕ) → worth q rec ≤ 10 ^ 13
unfolding worth
worth-small Records rec = omega arith
worth-small (OfKind b) rec = if-small (eqb (application_of rec) b) 1 (10 ^ 13) (omega arith)
worth-small Amounts rec = amount-small rec
worth-small (Marked b) rec = if-small (eqb (mark_of rec) b) 1 (10 ^ 13) (omega arith)
worth-small (AmountsMarked b) rec = if-small (eqb (mark_of rec) b) (amount_of rec) (10 ^ 13) (amount-small rec)
worth-small (MarkedByCentre b) rec = if-small (eqb (mark_of rec) b) _ (10 ^ 13) (omega (arith, centre-one (maker_of (code_of rec))))

-- the sums that have no total stay
pub filled-rest :
    (f : ℕ → ℕ) (old : List ℕ) (n : ℕ) → n ≤ length old → ((i : ℕ) → n ≤ i → f i ≡ get_or old i 0) → tabulate f n ++ drop n old ≡ tabulate f (length old)
filled-rest f old n h rest = sym (tab-list f all each) ∙ ap (tabulate f) long
  where
    all : List ℕ
    all = tabulate f n ++ drop n old

    long : length all ≡ length old
    long = omega (arith, length-append (tabulate f n) (drop n old), tab-length f n, length-drop n old)

    each : (i : ℕ) → i < length all → f i ≡ get_or all i 0
    each i _ =
        ⊎_elim (λ l. sym (fill-at f old n i (ltb-true i n l))) (λ g. let p = ltb-false i n g in rest i p ∙ sym (fill-past f old n i p))
        (either (ltb i n))

module _ (k : Kind) (header bodies : List ℕ) where
  -- so a sum fits
  pub sums-small : (i : ℕ) → i ≤ limit → (t : ℕ) → t < most_totals → get_or (tabulate (sum_to k header bodies i) most_totals) t 0 ≤ limit * 10 ^ 13
  unfolding sum_to worth_built worth_for
  sums-small i h t l = rw (tab-at (sum_to k header bodies i) most_totals t l) (omega (arith, sum_bound (worth_built k header bodies t) (10 ^ 13) i (λ j _. each j)))
    where
      each : (j : ℕ) → worth_built k header bodies t j ≤ 10 ^ 13
      each j = if-small (ltb t (length (totals_of k))) _ (10 ^ 13) (worth-small (get_or (totals_of k) t no_total).3 (data_built k header bodies j))

  -- none yet, one more, all of them
  pub sums-start : (0 ∷ 0 ∷ 0 ∷ 0 ∷ 0 ∷ 0 ∷ []) ≡ tabulate (sum_to k header bodies 0) most_totals
  unfolding tabulate sum_to sum
  sums-start = refl

  pub sums-more : (i : ℕ) → tabulate (sum_with k (data_built k header bodies i) (tabulate (sum_to k header bodies i) most_totals)) most_totals ≡ tabulate (sum_to k header bodies (i + 1)) most_totals
  unfolding sum_with sum_to worth_built
  sums-more i =
      tab-within (sum_with k (data_built k header bodies i) (tabulate (sum_to k header bodies i) most_totals)) (sum_to k header bodies (i + 1)) most_totals more
    where
      more : (t : ℕ) → t < most_totals → get_or (tabulate (sum_to k header bodies i) most_totals) t 0 + worth_for k (data_built k header bodies i) t ≡ sum (worth_built k header bodies t) (i + 1)
      more t l = rw (tab-at (sum_to k header bodies i) most_totals t l) (sym (sum_more (worth_built k header bodies t) i))

  pub sums-end : tabulate (sum_to k header bodies (body_count k bodies)) most_totals ≡ built_totals k header bodies
  unfolding built_totals sum_to built_total built_quantity worth_built worth_for built_worth
  sums-end = tab-same (sum_to k header bodies (body_count k bodies)) (built_total k header bodies) most_totals all
    where
      some-total : (t : ℕ) → ltb t (length (totals_of k)) ≡ true → (i : ℕ) → i < body_count k bodies → worth_built k header bodies t i ≡ built_worth k header bodies (get_or (totals_of k) t no_total).3 i
      some-total t b i l = rw b

      no-total : (t : ℕ) → ltb t (length (totals_of k)) ≡ false → (i : ℕ) → i < body_count k bodies → worth_built k header bodies t i ≡ 0
      no-total t b i l = rw b

      all : (t : ℕ) → sum_to k header bodies (body_count k bodies) t ≡ built_total k header bodies t
      all t =
          ⊎_elim (λ b. rw b (sum_same (worth_built k header bodies t) (built_worth k header bodies (get_or (totals_of k) t no_total).3) (body_count k bodies) (some-total t b)))
          (λ b. rw b (sum-zero (worth_built k header bodies t) (body_count k bodies) (no-total t b)))
          (either (ltb t (length (totals_of k))))
